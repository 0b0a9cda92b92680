-- Runs over small trees end, and the counters of finished worlds balance.
pub mod Runs
pub mod Counts
pub mod Balanced
pub mod Reported
