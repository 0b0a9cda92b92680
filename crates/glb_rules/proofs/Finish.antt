-- Finished worlds are quiet, no work is stranded, no world is stuck, and the counts balance.
pub mod Histories
pub mod Quiet
pub mod Sleepers
pub mod NoneStuck
pub mod Balances
