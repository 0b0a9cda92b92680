pub mod Sums
pub mod EdgeLemmas
pub mod Invariant
pub mod Expansion
pub mod Finish
pub mod Bound
pub mod Decisions
pub mod CallerLemmas
