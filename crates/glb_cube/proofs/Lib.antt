pub mod Cycles
pub mod WayFacts
pub mod DegreeFacts
pub mod GraphFacts
pub mod UnitFacts
pub mod RowFacts
pub mod WalkRounds
