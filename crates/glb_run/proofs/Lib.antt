mod BesideFacts
pub mod CellFacts
pub mod ChildFacts
pub mod CloseFacts
pub mod GraphFacts
pub mod InboxFacts
pub mod PlayedFacts
pub mod RootFacts
pub mod RunFacts
pub mod ServeFacts
pub mod SmallFacts
pub mod TurnsFacts
pub mod ThreadsFacts
pub mod TrialFacts
pub mod HandFacts
pub mod PairFacts
