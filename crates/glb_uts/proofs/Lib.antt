pub mod ChildrenAsked
pub mod ChildrenInARow
pub mod Messages
pub mod TreeTotals
