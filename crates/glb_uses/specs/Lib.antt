pub mod SubsetSums
pub mod GreatestFirst
pub mod inner
