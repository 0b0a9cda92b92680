pub mod Forests
pub mod Orders
pub mod Sizes
pub mod Folds
pub mod Dealing
pub mod Spreading
