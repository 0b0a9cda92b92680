-- Each event but Halt raises a number that stays below the bound.
pub mod Ranks
pub mod Shares
pub mod Rises
pub mod Runs
pub mod Items
