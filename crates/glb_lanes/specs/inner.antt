-- What the contracts of private functions cite.
pub mod Lanes
pub mod Rows
