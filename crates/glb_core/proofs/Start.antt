-- The tables of a start.
pub mod Filled
pub mod Made
