-- What the contracts of private functions cite.
pub mod Entries
pub mod LastItem
