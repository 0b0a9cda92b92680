-- What the contracts of private calls cite.
pub mod Forms
pub mod Flags
pub mod Ranges
