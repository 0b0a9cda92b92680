-- What the tables tell of a place.
pub mod Told
pub mod Alike
