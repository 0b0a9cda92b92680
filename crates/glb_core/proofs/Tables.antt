-- What the rows of the tables show.
pub mod EdgeRows
pub mod PlaceRows
pub mod Views
pub mod Fits
