-- What the contracts of private functions cite.
pub mod Tops
pub mod Starts
