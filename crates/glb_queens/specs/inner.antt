-- What the board's own fields hold, for the contracts of private functions.
pub mod Masks
