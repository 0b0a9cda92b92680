-- What the laws of the search stand on; no contract cites it.
pub mod Ranks
pub mod Caps
