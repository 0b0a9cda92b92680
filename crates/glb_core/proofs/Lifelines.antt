-- The lifeline graph gives a proper setup, and a place sees its edges.
pub mod Setups
pub mod Seen
