-- Sums over places and edges, and lists of lists.
pub mod Totals
pub mod Members
