-- The numbers of edges, the words of the start, and the world that they show.
pub mod Drops
pub mod Starting
pub mod Opens
pub mod Numbering
pub mod Rows
pub mod Named
pub mod Making
