-- The edges of a world: their marks, names and numbers.
pub mod Marks
pub mod Names
pub mod Named
pub mod Made
pub mod Numbers
