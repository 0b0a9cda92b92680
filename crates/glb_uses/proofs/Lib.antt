pub mod Tops
pub mod Counting
pub mod SumsOfTrees
pub mod Starts
