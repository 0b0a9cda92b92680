-- The items done and left are an expansion of the roots.
pub mod Kept
