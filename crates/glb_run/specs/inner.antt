pub mod Plays
pub mod Stops
pub mod Answers
pub mod Draws
pub mod Tasks
pub mod CellRuns
pub mod Hands
