-- What contracts inside the crate say; no exported contract reaches it.
pub mod Members
pub mod Rule
pub mod Views
pub mod Ends
pub mod Plays
pub mod Begins
pub mod Acts
pub mod Posted
pub mod Close
pub mod Dealt
pub mod Books
pub mod Desks
pub mod Firsts
pub mod Lanes
