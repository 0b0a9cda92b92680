-- What a place decides is enabled, and some place decides on an event.
pub mod Draws
pub mod Sees
pub mod Sights
pub mod Choices
pub mod Bystanders
pub mod Events
pub mod Actors
pub mod Led
pub mod Polling
pub mod Runs
