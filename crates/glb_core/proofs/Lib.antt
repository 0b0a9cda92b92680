pub mod Lifelines
pub mod Ends
pub mod Tables
pub mod Events
pub mod Start
pub mod Sights
pub mod CallerLemmas
