-- What private contracts cite.
pub mod Numbers
pub mod Ready
pub mod Keeping
pub mod Seats
pub mod Raising
