-- What contracts inside the crate say of turns; no exported contract reaches it.
pub mod Turns
pub mod Watches
