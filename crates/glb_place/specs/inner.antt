-- What contracts inside the crate say; no exported contract reaches it.
pub mod Seeing
pub mod Standing
pub mod Polling
