-- What contracts inside the crate say; no exported contract reaches it.
pub mod Compressed
pub mod Reading
pub mod Tables
