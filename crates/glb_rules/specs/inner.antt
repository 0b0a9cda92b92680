-- What contracts inside crates say of a place; no exported contract reaches it.
pub mod OwnSide
