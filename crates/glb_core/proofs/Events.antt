-- What events do to the tables.
pub mod Conditions
pub mod Items
pub mod Failed
