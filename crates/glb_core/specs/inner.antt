-- What contracts inside the crate say of the tables; no exported contract reaches it.
pub mod Effects
pub mod ItemEffects
pub mod Conditions
pub mod Sights
pub mod Start
