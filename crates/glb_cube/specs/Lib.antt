pub mod Digits
pub mod Lines
pub mod Ways
pub mod GraphLaws
pub use Rattle.glb_laws.specs.Numbers
