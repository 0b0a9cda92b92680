pub mod ListBag
pub mod Ranges
pub mod inner
pub use Rattle.glb_laws.specs.Bag
pub use Rattle.glb_laws.specs.Expansion
