pub mod Runs
pub mod Spread
pub use Rattle.glb_laws.specs.Expansion
pub use Rattle.glb_laws.specs.Tree
pub use Rattle.glb_laws.specs.Joins
