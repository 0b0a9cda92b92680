pub mod Boards
pub mod inner
pub use Rattle.glb_laws.specs.Bounded
pub use Rattle.glb_laws.specs.Tree
