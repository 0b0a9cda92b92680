pub mod Descriptors
pub mod Binomial
pub mod Totals
pub mod inner
pub use Rattle.glb_laws.specs.Bounded
pub use Rattle.glb_laws.specs.Pair
pub use Rattle.glb_laws.specs.Tree
pub use Rattle.sha1.specs.Sha1
