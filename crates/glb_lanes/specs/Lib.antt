pub mod inner
pub use Rattle.sha1.specs.Sha1
