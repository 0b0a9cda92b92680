-- Lists joined by number.
pub use Rattle.glb_laws.specs.Joins.{join_to}
