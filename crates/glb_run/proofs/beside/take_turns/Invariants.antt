use Rattle.std.proofs.Common.{◌≡◌, ◌≢◌, ℕ, ◌<◌, None, length, get_or, true}
use Rattle.glb_place.specs.Calls.{SameObject}
use Rattle.glb_run.proofs.beside.take_turns.Given as goal

abbrev pub invariant-loop-place : goal.invariant-loop-place
invariant-loop-place g l = record {
  many : length l.places ≡ length l.fn.places;
  same : (i : ℕ) (d : _) → i < length l.fn.places
      → SameObject g.F.Fabric.program g.F.Fabric.home g.F.Fabric.refuses
      (get_or l.fn.places i d).fabric (get_or l.places i d).fabric;
  ended : l.ended ≡ true → (i : ℕ) (d : _) → i < l.place-index
      → (get_or l.places i d).ended ≢ None;
}
