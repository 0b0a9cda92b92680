use Rattle.std.proofs.Common.{◌≡◌, ℕ, ◌<◌, length, get_or}
use Rattle.glb_place.specs.Calls.{SameObject}
use Rattle.glb_run.proofs.beside.end_by_turns.Given as goal

abbrev pub invariant-loop : goal.invariant-loop
invariant-loop g l = record {
  many : length l.places ≡ length l.fn.places;
  same : (i : ℕ) (d : _) → i < length l.fn.places
      → SameObject g.F.Fabric.program g.F.Fabric.home g.F.Fabric.refuses
      (get_or l.fn.places i d).fabric (get_or l.places i d).fabric;
}
