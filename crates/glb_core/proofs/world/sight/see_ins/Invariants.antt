use Rattle.std.proofs.Common.{◌≡◌, ◌<◌, ◌≤◌, ℕ, get_or}
use Rattle.glb_core.specs.inner.Sights.{in_seen}
use Rattle.glb_core.proofs.world.sight.see_ins.Given as goal

abbrev pub invariant-loop-edge : goal.invariant-loop-edge
invariant-loop-edge g l = record {
  seen : (i : ℕ) (d e : _) → i < l.edge-index
      → get_or l.ins i d ≡ in_seen l.place_row l.edge_rows l.places l.place (get_or l.fn.ins i e);
  left : (i : ℕ) (d : _) → l.edge-index ≤ i → get_or l.ins i d ≡ get_or l.fn.ins i d;
}
