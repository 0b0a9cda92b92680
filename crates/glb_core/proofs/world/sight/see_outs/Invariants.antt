use Rattle.std.proofs.Common.{◌≡◌, ◌<◌, ◌≤◌, ℕ, get_or}
use Rattle.glb_core.specs.inner.Sights.{out_seen}
use Rattle.glb_core.proofs.world.sight.see_outs.Given as goal

abbrev pub invariant-loop-edge : goal.invariant-loop-edge
invariant-loop-edge g l = record {
  seen : (i : ℕ) (d e : _) → i < l.edge-index
      → get_or l.outs i d ≡ out_seen l.edge_rows l.places l.place (get_or l.fn.outs i e);
  left : (i : ℕ) (d : _) → l.edge-index ≤ i → get_or l.outs i d ≡ get_or l.fn.outs i d;
}
