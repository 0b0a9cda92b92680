use Rattle.std.proofs.Common.{◌≡◌, ◌≢◌, length}
use Rattle.glb_rules.specs.declared.local.EdgeName.{EdgeName}
use Rattle.glb_place.specs.Calls.{SameObject}
use Rattle.glb_place.specs.Turns.{Learns}
use Rattle.glb_place.specs.inner.Standing.{HoldsAt, AgreesAt}
use Rattle.glb_place.specs.inner.Polling.{LookedInto, SameCounts, out_names}
use Rattle.glb_place.proofs.poll.poll_outs.Given as goal

abbrev pub invariant-loop-at : goal.invariant-loop-at
invariant-loop-at g l = record {
  holds : HoldsAt g.B.Bag.items g.B.Bag.fits g.P.Program.value g.P.Value.Monoid.unit
      g.P.Value.Monoid.combine g.F.Fabric.program g.F.Fabric.kept l.held;
  agrees : AgreesAt g.B.Bag.items g.F.Fabric.kept l.held;
  learns : Learns (g.F.Fabric.kept l.fn.held.fabric) (g.F.Fabric.kept l.held.fabric);
  many : length l.held.seen.outs.items ≡ length l.fn.held.seen.outs.items;
  bound : l.at-end ≡ length l.fn.held.seen.outs.items;
  into : LookedInto (out_names (g.F.Fabric.kept l.fn.held.fabric).lines
      (g.F.Fabric.kept l.fn.held.fabric).place) l.at (g.F.Fabric.looks l.fn.held.fabric)
      (g.F.Fabric.looks l.held.fabric);
  ins : (n : EdgeName) → n.thief ≢ (g.F.Fabric.kept l.fn.held.fabric).place
      → (g.F.Fabric.looks l.held.fabric).edge n ≡ (g.F.Fabric.looks l.fn.held.fabric).edge n;
  home : SameObject g.F.Fabric.program g.F.Fabric.home g.F.Fabric.refuses l.fn.held.fabric
      l.held.fabric;
  counts : SameCounts (g.F.Fabric.looks l.fn.held.fabric) (g.F.Fabric.looks l.held.fabric);
}
