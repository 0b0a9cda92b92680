use Rattle.std.proofs.Common.{◌≡◌, ℕ, ◌<◌, [], drop, length, get_or}
use Rattle.glb_cells.specs.Starts.{setup_from}
use Rattle.glb_cells.specs.Berths.{BerthView}
use Rattle.glb_cells.specs.inner.Seats.{HasFirst}
use Rattle.glb_cells.proofs.opening.deal_all.Given as goal

abbrev pub invariant-loop-place : goal.invariant-loop-place
invariant-loop-place g l = record {
  table : l.dealer.table_id ≡ l.cells.table_id;
  left : l.dealer.me.0 ≡ drop l.place l.initial.dealer.me.0;
  none : l.dealer.me.1 ≡ [];
  many : length l.berths.items ≡ l.place;
  first : (p : ℕ) (d : BerthView g.row.P.Denot g.row.P-Item.Denot) → p < length l.berths.items
      → HasFirst (setup_from g.B.Bag.items g.B.Bag.fits g.P.Program.children l.cells.key)
      l.cells.table_id p (get_or l.berths.items p d);
}
