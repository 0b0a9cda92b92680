use Rattle.std.proofs.Common.{◌≡◌, ◌++◌, [], None, All, map, vec_len}
use Rattle.glb_cells.proofs.closing.gather_all.Given as goal

abbrev pub invariant-loop-berth : goal.invariant-loop-berth
invariant-loop-berth g l = record {
  one : (l.all.table_id ≡ l.cells.table_id) × (l.all.me.1 ≡ []);
  here : All (λ b. (b.object ≡ l.cells.table_id) × (b.slot ≡ None)) l.berths.items;
  whole : map (λ b. b.kept) l.berths.items ++ map (λ r. r.own) l.all.me.0 ≡ map (λ b. b.kept)
      l.fn.berths.items;
}

abbrev pub decreases-loop-berth : goal.decreases-loop-berth
decreases-loop-berth g l = vec_len l.berths
