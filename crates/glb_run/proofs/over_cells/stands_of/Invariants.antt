use Rattle.std.proofs.Common.{◌≡◌, ◌++◌, map, All}
use Rattle.glb_run.proofs.over_cells.stands_of.Given as goal

abbrev pub invariant-loop-berth : goal.invariant-loop-berth
invariant-loop-berth g l = record {
  whole : l.fn.berths.items ≡ l.yielded ++ l.berth-iterator.rest.items;
  cells : All (λ s. s.cells.now ≡ l.fn.cells) l.stands.items;
  berths : map (λ s. s.berth) l.stands.items ≡ l.yielded;
}
