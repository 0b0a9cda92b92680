use Rattle.std.proofs.Common.{◌≡◌, ◌++◌, map, All}
use Rattle.glb_cells.specs.Berths.{IsOf}
use Rattle.glb_run.proofs.over_cells.berths_of.Given as goal

abbrev pub invariant-loop-stand : goal.invariant-loop-stand
invariant-loop-stand g l = record {
  whole : l.fn.stands.items ≡ l.yielded ++ l.stand-iterator.rest.items;
  here : All (λ s. IsOf s.cells.now s.berth) l.yielded;
  berths : l.berths.items ≡ map (λ s. s.berth) l.yielded;
}
