use Rattle.std.proofs.Common.{◌≡◌, ◌+◌, length, drop}
use Rattle.glb_cells.specs.inner.Numbers.{fill}
use Rattle.glb_cells.proofs.numbers.fill_row.Given as goal

abbrev pub invariant-loop-victim : goal.invariant-loop-victim
invariant-loop-victim l = record {
  rest : fill l.numbers.items l.base l.next (drop l.victim-index l.row) ≡ fill l.fn.numbers.items
      l.base l.first l.row;
  long : length l.numbers.items ≡ length l.fn.numbers.items;
  next : l.next ≡ l.first + l.victim-index;
}
