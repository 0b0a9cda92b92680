use Rattle.std.proofs.Common.{◌≡◌, ◌*◌, ◌≤◌, ◌+◌, ◌-◌}
use Rattle.glb_cells.specs.inner.Numbers.{filled, first_number}
use Rattle.glb_cells.proofs.numbers.line_numbers.Given as goal

abbrev pub invariant-loop-thief : goal.invariant-loop-thief
invariant-loop-thief l = record {
  numbers : l.numbers.items ≡ filled l.lines l.thief;
  next : l.next ≡ first_number l.lines l.thief;
  small : l.next ≤ l.lines.places * (l.lines.places - 1) + l.thief * 6;
}
