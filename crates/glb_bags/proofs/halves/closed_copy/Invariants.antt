use Rattle.std.proofs.Common.{◌≡◌, ◌≤◌, [], map, take, vec_len, length}
use Rattle.std.specs.Prelude.{vec_capacity}
use Rattle.glb_bags.specs.Ranges.{closed_item, all_closed}
use Rattle.glb_bags.proofs.halves.closed_copy.Given as goal

abbrev pub invariant-loop-each : goal.invariant-loop-each
invariant-loop-each g l = record {
  copy : l.copy.items
      ≡ map closed_item (all_closed (g.P.Program.children l.program) [] (take l.each-index l.made));
  len : vec_len l.copy ≤ l.each-index;
  capacity : length l.made ≤ vec_capacity l.copy;
}
