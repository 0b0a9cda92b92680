use Rattle.std.proofs.Common.{◌≡◌, ◌++◌, map, drop}
use Rattle.glb_core.specs.Seen.{first_line_in}
use Rattle.glb_core.proofs.seen.push_lines.Given as goal

abbrev pub invariant-loop-thief : goal.invariant-loop-thief
invariant-loop-thief l =
    record {
      made : l.ins.items ++ map first_line_in (drop l.thief-index l.thieves) ≡ l.fn.ins.items
          ++ map first_line_in l.thieves;
    }
