use Rattle.std.proofs.Common.{◌≡◌, ◌++◌, map, drop}
use Rattle.glb_core.specs.Seen.{first_line_out}
use Rattle.glb_core.proofs.seen.refused_lines.Given as goal

abbrev pub invariant-loop-victim : goal.invariant-loop-victim
invariant-loop-victim l =
    record {
      made : l.outs.items
          ++ map first_line_out (drop l.victim-index l.victims) ≡ map first_line_out l.victims;
    }
