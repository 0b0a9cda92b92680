use Rattle.std.proofs.Common.{◌≡◌, ◌≤◌, ◌-◌, length, vec_len}
use Rattle.glb_run.specs.Streams.{change, Reads}
use Rattle.glb_run.proofs.reading.read_all.Given as goal

abbrev pub invariant-loop-input : goal.invariant-loop-input
invariant-loop-input g l = record {
  reads : Reads l.input.items (change g.S.Source.left g.S.Source.faults l.fn.source l.source);
  within : length l.input.items ≤ 16777216;
  piece : length l.piece ≡ 8192;
}

abbrev pub decreases-loop-input : goal.decreases-loop-input
decreases-loop-input g l = 16777217 - vec_len l.input
