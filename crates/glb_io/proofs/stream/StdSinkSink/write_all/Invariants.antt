use Rattle.std.proofs.Common.{◌≡◌, ◌≤◌, ◌+◌, ◌-◌, length, take}
use Rattle.glb_io.specs.Bytes.{Gives}
use Rattle.glb_io.proofs.Streams.{told}
use Rattle.glb_io.proofs.stream.StdSinkSink.write_all.Given as goal

abbrev pub invariant-loop-done : goal.invariant-loop-done
invariant-loop-done g l = record {
  within : l.done ≤ length l.piece;
  few : l.tries ≤ 1000;
  given : Gives (told g.W.Write.contents l.fn.self.silent l.fn.self.inner)
      (told g.W.Write.contents l.self.silent l.self.inner) (take l.done l.piece);
  later : l.self.faults ≡ l.fn.self.faults;
}

abbrev pub decreases-loop-done : goal.decreases-loop-done
decreases-loop-done g l = (length l.piece - l.done) + (1000 - l.tries)
