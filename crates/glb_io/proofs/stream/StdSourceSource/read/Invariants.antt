use Rattle.std.proofs.Common.{◌≡◌, ◌⊎◌, true}
use Rattle.glb_io.proofs.stream.StdSourceSource.read.Given as goal

abbrev pub invariant-loop : goal.invariant-loop
invariant-loop g l = record {
  quiet : (l.self.silent ≡ true)
      ⊎ ((l.self.silent ≡ l.fn.self.silent) × (l.self.inner ≡ l.fn.self.inner));
  later : l.self.faults ≡ l.fn.self.faults;
}
