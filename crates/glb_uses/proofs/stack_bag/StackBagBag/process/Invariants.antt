use Rattle.glb_laws.specs.Expansion.{Expands}
use Rattle.glb_uses.proofs.stack_bag.StackBagBag.process.Given as goal

abbrev pub invariant-loop-done : goal.invariant-loop-done
invariant-loop-done g l =
    Expands (g.P.Program.children l.program) (g.P.Program.value l.program)
    g.P.Value.Monoid.combine l.fn.self.items.items l.fn.acc l.done l.self.items.items l.acc
