use Rattle.std.proofs.Common.{◌≡◌, ◌++◌, All}
use Rattle.glb_turns.proofs.BagFacts.{Matches}
use Rattle.glb_run.proofs.roots.bags_of.Given as goal

abbrev pub invariant-loop-list : goal.invariant-loop-list
invariant-loop-list g l = record {
  whole : l.fn.roots.items ≡ l.yielded ++ l.list-iterator.rest.items;
  fits : All (λ b. g.B.Bag.fits b l.program) l.bags.items;
  matches : Matches (λ v. v.items) g.B.Bag.items l.yielded l.bags.items;
}
