use Rattle.std.proofs.Common.{◌≡◌, arith, sym, vec_len}
use Rattle.std.proofs.lemmas.Bool.{eqb-true}
use Rattle.std.proofs.lemmas.List.{nil_from_length}
use Rattle.std.proofs.lemmas.List.Sorted.{length_permutation}
use Rattle.glb_laws.proofs.Expansions.{batch_append, batch_still, batch_empty}
use Rattle.glb_bags.proofs.ItemsAtTheEnd.{taken_last}
use Rattle.glb_bags.proofs.list_bag.expand_some.Goals as goal
use Rattle.glb_bags.proofs.list_bag.expand_some.Goals.{then-loop-done-test+else-not-is_empty, else-loop-done-test}

pub loop-done-preserved : goal.loop-done-preserved
loop-done-preserved g c =
    record {
      within = omega arith;
      so_far = batch_append _ _ _ _ _ _ _ _ _ _ _ c.loop-done.invariant.so_far
          (taken_last _ _ _ _ _ _ _ c.in-Ok.ensures.expanded);
    }

pub returns-clause-none : goal.returns-clause-none
returns-clause-none g c =
    let so_far = c.loop-done.invariant.so_far in
    let long = c.loop-done.items.ok.0 in (
      λ zero. elim c.loop-done-test.branch [
        | then-loop-done-test+else-not-is_empty w ↦
            let none : vec_len c.loop-done.items
            ≡ 0 = eqb-true _ _ (sym w.if-not-is_empty.ensures) in
            nil_from_length _ (omega
            (arith, long, length_permutation _ _ (batch_still _ _ _ _ _ _ _ _ so_far zero)))
        | else-loop-done-test w ↦ absurd (omega (arith, zero, w.loop-done-test, c.requires.some))
      ],
      λ empty. batch_empty _ _ _ _ _ _ _ _ so_far empty,
    )
