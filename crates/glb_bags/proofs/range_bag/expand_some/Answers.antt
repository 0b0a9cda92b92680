use Rattle.std.proofs.Common.{◌≡◌, [], length, arith, sym, ap, vec_len}
use Rattle.std.proofs.lemmas.Bool.{eqb-true}
use Rattle.std.proofs.lemmas.List.{nil_from_length}
use Rattle.std.proofs.lemmas.List.Sorted.{length_permutation}
use Rattle.glb_laws.proofs.Expansions.{batch_append, batch_still, batch_empty}
use Rattle.glb_bags.specs.Ranges.{all_items}
use Rattle.glb_bags.proofs.ItemsAtTheEnd.{taken_last}
use Rattle.glb_bags.proofs.RangesOfChildren.{AllWhole-some}
use Rattle.glb_bags.proofs.range_bag.expand_some.Goals as goal

pub loop-done-preserved : goal.loop-done-preserved
loop-done-preserved g c = record {
  within = omega arith;
  held = c.expand_last.ensures.held;
  count = c.expand_last.ensures.count;
  so_far = batch_append _ _ _ _ _ _ _ _ _ _ _ c.loop-done.invariant.so_far
      (taken_last _ _ _ _ _ _ _ c.in-Ok.ensures.expanded);
}

pub returns-in-Err-clause-left : goal.returns-in-Err-clause-left
returns-in-Err-clause-left g c =
    let children = g.P.Program.children c.args.program.now in (
      c.loop-done-test.true,
      omega (
        arith,
        c.in-Err.ensures.some,
        AllWhole-some children c.expand_last.new.entries.items
            c.expand_last.ensures.held.kept.whole,
      ),
    )

pub returns-else-not-is_empty-clause-none : goal.returns-else-not-is_empty-clause-none
returns-else-not-is_empty-clause-none g c =
    let children = g.P.Program.children c.args.program.now in
    let none : vec_len c.loop-done.entries ≡ 0 = eqb-true _ _ (sym c.if-not-is_empty.ensures) in
    let empty : c.loop-done.entries.items ≡ [] =
    nil_from_length c.loop-done.entries.items (omega (arith, c.loop-done.entries.ok.0, none)) in (
      λ zero.
          nil_from_length _ (omega (
            arith,
            ap (λ l. length (all_items children l)) empty,
            length_permutation _ _
                (batch_still _ _ _ _ _ _ _ _ c.loop-done.invariant.so_far zero),
          )),
      λ start. batch_empty _ _ _ _ _ _ _ _ c.loop-done.invariant.so_far start,
    )

pub returns-after-loop-done-clause-none : goal.returns-after-loop-done-clause-none
returns-after-loop-done-clause-none g c = (
  λ zero. absurd (omega arith),
  λ start. batch_empty _ _ _ _ _ _ _ _ c.loop-done.invariant.so_far start,
)
