use Rattle.std.proofs.Common.{◌++◌, ◌∷◌, [], ◌∙◌, ap, sym, subst, arith, length, length-append}
use Rattle.std.specs.List.Sorted.{IsPermutation}
use Rattle.std.proofs.lemmas.List.Sorted.{IsPermutation-sym, IsPermutation-to_front}
use Rattle.glb_bags.specs.Ranges.{AllWhole, all_items, all_made, closed_item}
use Rattle.glb_bags.specs.declared.entry.Entry.TheVariants.{One}
use Rattle.glb_bags.proofs.RangesOfChildren.{AllWhole-append, all_items-append, all_made-append}
use Rattle.glb_bags.proofs.OpenedItems.{held_more}
use Rattle.glb_bags.proofs.range_bag.add_item.Goals as goal

pub returns-in-Ok-push-clause-held : goal.returns-in-Ok-push-clause-held
returns-in-Ok-push-clause-held g c =
    let children = g.P.Program.children c.args._program.now in
    let old = c.args.entries.now.items in
    let x = c.args.item in
    held_more children old _ c.args.made.now.items _ (x ∷ [])
    c.requires.all_open
    (record {
      whole = subst (AllWhole children) (sym c.in-Ok-push.ensures.items)
          (AllWhole-append children old (One x ∷ []) c.requires.kept.whole (tt, tt));
      made_is = ap (λ l. l ++ x ∷ []) c.requires.kept.made_is
          ∙ sym (all_made-append children old (One x ∷ []))
          ∙ sym (ap (all_made children) c.in-Ok-push.ensures.items);
    })
    (c.push_reserved.ensures.items ∙ ap (λ l. l ++ closed_item x ∷ []) c.in-Ok.ensures.items)

pub returns-in-Ok-push-clause-added : goal.returns-in-Ok-push-clause-added
returns-in-Ok-push-clause-added g c =
    let children = g.P.Program.children c.args._program.now in
    let old = all_items children c.args.entries.now.items in
    subst (IsPermutation (c.args.item ∷ old))
    (sym (ap (all_items children) c.in-Ok-push.ensures.items
    ∙ all_items-append children c.args.entries.now.items (One c.args.item ∷ [])))
    (IsPermutation-sym (old ++ c.args.item ∷ []) (c.args.item ∷ old)
    (IsPermutation-to_front old c.args.item))

pub returns-in-Ok-push-clause-more : goal.returns-in-Ok-push-clause-more
returns-in-Ok-push-clause-more g c =
    let children = g.P.Program.children c.args._program.now in
    let old = c.args.entries.now.items in
    omega (
      arith,
      ap (λ es. length (all_items children es)) c.in-Ok-push.ensures.items,
      ap length (all_items-append children old (One c.args.item ∷ [])),
      length-append (all_items children old) (c.args.item ∷ []),
    )
