use Rattle.std.proofs.Common.{◌++◌, ◌∙◌, [], ap, ap₂, sym, subst, arith, length, length-append}
use Rattle.glb_bags.specs.Ranges.{AllWhole, AllOpen, all_items, all_made, all_closed}
use Rattle.glb_bags.proofs.RangesOfChildren.{AllWhole-append, all_items-append, all_made-append}
use Rattle.glb_bags.proofs.OpenedItems.{joined_open, joined_closed}
use Rattle.glb_bags.proofs.range_bag.merge_entries.Goals as goal

pub returns-clause-held : goal.returns-clause-held
returns-clause-held g c =
    let children = g.P.Program.children c.args._program.now in
    let old = c.args.entries.now.items in
    let more = c.args.other.entries.items in
    let ms = c.args.made.now.items in
    let ns = c.args.other.made.items in
    let made_is = c.in-Ok-append-2.ensures.items ∙ ap (λ l. l ++ ns) c.in-Ok.ensures.items in
    record {
      kept = record {
        whole = subst (AllWhole children) (sym c.in-Ok-append.ensures.items)
            (AllWhole-append children old more c.requires.held.kept.whole
            c.requires.other_held.kept.whole);
        made_is = ap (all_closed children []) made_is
            ∙ joined_closed children ms ns c.requires.other_held.all_open
            ∙ ap₂ (λ l m. l ++ m) c.requires.held.kept.made_is c.requires.other_held.kept.made_is
            ∙ sym (all_made-append children old more)
            ∙ sym (ap (all_made children) c.in-Ok-append.ensures.items);
      };
      all_open = subst (AllOpen children []) (sym made_is)
          (joined_open children ms ns c.requires.held.all_open c.requires.other_held.all_open);
    }

pub returns-clause-count : goal.returns-clause-count
returns-clause-count g c =
    let children = g.P.Program.children c.args._program.now in
    let old = c.args.entries.now.items in
    let more = c.args.other.entries.items in
    omega (
      arith,
      ap (λ es. length (all_items children es)) c.in-Ok-append.ensures.items,
      ap length (all_items-append children old more),
      length-append (all_items children old) (all_items children more),
      c.requires.count,
      c.requires.more,
      c.in-Some.ensures.1,
    )
