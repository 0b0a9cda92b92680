use Rattle.std.proofs.Common.{◌∙◌, [], ap, map}
use Rattle.glb_bags.specs.Ranges.{all_closed, closed_item}
use Rattle.glb_bags.proofs.OpenedItems.{held_closed}
use Rattle.glb_bags.proofs.halves.close.Goals as goal

pub returns-clause-held : goal.returns-clause-held
returns-clause-held g c =
    let children = g.P.Program.children c.args.program.now in
    held_closed children c.args._entries.now.items
    (all_closed children [] c.args.made.now.items) c.in_ok-made.field-0.items c.requires.held.kept
    (c.in_ok-made.ensures
    ∙ ap (λ l. map closed_item (all_closed children [] l)) c.deref.ensures.value)
