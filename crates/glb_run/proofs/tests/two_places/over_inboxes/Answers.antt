use Rattle.std.proofs.Common.{◌∙◌, ap, map}
use Rattle.glb_run.specs.inner.Hands.{two_params, two_places}
use Rattle.glb_run.proofs.InboxFacts.{desks_first, desks_programs}
use Rattle.glb_run.proofs.tests.two_places.over_inboxes.Goals as goal

pub play_two-requires-clause-first : goal.play_two-requires-clause-first
play_two-requires-clause-first g c =
    let made = c.in-Ok in
    desks_first made.post made.desks.items made.ensures.desks c.args.program.now two_params two_places
    (map g.B.Bag.items c.args.bags.items) made.ensures.program
    (made.ensures.params ∙ c.requires.params) (made.ensures.lines ∙ c.requires.lines)
    (made.ensures.bags ∙ ap (map g.B.Bag.items) c.deref.ensures.value)

pub play_two-requires-clause-programs : goal.play_two-requires-clause-programs
play_two-requires-clause-programs g c =
    let made = c.in-Ok in
    desks_programs made.post made.desks.items made.ensures.desks c.args.program.now two_params two_places
    (map g.B.Bag.items c.args.bags.items) made.ensures.program
    (made.ensures.params ∙ c.requires.params) (made.ensures.lines ∙ c.requires.lines)
    (made.ensures.bags ∙ ap (map g.B.Bag.items) c.deref.ensures.value)
