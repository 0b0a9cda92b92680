use Rattle.std.proofs.Common.{◌++◌, ◌∙◌, [], ap, map, arith, take, drop, length}
use Rattle.std.specs.Prelude.{Some}
use Rattle.std.proofs.lemmas.List.{take_at}
use Rattle.glb_bags.specs.Ranges.{all_closed, closed_item}
use Rattle.glb_bags.proofs.GroupsOfChildren.{kept_with_group}
use Rattle.glb_bags.proofs.OpenedItems.{held_more}
use Rattle.glb_bags.proofs.ahead.make_group.Goals as goal

pub make_and_open-requires-clause-numbers : goal.make_and_open-requires-clause-numbers
make_and_open-requires-clause-numbers g c =
    (c.ask_last.ensures.asked (g.P.Program.children c.args.program.now)
    c.requires.held.kept.whole).numbers

pub returns-clause-held : goal.returns-clause-held
returns-clause-held g c =
    let children = g.P.Program.children c.args.program.now in
    let is = c.ask_last.ensures.asked children c.requires.held.kept.whole in
    let group = take c.len-count.result c.make_and_open.new.fresh in
    let before = all_closed children [] c.args.made.now.items in
    held_more children c.args.entries.now.items c.ask_last.new.entries.items
    c.make_and_open.new.made.items c.put_made.new.made.items group
    c.make_and_open.ensures.all_open
    (kept_with_group children c.args.entries.now.items c.ask_last.new.entries.items
    c.ask_last.new.asked.items before group _ c.requires.held.kept is
    (ap (λ n. map Some (take n c.make_and_open.new.fresh)) c.len-count.ensures
    ∙ c.make_and_open.ensures.fresh)
    (ap (λ l. l ++ group)
    (c.make_and_open.ensures.same ∙ ap (all_closed children []) c.reserve-2.ensures.items)))
    (c.put_made.ensures
    ∙ ap (λ l. c.make_and_open.new.made.items ++ map closed_item (take c.len-count.result l))
    (c.deref.ensures.value
    ∙ take_at c.make_and_open.new.fresh
    (drop (length c.make_and_open.new.fresh) c.if-len-lt-GROUP.fresh.items) _
    (omega (arith, c.as_mut_slice.ensures.len, c.if-len-lt-GROUP.fresh.ok.0))))

pub returns-clause-count : goal.returns-clause-count
returns-clause-count g c =
    (c.ask_last.ensures.asked (g.P.Program.children c.args.program.now)
    c.requires.held.kept.whole).count

pub returns-clause-same : goal.returns-clause-same
returns-clause-same g c =
    (c.ask_last.ensures.asked (g.P.Program.children c.args.program.now)
    c.requires.held.kept.whole).same

pub returns-clause-ready : goal.returns-clause-ready
returns-clause-ready g c =
    (c.ask_last.ensures.asked (g.P.Program.children c.args.program.now)
    c.requires.held.kept.whole).ready
