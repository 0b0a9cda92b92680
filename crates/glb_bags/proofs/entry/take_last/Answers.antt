use Rattle.std.proofs.Common.{◌∙◌, ap, sym, vec_len}
use Rattle.std.specs.Option.{option_to_list}
use Rattle.glb_bags.proofs.RangesOfChildren.{last_changed, last_gone}
use Rattle.glb_bags.proofs.entry.take_last.Goals as goal

pub returns-in-Some-clause-taken : goal.returns-in-Some-clause-taken
returns-in-Some-clause-taken g c = λ front e split.
    last_changed c.args.entries.now.items front e c.index.result.now c.in-Some.rest
    c.len-last.result
    (c.len-last.ensures ∙ c.args.entries.now.ok.0) c.requires.some split c.index.ensures
    (ap option_to_list (sym c.in-Some.is) ∙ c.without_last.ensures)

pub returns-clause-taken : goal.returns-clause-taken
returns-clause-taken g c = λ front e split.
    last_gone c.args.entries.now.items c.pop-entry.new.self.items front e c.index.result.now
    c.len-last.result (vec_len c.args.entries.now)
    (c.len-last.ensures ∙ c.args.entries.now.ok.0) c.args.entries.now.ok.0 split c.index.ensures
    (ap option_to_list (sym c.in_default.is) ∙ c.without_last.ensures) c.pop-entry.ensures.rest
