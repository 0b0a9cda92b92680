use Rattle.std.proofs.Common.{sym, subst}
use Rattle.glb_core.specs.Seen.{IsMadeFor}
use Rattle.glb_core.proofs.Lifelines.Seen.{first_is, first_made}
use Rattle.glb_core.proofs.seen.Seen.new.Goals as goal

pub returns-clause-first : goal.returns-clause-first
returns-clause-first c =
    first_is c.args.lines.now c.args.place c.places.result c.new-ins.result.items
    c.push_steals.new.ins.items c.push_lines.new.ins.items
    c.into.result.now c.out.result.now c.in_ok-outs.outs.items
    c.new-ins.ensures.items c.places.ensures.places c.in_ok-push_steals.ensures c.into.ensures.sources
    c.in_ok-push_lines.ensures c.out.ensures.targets c.in_ok-outs.ensures

pub returns-clause-made : goal.returns-clause-made
returns-clause-made c =
    subst (IsMadeFor c.args.lines.now c.args.place)
    (sym (first_is c.args.lines.now c.args.place c.places.result c.new-ins.result.items
    c.push_steals.new.ins.items c.push_lines.new.ins.items
    c.into.result.now c.out.result.now c.in_ok-outs.outs.items
    c.new-ins.ensures.items c.places.ensures.places c.in_ok-push_steals.ensures c.into.ensures.sources
    c.in_ok-push_lines.ensures c.out.ensures.targets c.in_ok-outs.ensures))
    (first_made c.args.lines.now c.args.place)
