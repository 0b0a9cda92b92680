use Rattle.std.proofs.Common.{sym}
use Rattle.glb_rules.specs.Decision.{is_unseen}
use Rattle.glb_core.specs.Seen.{sight}
use Rattle.glb_place.proofs.ChoiceFacts.{looks_next, no_look, first_is_none}
use Rattle.glb_place.proofs.choice.choose.Goals as goal

pub returns-then-seek-clause-chooses : goal.returns-then-seek-clause-chooses
returns-then-seek-clause-chooses c =
    let w = c.seek.ensures.works c.if-seek.true in
    let h = c.seek.ensures.here c.if-seek.true in (
      h.0,
      λ d. looks_next c.args.state.now (sight c.args.seen.now) c.seek.new.first d w.0 w.1
          c.requires.not_halted c.requires.goes_on c.seek.ensures.looked h.0 (h.1 d),
    )

pub returns-in-Do-clause-chooses : goal.returns-in-Do-clause-chooses
returns-in-Do-clause-chooses c =
    let d = sym c.in-Do.ensures.rule in (
      d,
      no_look c.args.state.now (sight c.args.seen.now) c.requires.works
          (λ w o. first_is_none is_unseen c.args.seen.now.ins.items
          (c.seek.ensures.all c.if-seek.false w o)) c.in-Do.event d,
    )
