use Rattle.std.proofs.Common.{◌≢◌, ◌∙◌, ◌<◌, None, arith, get_or, length, sym}
use Rattle.std.proofs.lemmas.List.{length-set}
use Rattle.glb_place.proofs.Entries.{same_or}
use Rattle.glb_run.proofs.BesideFacts.{ended_more, hold_more}
use Rattle.glb_run.proofs.beside.take_turns.Goals.{then-ended, else-ended}
use Rattle.glb_run.proofs.beside.take_turns.Goals as goal

pub loop-place-preserved : goal.loop-place-preserved
loop-place-preserved g c =
    let i = c.loop-place.invariant in
    let turn = c.take_turn-has_ended in
    let list = c.loop-place.places in
    let k = c.loop-place.place-index in
    let t = c.loop-place-test.true in let within : k < length list = omega (arith, t, i.many) in
    record {
      many = length-set list k turn.new.place ∙ i.many;
      same = hold_more g.F.Fabric.program g.F.Fabric.home g.F.Fabric.refuses (λ p. p.fabric)
          c.args.places.now list k (get_or list k c.place-item.result) turn.new.place within i.same
          (λ d. same_or list k d c.place-item.result within)
          turn.ensures.same;
      ended = λ e. elim c.if-ended.branch [
        | then-ended w ↦ ended_more (λ p. p.ended ≢ None) list k turn.new.place within
            (i.ended w.if-ended.true) (turn.ensures.ended (sym w.ended-is ∙ e))
        | else-ended w ↦ let h = w.ended-is in cc
      ];
    }

pub returns-clause-ended : goal.returns-clause-ended
returns-clause-ended g c = λ e k d l. c.loop-place.invariant.ended e k d
    (let h = c.loop-place-test.false in omega (arith, h))
