use Rattle.std.proofs.Common.{sym, ◌∙◌}
use Rattle.glb_cube.proofs.Cycles.{target_small}
use Rattle.glb_cube.proofs.WalkRounds.{there_at, stuck_at, on_at, end_at, stop_out, stop_last}
use Rattle.glb_cube.proofs.WalkRounds.{on_out, on_last}
use Rattle.glb_cube.proofs.ways.follow.Goals as goal

pub returns-then-digit-goal-clause-ok : goal.returns-then-digit-goal-clause-ok
returns-then-digit-goal-clause-ok c =
    stop_out _ _ _ (there_at c.args.shape.places c.args.shape.base c.args.unit c.args.goal
    c.loop-i.reached c.loop-i._i c.loop-i-test.true (sym c.digit.ensures ∙ c.if-digit-goal.true))
    c.loop-i.invariant.left

pub returns-then-digit-goal-clause-last : goal.returns-then-digit-goal-clause-last
returns-then-digit-goal-clause-last c =
    stop_last _ _ _ (there_at c.args.shape.places c.args.shape.base c.args.unit c.args.goal
    c.loop-i.reached c.loop-i._i c.loop-i-test.true (sym c.digit.ensures ∙ c.if-digit-goal.true))
    c.loop-i.invariant.last

pub returns-in-None-clause-ok : goal.returns-in-None-clause-ok
returns-in-None-clause-ok c =
    stop_out _ _ _ (stuck_at c.args.shape.places c.args.shape.base c.args.unit c.args.goal
    c.loop-i.reached c.loop-i._i c.loop-i-test.true (λ e. c.if-digit-goal.false (c.digit.ensures ∙ e))
    (sym c.in-None.ensures)) c.loop-i.invariant.left

pub returns-in-None-clause-last : goal.returns-in-None-clause-last
returns-in-None-clause-last c =
    stop_last _ _ _ (stuck_at c.args.shape.places c.args.shape.base c.args.unit c.args.goal
    c.loop-i.reached c.loop-i._i c.loop-i-test.true (λ e. c.if-digit-goal.false (c.digit.ensures ∙ e))
    (sym c.in-None.ensures)) c.loop-i.invariant.last

pub loop-i-preserved : goal.loop-i-preserved
loop-i-preserved c =
    let on = on_at c.args.shape.places c.args.shape.base c.args.unit c.args.goal c.loop-i.reached
    c.loop-i._i c.in-Some.q c.loop-i-test.true (λ e. c.if-digit-goal.false (c.digit.ensures ∙ e))
    (sym c.in-Some.ensures) in
    record {
      small = target_small c.args.shape.places c.args.shape.base c.args.unit c.loop-i.reached c.in-Some.q
          (sym c.in-Some.ensures);
      left = on_out _ _ _ _ _ _ on c.in_ok-push-in-Some.ensures.items c.loop-i.invariant.left;
      last = on_last _ _ _ _ _ on c.loop-i.invariant.last;
    }

pub returns-clause-ok : goal.returns-clause-ok
returns-clause-ok c =
    stop_out _ _ _ (end_at c.args.shape.places c.args.shape.base c.args.unit c.args.goal c.loop-i.reached
    c.loop-i._i c.loop-i-test.false) c.loop-i.invariant.left

pub returns-clause-last : goal.returns-clause-last
returns-clause-last c =
    stop_last _ _ _ (end_at c.args.shape.places c.args.shape.base c.args.unit c.args.goal c.loop-i.reached
    c.loop-i._i c.loop-i-test.false) c.loop-i.invariant.last
