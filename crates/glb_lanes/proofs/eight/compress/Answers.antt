use Rattle.std.proofs.Common.{◌+◌, ◌*◌, arith}
use Rattle.sha1.specs.Sha1.{rounds}
use Rattle.glb_lanes.proofs.WordsAndRounds.{run_at, scheduled_at, scheduled_less}
use Rattle.glb_lanes.proofs.eight.compress.Goals as goal

pub words-init : goal.words-init
words-init c j lt b is = c.lay_first.ensures j lt b is

pub words-preserved : goal.words-preserved
words-preserved c j lt b is =
    scheduled_at b _ _ _ (omega arith) (c.lay_next.ensures j lt b (c.words.invariant j lt b is))

pub choose-init : goal.choose-init
unfolding rounds
choose-init c j lt b is = c.initial-v.ensures j lt

pub choose-preserved : goal.choose-preserved
choose-preserved c j lt b is =
    let laid = scheduled_less b _ (c.words.t + 16) (5 * c.choose.group + 5) (omega arith)
    (c.words.invariant j lt b is) in
    run_at b _ _ _ (omega arith)
    (c.choose_five-next.ensures j (5 * c.choose.group) lt (omega arith) b
    (c.five.ensures j lt b laid) (c.choose.invariant j lt b is))

pub parity-init : goal.parity-init
parity-init c j lt b is = run_at b _ _ _ (omega arith) (c.choose.invariant j lt b is)

pub parity-preserved : goal.parity-preserved
parity-preserved c j lt b is =
    let laid = scheduled_less b _ (c.words.t + 16) (5 * c.parity.group + 5) (omega arith)
    (c.words.invariant j lt b is) in
    run_at b _ _ _ (omega arith)
    (c.parity_five-next.ensures j (5 * c.parity.group) lt (omega arith) (omega arith) b
    (c.five-in-parity.ensures j lt b laid) (c.parity.invariant j lt b is))

pub majority-init : goal.majority-init
majority-init c j lt b is = run_at b _ _ _ (omega arith) (c.parity.invariant j lt b is)

pub majority-preserved : goal.majority-preserved
majority-preserved c j lt b is =
    let laid = scheduled_less b _ (c.words.t + 16) (5 * c.majority.group + 5) (omega arith)
    (c.words.invariant j lt b is) in
    run_at b _ _ _ (omega arith)
    (c.majority_five-next.ensures j (5 * c.majority.group) lt (omega arith) (omega arith) b
    (c.five-in-majority.ensures j lt b laid) (c.majority.invariant j lt b is))

pub last-init : goal.last-init
last-init c j lt b is = run_at b _ _ _ (omega arith) (c.majority.invariant j lt b is)

pub last-preserved : goal.last-preserved
last-preserved c j lt b is =
    let laid = scheduled_less b _ (c.words.t + 16) (5 * c.last.group + 5) (omega arith)
    (c.words.invariant j lt b is) in
    run_at b _ _ _ (omega arith) (c.last_five-next.ensures j (5 * c.last.group) lt (omega arith) b
    (c.five-in-last.ensures j lt b laid) (c.last.invariant j lt b is))

pub returns : goal.returns
returns c j lt b is =
    c.after_rounds.ensures j lt b (run_at b _ _ _ (omega arith) (c.last.invariant j lt b is))
