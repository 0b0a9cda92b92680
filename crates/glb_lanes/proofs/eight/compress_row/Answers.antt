use Rattle.std.proofs.Common.{◌+◌, ◌*◌, arith}
use Rattle.sha1.specs.Sha1.{rounds}
use Rattle.glb_lanes.proofs.WordsAndRounds.{run_at}
use Rattle.glb_lanes.proofs.SharedWords.{shared_at, shared_less}
use Rattle.glb_lanes.proofs.eight.compress_row.Goals as goal

pub choose-init : goal.choose-init
unfolding rounds
choose-init c j lt b is = (is, c.initial-v.ensures j lt)

pub choose-preserved : goal.choose-preserved
choose-preserved c j lt b is =
    let held = c.choose.invariant j lt b is in
    let more = c.lay_five.ensures j lt b held.0 in
    let laid = shared_less b _ j (5 * c.choose.group + 21) (5 * c.choose.group + 5)
    (omega arith) more in (
      shared_at b _ j _ _ (omega arith) more,
      run_at b _ _ _ (omega arith) (c.choose_five-next.ensures j (5 * c.choose.group) lt (omega arith) b
          (c.joined_five.ensures j lt b laid) held.1),
    )

pub parity-init : goal.parity-init
parity-init c j lt b is =
    let held = c.choose.invariant j lt b is in
    (shared_at b _ j _ _ (omega arith) held.0, run_at b _ _ _ (omega arith) held.1)

pub parity-preserved : goal.parity-preserved
parity-preserved c j lt b is =
    let held = c.parity.invariant j lt b is in
    let more = c.lay_five-in-parity.ensures j lt b held.0 in
    let laid = shared_less b _ j (5 * c.parity.group + 21) (5 * c.parity.group + 5)
    (omega arith) more in (
      shared_at b _ j _ _ (omega arith) more,
      run_at b _ _ _ (omega arith) (c.parity_five-next.ensures j (5 * c.parity.group) lt (omega arith) (omega arith) b
          (c.joined_five-in-parity.ensures j lt b laid) held.1),
    )

pub majority-init : goal.majority-init
majority-init c j lt b is =
    let held = c.parity.invariant j lt b is in
    (shared_at b _ j _ _ (omega arith) held.0, run_at b _ _ _ (omega arith) held.1)

pub majority-preserved : goal.majority-preserved
majority-preserved c j lt b is =
    let held = c.majority.invariant j lt b is in
    let more = c.lay_five-in-majority.ensures j lt b held.0 in
    let laid = shared_less b _ j (5 * c.majority.group + 21) (5 * c.majority.group + 5)
    (omega arith) more in (
      shared_at b _ j _ _ (omega arith) more,
      run_at b _ _ _ (omega arith) (c.majority_five-next.ensures j (5 * c.majority.group) lt (omega arith) (omega arith) b
          (c.joined_five-in-majority.ensures j lt b laid) held.1),
    )

pub last-init : goal.last-init
last-init c j lt b is = run_at b _ _ _ (omega arith) (c.majority.invariant j lt b is).1

pub last-preserved : goal.last-preserved
last-preserved c j lt b is =
    let all = c.lay_four.ensures j lt b (shared_at b _ j _ _ (omega arith)
    (c.majority.invariant j lt b is).0) in
    let laid = shared_less b _ j 80 (5 * c.last.group + 5) (omega arith) all in
    run_at b _ _ _ (omega arith) (c.last_five-next.ensures j (5 * c.last.group) lt (omega arith) b
    (c.joined_five-in-last.ensures j lt b laid) (c.last.invariant j lt b is))

pub returns : goal.returns
returns c j lt b is =
    c.after_rounds.ensures j lt b (run_at b _ _ _ (omega arith) (c.last.invariant j lt b is))
