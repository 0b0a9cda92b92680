use Rattle.std.proofs.Common.{ℕ, ◌+◌, ◌*◌, List, [], slice_index, refl, arith}
use Rattle.std.proofs.Math.ListN.{get_or-map}
use Rattle.sha1.specs.Sha1.{compress, rounds}
use Rattle.glb_lanes.specs.inner.Lanes.{lane, HasRun}
use Rattle.glb_lanes.proofs.LanewiseOperators.{in_lane_of-splat}
use Rattle.glb_lanes.proofs.WordsAndRounds.{run_at, scheduled_at, scheduled_less}
use Rattle.glb_lanes.proofs.four.compress.Goals as goal

pub choose-init : goal.choose-init
unfolding rounds
choose-init c j lt b is = (
  c.lay_first.ensures j lt b is,
  rw (
    in_lane_of-splat 4 0x67452301 j lt,
    in_lane_of-splat 4 0xEFCDAB89 j lt,
    in_lane_of-splat 4 0x98BADCFE j lt,
    in_lane_of-splat 4 0x10325476 j lt,
    in_lane_of-splat 4 0xC3D2E1F0 j lt,
  ) refl,
)

pub choose-preserved : goal.choose-preserved
choose-preserved c j lt b is =
    let held = c.choose.invariant j lt b is in
    let more = c.lay_five.ensures j lt b held.0 in
    let laid = scheduled_less b _ (5 * c.choose.group + 21) (5 * c.choose.group + 5)
    (omega arith) more in (
      scheduled_at b _ _ _ (omega arith) more,
      run_at b _ _ _ (omega arith) (c.choose_five-next.ensures j (5 * c.choose.group) lt (omega arith) b
          (c.five.ensures j lt b laid) held.1),
    )

pub parity-init : goal.parity-init
parity-init c j lt b is =
    let held = c.choose.invariant j lt b is in
    (scheduled_at b _ _ _ (omega arith) held.0, run_at b _ _ _ (omega arith) held.1)

pub parity-preserved : goal.parity-preserved
parity-preserved c j lt b is =
    let held = c.parity.invariant j lt b is in
    let more = c.lay_five-in-parity.ensures j lt b held.0 in
    let laid = scheduled_less b _ (5 * c.parity.group + 21) (5 * c.parity.group + 5)
    (omega arith) more in (
      scheduled_at b _ _ _ (omega arith) more,
      run_at b _ _ _ (omega arith) (c.parity_five-next.ensures j (5 * c.parity.group) lt (omega arith) (omega arith) b
          (c.five-in-parity.ensures j lt b laid) held.1),
    )

pub majority-init : goal.majority-init
majority-init c j lt b is =
    let held = c.parity.invariant j lt b is in
    (scheduled_at b _ _ _ (omega arith) held.0, run_at b _ _ _ (omega arith) held.1)

pub majority-preserved : goal.majority-preserved
majority-preserved c j lt b is =
    let held = c.majority.invariant j lt b is in
    let more = c.lay_five-in-majority.ensures j lt b held.0 in
    let laid = scheduled_less b _ (5 * c.majority.group + 21) (5 * c.majority.group + 5)
    (omega arith) more in (
      scheduled_at b _ _ _ (omega arith) more,
      run_at b _ _ _ (omega arith) (c.majority_five-next.ensures j (5 * c.majority.group) lt (omega arith) (omega arith) b
          (c.five-in-majority.ensures j lt b laid) held.1),
    )

pub words-init : goal.words-init
words-init c j lt b is = scheduled_at b _ _ _ (omega arith) (c.majority.invariant j lt b is).0

pub words-preserved : goal.words-preserved
words-preserved c j lt b is =
    scheduled_at b _ _ _ (omega arith) (c.lay_next.ensures j lt b (c.words.invariant j lt b is))

pub last-init : goal.last-init
last-init c j lt b is = run_at b _ _ _ (omega arith) (c.majority.invariant j lt b is).1

pub last-preserved : goal.last-preserved
last-preserved c j lt b is =
    let laid = scheduled_less b _ (c.words.t + 16) (5 * c.last.group + 5) (omega arith)
    (c.words.invariant j lt b is) in
    run_at b _ _ _ (omega arith) (c.last_five-next.ensures j (5 * c.last.group) lt (omega arith) b
    (c.five-in-last.ensures j lt b laid) (c.last.invariant j lt b is))

pub returns : goal.returns
unfolding compress
returns c j lt b is =
    let at = λ (v : List ℕ). slice_index v j in
    let done : HasRun b (lane j c.last.v) 80 = run_at b _ _ _ (omega arith)
    (c.last.invariant j lt b is) in
    rw (
      c.add-s0.ensures j lt,
      c.add-s1.ensures j lt,
      c.add-s2.ensures j lt,
      c.add-s3.ensures j lt,
      c.add-s4.ensures j lt,
      in_lane_of-splat 4 0x67452301 j lt,
      in_lane_of-splat 4 0xEFCDAB89 j lt,
      in_lane_of-splat 4 0x98BADCFE j lt,
      in_lane_of-splat 4 0x10325476 j lt,
      in_lane_of-splat 4 0xC3D2E1F0 j lt,
      ← done,
      get_or-map at c.last.v 0 [],
      get_or-map at c.last.v 1 [],
      get_or-map at c.last.v 2 [],
      get_or-map at c.last.v 3 [],
      get_or-map at c.last.v 4 [],
    ) refl
