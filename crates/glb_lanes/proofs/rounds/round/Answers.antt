use Rattle.std.proofs.Common.{arith, refl}
use Rattle.glb_lanes.proofs.LanewiseOperators.{in_lane_of-splat}
use Rattle.glb_lanes.proofs.WordsAndRounds.{round_in_place}
use Rattle.glb_lanes.proofs.rounds.round.Goals as goal

pub returns : goal.returns
returns g c j h =
    round_in_place c.args.v j _ _ _ _ _ (omega arith)
    (rw (
      c.add-temp.ensures j h,
      c.add-third.ensures j h,
      c.add-second.ensures j h,
      c.add-first.ensures j h,
      c.rotate_left-rotated.ensures j h,
      in_lane_of-splat g.row.N c.args.k j h,
    ) refl)
    (c.rotate_left-lower.ensures j h)
