use Rattle.glb_lanes.proofs.LanewiseOperators.{in_lane_of-majority}
use Rattle.glb_lanes.proofs.rounds.majority.Goals as goal

pub returns : goal.returns
returns g c j h =
    in_lane_of-majority g.row.N _ _ c.args.x c.args.y c.args.z j c.fits-x.0 c.fits-y.0 c.fits-z.0 h
