use Rattle.glb_lanes.proofs.LanewiseOperators.{in_lane_of-three}
use Rattle.glb_lanes.proofs.rounds.parity.Goals as goal

pub returns : goal.returns
returns g c j h =
    in_lane_of-three g.row.N _ c.args.x c.args.y c.args.z j c.fits-x.0 c.fits-y.0 c.fits-z.0 h
