use Rattle.glb_lanes.proofs.LanewiseOperators.{in_lane_of-choose}
use Rattle.glb_lanes.proofs.rounds.choose.Goals as goal

pub returns : goal.returns
returns g c j h =
    in_lane_of-choose g.row.N _ _ _ c.args.x c.args.y c.args.z j c.fits-x.0 c.fits-y.0 c.fits-z.0 h
