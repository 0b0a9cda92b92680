use Rattle.std.proofs.Common.{◌∙◌, refl}
use Rattle.glb_lanes.proofs.LanewiseOperators.{in_lane_of-four}
use Rattle.glb_lanes.proofs.words.next_word.Goals as goal

pub returns : goal.returns
returns g c j h =
    c.rotate_left.ensures j h
    ∙ rw (in_lane_of-four g.row.N _ c.args.x c.args.y c.args.z c.args.u j
    c.fits-x.0 c.fits-y.0 c.fits-z.0 c.fits-u.0 h) refl
