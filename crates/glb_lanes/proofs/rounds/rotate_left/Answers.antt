use Rattle.std.proofs.Common.{◌≡◌, ◌-◌, ◌%◌, ◌∙◌, refl, arith}
use Rattle.glb_lanes.proofs.LanewiseOperators.{in_lane_of-rotation, shift_in_each_lane}
use Rattle.glb_lanes.proofs.rounds.rotate_left.Goals as goal

pub overflow_shl-result : goal.overflow_shl-result
overflow_shl-result g c = shift_in_each_lane g.row.N c.args.k 32 c.args.x (omega arith)

pub overflow_shr-result : goal.overflow_shr-result
overflow_shr-result g c = shift_in_each_lane g.row.N (32 - c.args.k) 32 c.args.x (omega arith)

pub returns : goal.returns
returns g c j h =
    let left : c.args.k % 32 ≡ c.args.k = omega arith in
    let right : (32 - c.args.k) % 32 ≡ 32 - c.args.k = omega arith in
    in_lane_of-rotation g.row.N _ _ _ c.args.x c.args.k (32 - c.args.k) j c.fits-x.0 h
    ∙ rw (left, right) refl
