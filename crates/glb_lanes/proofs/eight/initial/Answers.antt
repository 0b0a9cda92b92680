use Rattle.std.proofs.Common.{refl}
use Rattle.glb_lanes.proofs.LanewiseOperators.{in_lane_of-splat}
use Rattle.glb_lanes.proofs.eight.initial.Goals as goal

pub returns : goal.returns
returns c j lt =
    rw (
      in_lane_of-splat 8 0x67452301 j lt,
      in_lane_of-splat 8 0xEFCDAB89 j lt,
      in_lane_of-splat 8 0x98BADCFE j lt,
      in_lane_of-splat 8 0x10325476 j lt,
      in_lane_of-splat 8 0xC3D2E1F0 j lt,
    ) refl
