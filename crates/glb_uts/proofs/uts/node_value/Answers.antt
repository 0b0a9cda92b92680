use Rattle.std.proofs.Common.{◌≡◌, ◌-◌, ◌^◌, ◌==◌, min, ap₂, arith}
use Rattle.glb_laws.specs.Bounded.{sat_sum, greatest}
use Rattle.glb_laws.specs.Pair.{both}
use Rattle.glb_uts.proofs.Messages.{byte_is}
use Rattle.glb_uts.proofs.uts.node_value.Goals as goal

pub returns : goal.returns
returns c =
    let depth : c.args.depth ≡ min c.args.depth (2 ^ 64 - 1) = omega arith in
    ap₂ (λ n d. both (sat_sum 1) (both (sat_sum n) (greatest d))) (byte_is (c.args.fan == 0)) depth
