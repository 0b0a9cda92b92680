use Rattle.std.proofs.Common.{◌-◌, ◌^◌, ◌==◌, min, cond, ap, ◌∙◌}
use Rattle.glb_laws.specs.Bounded.{sat_sum, greatest}
use Rattle.glb_laws.specs.Pair.{both}
use Rattle.glb_uts.proofs.ranged.UtsRanged.weigh.Goals as goal

pub returns : goal.returns
returns c =
    c.node_value.ensures
    ∙ ap (λ n. both (sat_sum 1)
    (both (sat_sum (cond (n == 0) 1 0)) (greatest (min c.args.node.now.depth (2 ^ 64 - 1)))))
    c.fan_of.ensures
