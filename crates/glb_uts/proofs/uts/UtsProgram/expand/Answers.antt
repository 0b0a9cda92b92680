use Rattle.std.proofs.Common.{◌-◌, ◌^◌, ◌++◌, ◌==◌, min, cond, map, ap, ◌∙◌}
use Rattle.std.specs.List.{range_with_len}
use Rattle.glb_laws.specs.Bounded.{sat_sum, greatest}
use Rattle.glb_laws.specs.Pair.{both}
use Rattle.glb_uts.specs.Binomial.{child, children}
use Rattle.glb_uts.proofs.uts.UtsProgram.expand.Goals as goal

pub returns-clause-appended : goal.returns-clause-appended
unfolding children
returns-clause-appended c =
    c.in_ok-push_children.ensures.appended
    ∙ ap (λ n. c.args.out.now.items
    ++ map (child c.args.node.now) (range_with_len 0 n)) c.fan_of-fan.ensures

pub returns-clause-value : goal.returns-clause-value
returns-clause-value c =
    c.node_value.ensures
    ∙ ap (λ n. both (sat_sum 1)
    (both (sat_sum (cond (n == 0) 1 0)) (greatest (min c.args.node.now.depth (2 ^ 64 - 1)))))
    c.fan_of-fan.ensures
