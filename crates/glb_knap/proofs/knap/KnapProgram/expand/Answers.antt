use Rattle.std.proofs.Common.{ap, arith, length}
use Rattle.glb_laws.specs.Bounded.{greatest}
use Rattle.glb_knap.proofs.Placing.{length-ranked_lines}
use Rattle.glb_knap.proofs.knap.KnapProgram.expand.Goals as goal

pub push_below-requires : goal.push_below-requires
push_below-requires c =
    let few = c.self.invariant.0.few in let same = ap length c.self.invariant.1 in
    let test = c.if-next-len.true in let len = c.len.ensures in
    let ok = c.self.inside.ranked.ok.0 in
    let all = length-ranked_lines c.self.inside.lines.items in
    record { next = omega arith }

pub returns-in_ok-push_below-clause-value : goal.returns-in_ok-push_below-clause-value
returns-in_ok-push_below-clause-value c =
    ap greatest (omega (arith, c.worth-value.type_inv, c.worth-value.ensures))

pub returns-else-next-len-clause-value : goal.returns-else-next-len-clause-value
returns-else-next-len-clause-value c =
    ap greatest (omega (arith, c.worth-value.type_inv, c.worth-value.ensures))
