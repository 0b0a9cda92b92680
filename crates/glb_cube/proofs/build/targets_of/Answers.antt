use Rattle.std.proofs.Common.{◌+◌, ◌*◌, ap, ◌∙◌, refl, arith}
use Rattle.std.proofs.lemmas.Nat.{mul-le}
use Rattle.glb_cube.proofs.UnitFacts.{unit_small, unit_some, unit_more, targets_pushed, targets_end}
use Rattle.glb_cube.proofs.build.targets_of.Goals as goal

pub target-requires-clause-unit : goal.target-requires-clause-unit
target-requires-clause-unit c =
    rw c.loop-i.invariant.unit (
      unit_some c.args.shape.base c.loop-i._i c.args.shape.base_range.0,
      unit_small c.args.shape.places c.args.shape.base c.args.shape.dimension c.loop-i._i c.args.shape.least
          c.args.shape.few.1 c.loop-i-test.true,
    )

pub overflow_mul-unit : goal.overflow_mul-unit
overflow_mul-unit c =
    let small = unit_small c.args.shape.places c.args.shape.base c.args.shape.dimension c.loop-i._i
    c.args.shape.least c.args.shape.few.1 c.loop-i-test.true in
    omega (
      arith,
      mul-le c.loop-i.unit c.args.shape.base 64 64 (rw c.loop-i.invariant.unit small)
          c.args.shape.base_range.1,
    )

pub loop-i-preserved : goal.loop-i-preserved
loop-i-preserved c = record {
  unit = ap (λ x. x * c.args.shape.base) c.loop-i.invariant.unit
      ∙ unit_more c.args.shape.base c.loop-i._i (c.loop-i._i + 1) refl;
  left = targets_pushed c.args.shape.places c.args.shape.base c.loop-i.unit c.args.shape.dimension
      c.loop-i._i c.args.place c.target.result c.loop-i.out.items _ _ c.loop-i-test.true
      c.loop-i.invariant.left c.in_ok-push_target.ensures c.target.ensures;
}

pub returns : goal.returns
returns c = targets_end c.args.shape.places c.args.shape.base c.loop-i.unit c.args.shape.dimension
    c.loop-i._i c.args.place c.loop-i.out.items _ c.loop-i-test.false c.loop-i.invariant.left
