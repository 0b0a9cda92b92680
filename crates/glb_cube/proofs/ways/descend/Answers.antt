use Rattle.std.proofs.Common.{ℕ, ◌+◌, ◌-◌, ◌*◌, ap, ◌∙◌, refl, arith}
use Rattle.std.proofs.lemmas.Nat.{mul-le}
use Rattle.glb_cube.specs.Ways.{descent}
use Rattle.glb_cube.proofs.UnitFacts.{unit_small, unit_some, unit_more}
use Rattle.glb_cube.proofs.WalkRounds.{descent_at, descent_end, part_out, part_last, stop_out}
use Rattle.glb_cube.proofs.WalkRounds.{stop_last}
use Rattle.glb_cube.proofs.ways.descend.Goals as goal

pub descend_in-requires-clause-unit : goal.descend_in-requires-clause-unit
descend_in-requires-clause-unit c =
    rw c.loop-i.invariant.unit (
      unit_some c.args.shape.base c.loop-i._i c.args.shape.base_range.0,
      unit_small c.args.shape.places c.args.shape.base c.args.shape.dimension c.loop-i._i c.args.shape.least
          c.args.shape.few.1 c.loop-i-test.true,
    )

pub overflow_mul-unit : goal.overflow_mul-unit
overflow_mul-unit c =
    let small = unit_small c.args.shape.places c.args.shape.base c.args.shape.dimension c.loop-i._i
    c.args.shape.least c.args.shape.few.1 c.loop-i-test.true in
    omega (
      arith,
      mul-le c.loop-i.unit c.args.shape.base 64 64 (rw c.loop-i.invariant.unit small)
          c.args.shape.base_range.1,
    )

pub loop-i-preserved : goal.loop-i-preserved
loop-i-preserved c =
    let next : ℕ → _ = λ q.
    descent c.args.shape.places c.args.shape.base c.args.b (c.loop-i.unit * c.args.shape.base)
    (c.args.shape.dimension - (c.loop-i._i + 1)) q in
    record {
      unit = ap (λ x. x * c.args.shape.base) c.loop-i.invariant.unit
          ∙ unit_more c.args.shape.base c.loop-i._i (c.loop-i._i + 1) refl;
      small = c.in_ok-reached.ensures.small;
      left = part_out c.loop-i.reached _ _ _ c.loop-i.way.items _ _ next
          (descent_at c.args.shape.places c.args.shape.base c.args.b c.loop-i.unit c.args.shape.dimension
          c.loop-i._i c.loop-i.reached c.loop-i-test.true) c.in_ok-reached.ensures.ok
          c.in_ok-reached.ensures.last c.loop-i.invariant.left;
      last = part_last c.loop-i.reached _ _ _ _ next
          (descent_at c.args.shape.places c.args.shape.base c.args.b c.loop-i.unit c.args.shape.dimension
          c.loop-i._i c.loop-i.reached c.loop-i-test.true) c.in_ok-reached.ensures.last
          c.loop-i.invariant.last;
    }

pub returns-clause-ok : goal.returns-clause-ok
returns-clause-ok c =
    stop_out _ _ _ (descent_end c.args.shape.places c.args.shape.base c.args.b c.loop-i.unit
    c.args.shape.dimension c.loop-i._i c.loop-i.reached c.loop-i-test.false) c.loop-i.invariant.left

pub returns-clause-last : goal.returns-clause-last
returns-clause-last c =
    stop_last _ _ _ (descent_end c.args.shape.places c.args.shape.base c.args.b c.loop-i.unit
    c.args.shape.dimension c.loop-i._i c.loop-i.reached c.loop-i-test.false) c.loop-i.invariant.last
