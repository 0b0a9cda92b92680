use Rattle.std.specs.Prelude.{Some}
use Rattle.std.proofs.Common.{◌+◌, ◌*◌, ◌<◌, ◌≤◌, ◌-◌, ap, sym, ◌∙◌, arith}
use Rattle.glb_cube.specs.Digits.{digit}
use Rattle.glb_cube.proofs.DegreeFacts.{next_up, next_over, next_none}
use Rattle.glb_cube.proofs.shape.Shape.target.Goals as goal
use Rattle.glb_cube.proofs.shape.Shape.target.Goals.{else-digit-self-via-then-digit-self+else-place-unit}
use Rattle.glb_cube.proofs.shape.Shape.target.Goals.{else-digit-self-via-else-digit-self}

pub returns-then-place-unit : goal.returns-then-place-unit
returns-then-place-unit c =
    sym (next_up c.args.self.places c.args.self.base c.args.unit c.args.place
    (omega (arith, c.requires.unit.0)) (omega (arith, c.digit-digit.ensures, c.if-digit-self.true))
    c.if-place-unit.true)

pub returns-then-digit-gt0 : goal.returns-then-digit-gt0
returns-then-digit-gt0 c =
    let above : digit c.args.self.base c.args.unit c.args.place + 1 < c.args.self.base
    → c.args.self.places ≤ c.args.place + c.args.unit
    = λ more. elim c.else-digit-self.branch [
      | else-digit-self-via-then-digit-self+else-place-unit w ↦ w.if-place-unit.false
      | else-digit-self-via-else-digit-self w ↦ absurd
          (omega (arith, more, c.digit-digit.ensures, w.if-digit-self.false))
    ] in
    ap (λ x. Some (c.args.place - x * c.args.unit)) c.digit-digit.ensures
    ∙ sym (next_over c.args.self.places c.args.self.base c.args.unit c.args.place c.args.self.base_range.0
    (omega (arith, c.requires.unit.0)) c.requires.place
    (omega (arith, c.digit-digit.ensures, c.if-digit-gt0.true)) above)

pub returns-else-digit-gt0 : goal.returns-else-digit-gt0
returns-else-digit-gt0 c =
    let above : c.args.self.places ≤ c.args.place + c.args.unit
    = elim c.else-digit-self.branch [
      | else-digit-self-via-then-digit-self+else-place-unit w ↦ w.if-place-unit.false
      | else-digit-self-via-else-digit-self w ↦ absurd
          (omega (arith, c.args.self.base_range.0, c.if-digit-gt0.false, w.if-digit-self.false))
    ] in
    sym (next_none c.args.self.places c.args.self.base c.args.unit c.args.place c.args.self.base_range.0
    (omega (arith, c.requires.unit.0)) (omega (arith, c.digit-digit.ensures, c.if-digit-gt0.false))
    above)
