use Rattle.std.proofs.Common.{ap, sym, ◌∙◌, arith}
use Rattle.glb_cube.specs.Digits.{targets}
use Rattle.glb_laws.specs.Numbers.{has_number}
use Rattle.glb_cube.specs.Lines.{cube_of}
use Rattle.glb_cube.proofs.GraphFacts.{ins_none}
use Rattle.glb_cube.proofs.RowFacts.{rows_length, row_is, ins_yes, ins_no}
use Rattle.glb_cube.proofs.build.sources_of.Goals as goal
use Rattle.glb_cube.proofs.build.sources_of.Goals.{then-has+in_ok-push, else-has}

pub loop-p-init : goal.loop-p-init
loop-p-init c = record {
  made = c.new-ins.ensures.items
      ∙ sym (ins_none (cube_of c.args.shape.places c.args.shape.base c.args.shape.dimension) c.args.place);
}

pub bounds-outs-p : goal.bounds-outs-p
bounds-outs-p c = omega
    (arith, rows_length _ _ c.args.outs.now c.args.shape.places c.requires.outs, c.loop-p-test.true)

pub loop-p-preserved : goal.loop-p-preserved
loop-p-preserved c =
    let row = row_is (λ p. targets c.args.shape.places c.args.shape.base 1 c.args.shape.dimension p)
    (λ w. w.items) c.args.outs.now c.args.shape.places c.loop-p.p c.index-outs-p.result
    c.requires.outs c.loop-p-test.true c.index-outs-p.is in
    let is = c.has.ensures ∙ ap (has_number c.args.place) (c.deref.ensures.value ∙ row) in
    elim c.if-has.branch [
      | then-has+in_ok-push w ↦ record {
        made = ins_yes (cube_of c.args.shape.places c.args.shape.base c.args.shape.dimension)
            c.args.place c.loop-p.p c.loop-p.ins.items _ c.loop-p.invariant.made (sym is ∙ w.if-has.true)
            (ap (λ v. v.items) w.ins-is ∙ w.in_ok-push.ensures.items);
      }
      | else-has w ↦ record {
        made = ins_no (cube_of c.args.shape.places c.args.shape.base c.args.shape.dimension)
            c.args.place c.loop-p.p c.loop-p.ins.items _ c.loop-p.invariant.made (sym is ∙ w.if-has.false)
            (ap (λ v. v.items) w.ins-is);
      }
    ]
