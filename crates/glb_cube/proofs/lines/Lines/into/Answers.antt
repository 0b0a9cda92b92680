use Rattle.std.proofs.Common.{◌≡◌, ◌<◌, ◌≤◌, ◌↔◌, true, sym, ap, ◌∙◌, subst, arith, length, get_or}
use Rattle.glb_cube.specs.Lines.{IsCube, IsLine, cube_of, ins_of}
use Rattle.glb_laws.specs.Numbers.{has_number}
use Rattle.std.specs.List.Sorted.{IsStrictlyIncreasing}
use Rattle.glb_cube.proofs.GraphFacts.{cube_holds, length-ins, ins_rise, exact_ins}
use Rattle.glb_cube.proofs.RowFacts.{rows_length, row_is}
use Rattle.glb_cube.proofs.lines.Lines.into.Goals as goal

pub bounds-rows-place : goal.bounds-rows-place
bounds-rows-place c =
    let long : length c.self.inside.ins.items ≡ c.self.inside.shape.places =
    rows_length _ _ c.self.inside.ins.items c.self.inside.shape.places c.self.invariant.1 in
    omega (
      arith,
      long,
      ap length c.as_slice-rows.ensures.value,
      ap (λ x. x.places) c.self.view_is,
      c.requires,
    )

pub returns-clause-sources : goal.returns-clause-sources
returns-clause-sources c =
    let small : c.args.place < c.self.inside.shape.places =
    omega (arith, ap (λ x. x.places) c.self.view_is, c.requires) in
    c.as_slice.ensures.value
    ∙ row_is (λ p. ins_of
    (cube_of c.self.inside.shape.places c.self.inside.shape.base c.self.inside.shape.dimension) p)
    (λ w. w.items) c.self.inside.ins.items c.self.inside.shape.places c.args.place
    c.index-rows-place.result c.self.invariant.1 small
    (subst (λ l. c.index-rows-place.result ≡ get_or l c.args.place c.index-rows-place.result)
    c.as_slice-rows.ensures.value c.index-rows-place.is)
    ∙ ap (λ x. ins_of x c.args.place) c.self.view_is

pub returns-clause-few : goal.returns-clause-few
returns-clause-few c =
    subst (λ x. length x ≤ c.args.self.now.dimension) (sym (returns-clause-sources c))
    (length-ins c.args.self.now
    (subst IsCube c.self.view_is
    (cube_holds _ _ _ c.self.inside.shape.few.0 c.self.inside.shape.base_range.0
    c.self.inside.shape.least)) c.args.place)

pub returns-clause-rising : goal.returns-clause-rising
returns-clause-rising c =
    subst IsStrictlyIncreasing (sym (returns-clause-sources c)) (ins_rise c.args.self.now c.args.place)

pub returns-clause-exact : goal.returns-clause-exact
returns-clause-exact c = λ p.
    subst (λ x. (has_number p x ≡ true) ↔
    ((p < c.args.self.now.places) × IsLine c.args.self.now p c.args.place))
    (sym (returns-clause-sources c))
    (exact_ins c.args.self.now c.args.place p)
