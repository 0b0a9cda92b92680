use Rattle.std.proofs.Common.{◌≡◌, ◌<◌, ◌≤◌, All, false, sym, ap, ◌∙◌, subst, arith, length, get_or}
use Rattle.glb_cube.specs.Lines.{IsCube, cube_of, outs_of}
use Rattle.glb_laws.specs.Numbers.{IsDistinct, has_number}
use Rattle.glb_cube.proofs.GraphFacts.{cube_holds, length-outs, All-has_number, outs_below}
use Rattle.glb_cube.proofs.GraphFacts.{outs_distinct, no_loop}
use Rattle.glb_cube.proofs.RowFacts.{rows_length, row_is}
use Rattle.glb_cube.proofs.lines.Lines.out.Goals as goal

pub bounds-rows-place : goal.bounds-rows-place
bounds-rows-place c =
    let long : length c.self.inside.outs.items ≡ c.self.inside.shape.places = rows_length _ _ c.self.inside.outs.items c.self.inside.shape.places c.self.invariant.0 in
    omega (arith, long, ap length c.as_slice-rows.ensures.value, ap (λ x. x.places) c.self.view_is, c.requires)

pub returns-clause-targets : goal.returns-clause-targets
returns-clause-targets c =
    let small : c.args.place < c.self.inside.shape.places = omega (arith, ap (λ x. x.places) c.self.view_is, c.requires) in
    c.as_slice.ensures.value ∙ row_is (λ p. outs_of (cube_of c.self.inside.shape.places c.self.inside.shape.base c.self.inside.shape.dimension) p) (λ w. w.items) c.self.inside.outs.items c.self.inside.shape.places c.args.place
    c.index-rows-place.result c.self.invariant.0 small (subst (λ l. c.index-rows-place.result ≡ get_or l c.args.place c.index-rows-place.result) c.as_slice-rows.ensures.value c.index-rows-place.is)
    ∙ ap (λ x. outs_of x c.args.place) c.self.view_is

pub returns-clause-few : goal.returns-clause-few
returns-clause-few c = subst (λ x. length x ≤ c.args.self.now.dimension) (sym (returns-clause-targets c)) (length-outs c.args.self.now c.args.place)

pub returns-clause-near : goal.returns-clause-near
returns-clause-near c =
    subst (All (λ q. q < c.args.self.now.places)) (sym (returns-clause-targets c))
    (All-has_number (λ q. q < c.args.self.now.places) _ (outs_below c.args.self.now c.args.place))

pub returns-clause-no_loop : goal.returns-clause-no_loop
returns-clause-no_loop c =
    subst (λ x. has_number c.args.place x ≡ false) (sym (returns-clause-targets c))
    (no_loop c.args.self.now (subst IsCube c.self.view_is (cube_holds _ _ _ c.self.inside.shape.few.0 c.self.inside.shape.base_range.0 c.self.inside.shape.least)) c.args.place)

pub returns-clause-different : goal.returns-clause-different
returns-clause-different c =
    subst IsDistinct (sym (returns-clause-targets c))
    (outs_distinct c.args.self.now (subst IsCube c.self.view_is (cube_holds _ _ _ c.self.inside.shape.few.0 c.self.inside.shape.base_range.0 c.self.inside.shape.least)) c.args.place c.requires)
