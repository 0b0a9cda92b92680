use Rattle.std.proofs.Common.{ap, ◌∙◌, subst}
use Rattle.glb_cube.specs.Lines.{IsCube}
use Rattle.glb_cube.specs.Ways.{way_of}
use Rattle.std.proofs.lemmas.Result.{IfOk-weaker}
use Rattle.glb_cube.proofs.GraphFacts.{cube_holds, way_is_way, way_short}
use Rattle.glb_cube.proofs.lines.Lines.way.Goals as goal

pub returns-clause-leads : goal.returns-clause-leads
returns-clause-leads c =
    IfOk-weaker c.way_between.result _ _
    (λ w e. way_is_way c.args.self.now
    (subst IsCube c.self.view_is
    (cube_holds _ _ _ c.self.inside.shape.few.0 c.self.inside.shape.base_range.0
    c.self.inside.shape.least)) c.args.a c.args.b c.requires.a c.requires.b w.items
    (e ∙ ap (λ x. way_of x c.args.a c.args.b) c.self.view_is)) c.way_between.ensures

pub returns-clause-short : goal.returns-clause-short
returns-clause-short c =
    IfOk-weaker c.way_between.result _ _
    (λ w e. way_short c.args.self.now
    (subst IsCube c.self.view_is
    (cube_holds _ _ _ c.self.inside.shape.few.0 c.self.inside.shape.base_range.0
    c.self.inside.shape.least)) c.args.a c.args.b c.requires.a c.requires.b w.items
    (e ∙ ap (λ x. way_of x c.args.a c.args.b) c.self.view_is)) c.way_between.ensures
