use Rattle.std.proofs.Common.{◌∙◌, ap, arith, length}
use Rattle.std.proofs.lemmas.Result.{IfOk-weaker}
use Rattle.glb_run.proofs.RootFacts.{few_in_all, joined_alike}
use Rattle.glb_run.proofs.roots.joined_roots.Goals as goal

pub returns-clause-all : goal.returns-clause-all
returns-clause-all g c =
    IfOk-weaker c.all_of.result _ _
    (λ all is. is ∙ joined_alike _ _ _ _ c.in_ok-lists.ensures.many c.in_ok-lists.ensures.lists)
    c.all_of.ensures.all

pub returns-clause-few : goal.returns-clause-few
returns-clause-few g c =
    IfOk-weaker c.all_of.result _ _
    (λ all is.
    omega (
      arith,
      all.ok.0,
      ap length (is ∙ joined_alike _ _ _ _ c.in_ok-lists.ensures.many c.in_ok-lists.ensures.lists),
      few_in_all c.args.order.now.spread c.args.order.now.params.places 100000
          (g.P.Program.children c.args.program.now) c.args.root
          (omega (arith, c.requires.places.0)) c.requires.few (omega arith),
    ))
    c.all_of.ensures.all
