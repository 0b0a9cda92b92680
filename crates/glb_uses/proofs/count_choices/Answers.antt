use Rattle.std.proofs.Common.{[], ◌∷◌, ◌^◌, ap, subst, ◌∙◌}
use Rattle.std.specs.Prelude.{IfErr}
use Rattle.std.proofs.lemmas.Result.{IfOk-weaker}
use Rattle.glb_tree.specs.Runs.{HasCause}
use Rattle.glb_uses.specs.SubsetSums.{further}
use Rattle.glb_uses.proofs.count_choices.Goals as goal

pub returns-clause-ok : goal.returns-clause-ok
returns-clause-ok g c =
    IfOk-weaker c.on_threads.result _ _
    (λ report told. told.value_is ∙ c.root-root.ensures.answer _ told.small)
    c.on_threads.ensures.ok

pub returns-clause-fault : goal.returns-clause-fault
returns-clause-fault g c =
    subst (λ root. IfErr c.on_threads.result
    (HasCause (further c.args.weights.items) (root ∷ []) (2 ^ 21)))
    c.root-root.ensures.root c.on_threads.ensures.fault
