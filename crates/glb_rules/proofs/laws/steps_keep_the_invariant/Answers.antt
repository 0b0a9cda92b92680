use Rattle.glb_rules.proofs.Invariant.Steps.{step_keeps}
use Rattle.glb_rules.proofs.Expansion.Kept.{step_expands}
use Rattle.glb_rules.proofs.laws.steps_keep_the_invariant.Goals as goal

pub returns : goal.returns
returns g c = λ children roots s old new e P L st.
    (step_keeps children s old new e P L.0 st, step_expands children roots s old new e st L.1)
