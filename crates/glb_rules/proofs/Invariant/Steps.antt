-- Every step keeps the invariant, so every world of every run is lawful.
use Rattle.std.proofs.Common.{◌≡◌, ◌≢◌, ℕ, List, [], ◌∷◌, refl, ◌∙◌}
use Rattle.glb_rules.specs.World.{Setup, World}
use Rattle.glb_rules.specs.Steps.{Step}
use Rattle.glb_rules.specs.Setups.{IsProper}
use Rattle.glb_rules.specs.Lawful.{IsLawful}
use Rattle.glb_rules.specs.History.{NoHalt, Run}
use Rattle.glb_rules.proofs.Invariant.Ask.{ask_line_keeps, ask_steal_keeps}
use Rattle.glb_rules.proofs.Invariant.Batch.{batch_keeps}
use Rattle.glb_rules.proofs.Invariant.Burn.{burn_keeps}
use Rattle.glb_rules.proofs.Invariant.Deny.{deny_keeps}
use Rattle.glb_rules.proofs.Invariant.Give.{give_keeps}
use Rattle.glb_rules.proofs.Invariant.Leave.{halt_keeps, leave_keeps}
use Rattle.glb_rules.proofs.Invariant.Look.{look_keeps}
use Rattle.glb_rules.proofs.Invariant.Mint.{mint_keeps}
use Rattle.glb_rules.proofs.Invariant.Shrug.{shrug_keeps}
use Rattle.glb_rules.proofs.Invariant.Sleep.{sleep_keeps}
use Rattle.glb_rules.proofs.Invariant.Take.{take_keeps}
use Rattle.glb_rules.specs.declared.kinds.Kind.TheVariants as kind
use Rattle.glb_rules.specs.declared.event.Event.{Event}
use Rattle.glb_rules.specs.declared.event.Event.TheVariants.{Halt}
use Rattle.glb_rules.specs.declared.event.Event.TheVariants as event

pub step_keeps : {I : Type 0} (children : I → List I) (s : Setup) (old new : World I) (e : Event)
    → IsProper s → IsLawful s old → Step children s old e new → IsLawful s new
step_keeps children s old new (event.Look p t k) P L st = look_keeps children s old new p t k P L st
step_keeps children s old new (event.Batch p) P L st = batch_keeps children s old new p L st
step_keeps children s old new (event.Ask p v kind.Steal) P L st =
    ask_steal_keeps children s old new p v P L st
step_keeps children s old new (event.Ask p v kind.Line) P L st =
    ask_line_keeps children s old new p v P L st
step_keeps children s old new (event.Deny p t k) P L st = deny_keeps children s old new p t k P L st
step_keeps children s old new (event.Mint p) P L st = mint_keeps children s old new p L st
step_keeps children s old new (event.Give p t k) P L st = give_keeps children s old new p t k P L st
step_keeps children s old new (event.Take p v k) P L st = take_keeps children s old new p v k P L st
step_keeps children s old new (event.Burn p) P L st = burn_keeps children s old new p L st
step_keeps children s old new (event.Shrug p v k) P L st = shrug_keeps children s old new p v k P L st
step_keeps children s old new (event.Sleep p) P L st = sleep_keeps children s old new p L st
step_keeps children s old new (event.Leave p) P L st = leave_keeps children s old new p L st
step_keeps children s old new (event.Halt p n) P L st = halt_keeps children s old new p n L st

pub run_keeps : {I : Type 0} (children : I → List I) (s : Setup) (old : World I) (es : List Event)
    (new : World I) → IsProper s → IsLawful s old → Run children s old es new → IsLawful s new
run_keeps children s old [] new P L r = rw r L
run_keeps children s old (e ∷ es) new P L r =
    run_keeps children s r.0 es new P (step_keeps children s old r.0 e P L r.1) r.2

-- without Halt nothing has stopped
pub step_stop : {I : Type 0} (children : I → List I) (s : Setup) (old new : World I) (e : Event)
    → ((p n : ℕ) → e ≢ event.Halt p n) → Step children s old e new → new.stop ≡ old.stop
step_stop children s old new (event.Look p t k) n st = st.becomes.stop
step_stop children s old new (event.Batch p) n st = st.becomes.stop
step_stop children s old new (event.Ask p v k) n st = st.becomes.stop
step_stop children s old new (event.Deny p t k) n st = st.becomes.stop
step_stop children s old new (event.Mint p) n st = st.becomes.stop
step_stop children s old new (event.Give p t k) n st = st.becomes.stop
step_stop children s old new (event.Take p v k) n st = st.becomes.stop
step_stop children s old new (event.Burn p) n st = st.becomes.stop
step_stop children s old new (event.Shrug p v k) n st = st.becomes.stop
step_stop children s old new (event.Sleep p) n st = st.becomes.stop
step_stop children s old new (event.Leave p) n st = st.becomes.stop
step_stop children s old new (event.Halt p c) n st = absurd (n p c refl)

pub run_stop : {I : Type 0} (children : I → List I) (s : Setup) (old : World I) (es : List Event)
    (new : World I) → NoHalt es → Run children s old es new → new.stop ≡ old.stop
run_stop children s old [] new n r = rw r refl
run_stop children s old (e ∷ es) new n r = run_stop children s r.0 es new n.1 r.2
    ∙ step_stop children s old r.0 e n.0 r.1
