-- What want of memory leaves.
use Rattle.std.proofs.Common.{◌≡◌, ℕ, ◌⊎◌, List, inl, inr, refl, ⊎_elim}
use Rattle.glb_rules.specs.World.{Setup, World}
use Rattle.glb_rules.specs.Effects.{stop_after}
use Rattle.glb_rules.specs.declared.event.Event.{Event}
use Rattle.glb_rules.specs.declared.event.Event.TheVariants as event
use Rattle.glb_core.specs.Tables.{WorldView}
use Rattle.glb_core.specs.Standing.{Represents, SimulatesFrom, Stutters, MemoryFails}

-- the event did some expansions, or nothing, whatever the event
pub memory_failed : {B I V : Type 0} (items : B → List I) (children : I → List I) (value : I → V)
    (combine : V → V → V) (unit : V) (old new : WorldView B V) (e : Event)
    → MemoryFails items children value combine unit old e new
    → ((k : ℕ) × ((s : Setup) (w : World I) → Represents items s old w
    → SimulatesFrom items children value combine unit old e k new s w)) ⊎ Stutters {I = I} items old new
memory_failed items children value combine unit old new (event.Batch q) m =
    ⊎_elim (λ part. inl (part.0, λ s w S. (part.1 s w S).0)) (λ a. inr a) m
memory_failed items children value combine unit old new (event.Give q t k) m = inr m
memory_failed items children value combine unit old new (event.Take q v k) m = inr m
memory_failed items children value combine unit old new (event.Look q t k) m = absurd m
memory_failed items children value combine unit old new (event.Ask q v k) m = absurd m
memory_failed items children value combine unit old new (event.Deny q t k) m = absurd m
memory_failed items children value combine unit old new (event.Mint q) m = absurd m
memory_failed items children value combine unit old new (event.Burn q) m = absurd m
memory_failed items children value combine unit old new (event.Shrug q v k) m = absurd m
memory_failed items children value combine unit old new (event.Sleep q) m = absurd m
memory_failed items children value combine unit old new (event.Leave q) m = absurd m
memory_failed items children value combine unit old new (event.Halt q c) m = absurd m

-- and no event that wants memory sets the stop code
pub failed_stop : {B I V : Type 0} (items : B → List I) (children : I → List I) (value : I → V)
    (combine : V → V → V) (unit : V) (old new : WorldView B V) (e : Event) (n : ℕ)
    → MemoryFails items children value combine unit old e new → stop_after e n ≡ n
failed_stop items children value combine unit old new (event.Batch q) n m = refl
failed_stop items children value combine unit old new (event.Give q t k) n m = refl
failed_stop items children value combine unit old new (event.Take q v k) n m = refl
failed_stop items children value combine unit old new (event.Look q t k) n m = absurd m
failed_stop items children value combine unit old new (event.Ask q v k) n m = absurd m
failed_stop items children value combine unit old new (event.Deny q t k) n m = absurd m
failed_stop items children value combine unit old new (event.Mint q) n m = absurd m
failed_stop items children value combine unit old new (event.Burn q) n m = absurd m
failed_stop items children value combine unit old new (event.Shrug q v k) n m = absurd m
failed_stop items children value combine unit old new (event.Sleep q) n m = absurd m
failed_stop items children value combine unit old new (event.Leave q) n m = absurd m
failed_stop items children value combine unit old new (event.Halt q c) n m = absurd m
