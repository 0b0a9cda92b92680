-- How many items an event expands.
use Rattle.std.proofs.Common.{◌≡◌, ℕ, ◌+◌, ◌≤◌, List, arith}
use Rattle.glb_rules.specs.World.{Setup, World}
use Rattle.glb_rules.specs.Steps.{Step, expanded}
use Rattle.glb_rules.specs.Lawful.{sum_of_places}
use Rattle.glb_rules.proofs.Invariant.Frames.{across_change}
use Rattle.glb_rules.specs.declared.local.Local.{Local}
use Rattle.glb_rules.specs.declared.event.Event.{Event}
use Rattle.glb_rules.specs.declared.event.Event.TheVariants as event

module _ {I : Type 0} (children : I → List I) (s : Setup) (old new : World I) where
  items_of : Local I → ℕ
  items_of a = a.count.items

  -- the items done grow by those that the event expands
  pub step_counts : (e : Event) → (st : Step children s old e new)
      → sum_of_places s new (λ a. a.count.items) ≡ sum_of_places s old (λ a. a.count.items) + expanded e st.taken
  step_counts (event.Look q t k) st = let a = across_change s old new _ _ _ st.becomes
      (λ a. a.count.items) st.in_range.0 in omega (arith, a)
  step_counts (event.Batch p) st = let a = across_change s old new _ _ _ st.becomes (λ a. a.count.items)
      st.in_range.0 in omega (arith, a)
  step_counts (event.Ask p v k) st = let a = across_change s old new _ _ _ st.becomes
      (λ a. a.count.items) st.in_range.0 in omega (arith, a)
  step_counts (event.Deny q t k) st = let a = across_change s old new _ _ _ st.becomes
      (λ a. a.count.items) st.in_range.0 in omega (arith, a)
  step_counts (event.Mint q) st = let a = across_change s old new _ _ _ st.becomes (λ a. a.count.items)
      st.in_range.0 in omega (arith, a)
  step_counts (event.Give q t k) st = let a = across_change s old new _ _ _ st.becomes
      (λ a. a.count.items) st.in_range.0 in omega (arith, a)
  step_counts (event.Take p v k) st = let a = across_change s old new _ _ _ st.becomes
      (λ a. a.count.items) st.in_range.0 in omega (arith, a)
  step_counts (event.Burn p) st = let a = across_change s old new _ _ _ st.becomes (λ a. a.count.items)
      st.in_range.0 in omega (arith, a)
  step_counts (event.Shrug p v k) st = let a = across_change s old new _ _ _ st.becomes
      (λ a. a.count.items) st.in_range.0 in omega (arith, a)
  step_counts (event.Sleep p) st = let a = across_change s old new _ _ _ st.becomes (λ a. a.count.items)
      st.in_range.0 in omega (arith, a)
  step_counts (event.Leave p) st = let a = across_change s old new _ _ _ st.becomes (λ a. a.count.items)
      st.in_range.0 in omega (arith, a)
  step_counts (event.Halt p n) st = let a = across_change s old new _ _ _ st.becomes
      (λ a. a.count.items) st.in_range.0 in omega (arith, a)

  -- no event expands more than a batch
  pub step_few : (e : Event) → (st : Step children s old e new) → expanded e st.taken ≤ s.batch
  step_few (event.Batch p) st = st.choice.1
  step_few (event.Look q t k) st = omega arith
  step_few (event.Ask p v k) st = omega arith
  step_few (event.Deny q t k) st = omega arith
  step_few (event.Mint q) st = omega arith
  step_few (event.Give q t k) st = omega arith
  step_few (event.Take p v k) st = omega arith
  step_few (event.Burn p) st = omega arith
  step_few (event.Shrug p v k) st = omega arith
  step_few (event.Sleep p) st = omega arith
  step_few (event.Leave p) st = omega arith
  step_few (event.Halt p n) st = omega arith
