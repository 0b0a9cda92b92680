-- An event that is enabled in a lawful world leads on.
use Rattle.std.proofs.Common.{◌<◌, ◌≤◌, List, [], ◌∷◌, ◌++◌, length, arith, IsPermutation, ◌≡◌, ◌≢◌}
use Rattle.std.proofs.Common.{ℕ, true, ⊎_elim}
use Rattle.std.proofs.lemmas.List.Sorted.{IsPermutation-refl}
use Rattle.glb_laws.specs.Expansion.{Moves}
use Rattle.glb_laws.proofs.Expansions.{moves_first}
use Rattle.glb_rules.specs.World.{Idle, Asked, Refused, Loot, has_edge, Setup, World}
use Rattle.glb_rules.specs.Events.{IsThere, IsInRange, actor, edge_of}
use Rattle.glb_rules.specs.Effects.{after, touched}
use Rattle.glb_rules.specs.Steps.{Choice, IsEnabled, Step}
use Rattle.glb_rules.specs.Setups.{IsProper}
use Rattle.glb_rules.specs.Lawful.{IsLawful, PhaseFits}
use Rattle.glb_rules.proofs.Invariant.Replaced.{becomes, replaced}
use Rattle.glb_rules.proofs.EdgeLemmas.Marks.{is_there}
use Rattle.glb_rules.specs.declared.kinds.Kind.{Kind}
use Rattle.glb_rules.specs.declared.kinds.Kind.TheVariants as kind
use Rattle.glb_rules.specs.declared.kinds.Phase.TheVariants as phase
use Rattle.glb_rules.specs.declared.event.Event.{Event}
use Rattle.glb_rules.specs.declared.event.Event.TheVariants as event

module _ {I : Type 0} (children : I → List I) (s : Setup) (w : World I) (P : IsProper s)
    (L : IsLawful s w) where
  made : (e : Event) → IsInRange s e → IsEnabled s w e → (taken rest : List I)
      → Choice children s e taken rest (touched w e) → (new : World I) × Step children s w e new
  made e r en taken rest c = (
    replaced w (actor e) (edge_of e) (after s e taken rest (touched w e)),
    record {
      in_range = r;
      enabled = en;
      taken = taken;
      rest = rest;
      choice = c;
      becomes =
          becomes w (actor e) (edge_of e) (after s e taken rest (touched w e));
    },
  )

  batch : (bag : List I) → 0 < length bag → (taken : List I)
      × ((rest : List I) × ((0 < length taken) × (length taken ≤ s.batch)
      × Moves children bag taken rest))
  batch [] l = absurd (omega arith)
  batch (x ∷ xs) l = (
    x ∷ [],
    (children x ++ xs, (omega arith, (let b = P.batch in omega arith), moves_first children x xs)),
  )

  split : (bag : List I) → 1 < length bag → (taken : List I)
      × ((rest : List I) × ((0 < length taken) × (0 < length rest)
      × IsPermutation bag (taken ++ rest)))
  split [] l = absurd (omega arith)
  split (x ∷ []) l = absurd (omega arith)
  split (x ∷ y ∷ ys) l = (x ∷ [], (y ∷ ys, (omega arith, omega arith, IsPermutation-refl (x ∷ y ∷ ys))))

  pub enabled_steps : (e : Event) → IsInRange s e → IsEnabled s w e → (new : World I)
      × Step children s w e new
  enabled_steps (event.Look p t k) r en = made (event.Look p t k) r en [] [] tt
  enabled_steps (event.Batch p) r en =
      let f : PhaseFits phase.Working (w.place p).credit (length (w.place p).bag) =
      rw en.0 at (L.inner p r.0).fits in
      let b = batch (w.place p).bag f.0 in
      made (event.Batch p) r en b.0 b.1.0 b.1.1
  enabled_steps (event.Ask p v kind.Steal) r en = made (event.Ask p v kind.Steal) r en [] [] tt
  enabled_steps (event.Ask p v kind.Line) r en = made (event.Ask p v kind.Line) r en [] [] tt
  enabled_steps (event.Deny p t k) r en = made (event.Deny p t k) r en [] [] tt
  enabled_steps (event.Mint p) r en = made (event.Mint p) r en [] [] tt
  enabled_steps (event.Give p t k) r en =
      let b = split (w.place p).bag (L.can_give p r.0 en.0 en.1).0 in
      made (event.Give p t k) r en b.0 b.1.0 b.1.1
  enabled_steps (event.Take p v k) r en =
      made (event.Take p v k) r en en.0.0 (en.0.0 ++ (w.place p).bag)
      (en.0.1, IsPermutation-refl (en.0.0 ++ (w.place p).bag))
  enabled_steps (event.Burn p) r en = made (event.Burn p) r en [] [] tt
  enabled_steps (event.Shrug p v k) r en = made (event.Shrug p v k) r en [] [] tt
  enabled_steps (event.Sleep p) r en = made (event.Sleep p) r en [] [] tt
  enabled_steps (event.Leave p) r en = made (event.Leave p) r en [] [] tt
  enabled_steps (event.Halt p c) r en = made (event.Halt p c) r en [] [] tt

-- the edge of an enabled event is there
module _ {I : Type 0} (s : Setup) (w : World I) (L : IsLawful s w) where
  busy_there : (k : Kind) (t v : ℕ) → t < s.places → v < s.places → w.edge k t v ≢ Idle
      → has_edge s k t v ≡ true
  busy_there k t v l m n = is_there (L.thief k t v l m) n

  pub enabled_there : (e : Event) → IsInRange s e → IsEnabled s w e → IsThere s e
  enabled_there (event.Look q t k) r en = en.1
  enabled_there (event.Batch p) r en = tt
  enabled_there (event.Ask p v kind.Steal) r en = en.2
  enabled_there (event.Ask p v kind.Line) r en = en.2
  enabled_there (event.Deny q t k) r en =
      busy_there k t q r.1 r.2 (λ z. let e : w.edge k t q ≡ Asked = en.0 in cc)
  enabled_there (event.Mint p) r en = tt
  enabled_there (event.Give q t k) r en =
      busy_there k t q r.1 r.2
      (λ z. ⊎_elim (λ (e : w.edge k t q ≡ Asked). cc) (λ x. let e : w.edge k t q ≡ Refused = x.1 in cc)
      en.2)
  enabled_there (event.Take p v k) r en =
      busy_there k p v r.1 r.2 (λ z. let e : w.edge k p v ≡ Loot en.0.0 = en.0.1 in cc)
  enabled_there (event.Burn p) r en = tt
  enabled_there (event.Shrug p v k) r en =
      busy_there k p v r.1 r.2 (λ z. let e : w.edge k p v ≡ Refused = en.1 in cc)
  enabled_there (event.Sleep p) r en = tt
  enabled_there (event.Leave p) r en = tt
  enabled_there (event.Halt p c) r en = tt
