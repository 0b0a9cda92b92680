-- Where some place has items, some sleeper awaits a part.
use Rattle.std.proofs.Common.{◌≡◌, ◌≢◌, ℕ, ◌<◌, ◌⊎◌, true, List, [], ◌∷◌, length, refl, subst, inl}
use Rattle.std.proofs.Common.{inr, ⊎_elim, arith}
use Rattle.glb_laws.specs.Numbers.{IsPath}
use Rattle.glb_rules.specs.World.{Setup, World, has_line}
use Rattle.glb_rules.specs.Setups.{IsConnected}
use Rattle.glb_rules.specs.Lawful.{IsLawful, PhaseFits}
use Rattle.glb_rules.specs.Finish.{SomeSleeperAwaits}
use Rattle.glb_rules.proofs.Finish.Quiet.{finished_quiet, held}
use Rattle.glb_rules.specs.declared.kinds.Phase.{Phase}
use Rattle.glb_rules.specs.declared.kinds.Phase.TheVariants as phase

module _ {I : Type 0} (s : Setup) (w : World I) (L : IsLawful s w) where
  asleep_cases : (f : Phase) → (f ≡ phase.Asleep) ⊎ (f ≢ phase.Asleep)
  asleep_cases phase.Working = inr (λ e. cc)
  asleep_cases phase.Idle = inr (λ e. cc)
  asleep_cases (phase.Waiting v k) = inr (λ e. cc)
  asleep_cases phase.Asleep = inl refl
  asleep_cases phase.Gone = inr (λ e. cc)

  -- on a way from a sleeper to one awake some line leads from a sleeper to one awake
  last_sleeper : (a b : ℕ) (cs : List ℕ) → a < s.places
      → IsPath (λ t v. (v < s.places) × (has_line s t v ≡ true)) a cs b → (w.place a).phase ≡ phase.Asleep
      → (w.place b).phase ≢ phase.Asleep →
      (p : ℕ) × (v : ℕ) × (p < s.places) × (v < s.places) × ((w.place p).phase ≡ phase.Asleep)
      × (has_line s p v ≡ true) × ((w.place v).phase ≢ phase.Asleep)
  last_sleeper a b [] l h z n = absurd (n (subst (λ q. (w.place q).phase ≡ phase.Asleep) h z))
  last_sleeper a b (c ∷ cs) l h z n = ⊎_elim
      (λ y. last_sleeper c b cs h.0.0 h.1 y n)
      (λ y. (a, c, l, h.0.0, z, h.0.1, y))
      (asleep_cases (w.place c).phase)

  pub awaits : IsConnected s → w.stop ≡ 0 → (a b : ℕ) → a < s.places → b < s.places
      → (w.place a).phase ≡ phase.Asleep → 0 < length (w.place b).bag → SomeSleeperAwaits s w
  awaits C z a b l m e n =
      let c = C a b l m in
      let awake : (w.place b).phase ≢ phase.Asleep =
      (λ x. let f : PhaseFits phase.Asleep (w.place b).credit (length (w.place b).bag) =
      rw x at (L.inner b m).fits in let g = f.0 in omega arith) in
      let r = last_sleeper a b c.0 l c.1 e awake in (
        r.0,
        r.1,
        r.2,
        r.3,
        r.4,
        r.5,
        held s w L r.0 r.1 r.2 r.3 r.4 r.5,
        r.6,
        λ g. let q = (finished_quiet s w L (L.gone r.1 r.3 g z)).empty b m in omega arith,
      )
