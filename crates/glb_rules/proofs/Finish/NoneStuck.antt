-- Where no event but Halt is enabled, all is over.
use Rattle.std.proofs.Common.{◌≡◌, ◌≢◌, ℕ, ◌<◌, ◌⊎◌, true, length, refl, inl, inr, ⊎_elim, arith}
use Rattle.std.proofs.lemmas.Bool.{cases_eq}
use Rattle.glb_rules.specs.World.{Asked, Idle, IsArmed, Loot, Refused, Setup, World, WorldEdge}
use Rattle.glb_rules.specs.World.{has_line, loot_count, mark_at, waits_on, credit_count}
use Rattle.glb_rules.specs.Steps.{AllClear}
use Rattle.glb_rules.specs.Setups.{IsProper}
use Rattle.glb_rules.specs.Lawful.{IsLawful, PhaseFits, sum_of_own_edges}
use Rattle.glb_rules.specs.Finish.{IsStuck}
use Rattle.glb_rules.proofs.EdgeLemmas.Marks.{eq_other}
use Rattle.glb_rules.proofs.Sums.Totals.{sum_zero}
use Rattle.glb_rules.proofs.Invariant.ThiefEvents.{waits_self}
use Rattle.glb_rules.specs.declared.kinds.Kind.{Kind}
use Rattle.glb_rules.specs.declared.kinds.Kind.TheVariants as kind
use Rattle.glb_rules.specs.declared.kinds.Phase.{Phase}
use Rattle.glb_rules.specs.declared.kinds.Phase.TheVariants as phase
use Rattle.glb_rules.specs.declared.kinds.Credit.{Credit}
use Rattle.glb_rules.specs.declared.kinds.Credit.TheVariants as credit
use Rattle.glb_rules.specs.declared.kinds.Mark.{Mark}
use Rattle.glb_rules.specs.declared.kinds.Mark.TheVariants as mark
use Rattle.glb_rules.specs.declared.event.Event.TheVariants as event

-- a place is Gone or not
pub gone_cases : (f : Phase) → (f ≡ phase.Gone) ⊎ (f ≢ phase.Gone)
gone_cases phase.Working = inr (λ e. cc)
gone_cases phase.Idle = inr (λ e. cc)
gone_cases (phase.Waiting v k) = inr (λ e. cc)
gone_cases phase.Asleep = inr (λ e. cc)
gone_cases phase.Gone = inl refl

module _ {I : Type 0} (s : Setup) (w : World I) (L : IsLawful s w) where
  -- from here on: nothing is enabled, there was no halt, and live is above 0
  module _ (P : IsProper s) (one_place : s.places < 2 → s.tries ≡ 0) (S : IsStuck s w) (z : w.stop
      ≡ 0)
      (alive : 0 < w.live) where
    not_gone : (p : ℕ) → p < s.places → (w.place p).phase ≢ phase.Gone
    not_gone p l g = let e = L.gone p l g z in omega arith

    not_taken : (p : ℕ) → p < s.places → (w.place p).credit ≢ credit.Taken
    not_taken p l c = S (event.Burn p) (λ q n e. cc) (l, l, l) c

    -- a Working place has credit One
    one : (p : ℕ) → p < s.places → (w.place p).phase ≡ phase.Working → (w.place p).credit
        ≡ credit.One
    one p l f = go (w.place p).credit refl
      where
        go : (c : Credit) → (w.place p).credit ≡ c → (w.place p).credit ≡ credit.One
        go credit.Zero e = absurd
            (let g : PhaseFits phase.Working credit.Zero (length (w.place p).bag) =
            rw (f, e) at (L.inner p l).fits in g.1 refl)
        go credit.One e = e
        go credit.Minted e =
            absurd (let g = L.can_give p l f e in let y = g.1
            in S (event.Give p y.1 y.0) (λ q n x. cc) (l, y.2, l) (f, e, y.4))
        go credit.Taken e = absurd (not_taken p l e)

    long_or_short : (n : ℕ) → (1 < n) ⊎ (n < 2)
    long_or_short n = grind arith

    -- a Working place has looked at all edges and found nothing
    clear : (p : ℕ) → p < s.places → (w.place p).phase ≡ phase.Working → AllClear s p (w.place p)
    clear p l f k t m h = go (mark_at (w.place p).marks k t) refl
      where
        go : (x : Mark) → mark_at (w.place p).marks k t ≡ x → mark_at (w.place p).marks k t
            ≡ mark.Clear
        go mark.Unseen e = absurd (S (event.Look p t k) (λ q n x. cc) (l, m, l) (f, h, e))
        go mark.Clear e = e
        go mark.Pending e = absurd (let a = (L.victim k t p m l).pending e in ⊎_elim
            (λ b. S (event.Mint p) (λ q n x. cc) (l, l, l) (f, one p l f, b, (k, t, m, h, inl a)))
            (λ b. S (event.Deny p t k) (λ q n x. cc) (l, m, l) (a, not_gone p l, inr b))
            (long_or_short (length (w.place p).bag)))

    not_working : (p : ℕ) → p < s.places → (w.place p).phase ≢ phase.Working
    not_working p l f = S (event.Batch p) (λ q n x. cc) (l, l, l) (
      f,
      one p l f,
      clear p l f,
      λ b t m h e. S (event.Mint p) (λ q n x. cc) (l, l, l)
          (f, one p l f, b, (kind.Line, t, m, h, inr (refl, e))),
    )

    not_waiting : (p v : ℕ) (k : Kind) → p < s.places → (w.place p).phase ≢ phase.Waiting v k
    not_waiting p v k l f = go ((L.inner p l).near v k f) (w.edge k p v) refl
      where
        go : (m : v < s.places) (e : WorldEdge I) → w.edge k p v ≡ e → ⊥
        go m Idle e = (L.thief k p v l m).waited (rw f (waits_self k v)) e
        go m Asked e = S (event.Deny v p k) (λ q n x. cc) (m, l, m) (e, not_gone v m, inl (not_working v m))
        go m Refused e = S (event.Shrug p v k) (λ q n x. cc) (l, l, m) (f, e)
        go m (Loot xs) e = let i : PhaseFits (phase.Waiting v k) (w.place p).credit
            (length (w.place p).bag) = rw f at (L.inner p l).fits in
            S (event.Take p v k) (λ q n x. cc) (l, l, m) ((xs, e), inl (f, i.1))

    other : (p : ℕ) → 1 < s.places → (q : ℕ) × (q < s.places) × (p ≢ q)
    other p b = ⊎_elim (λ (e : p ≡ 0). (1, b, λ x. omega arith)) (λ (n : p ≢ 0). (0, omega arith, n))
        (cases_eq p 0)

    not_idle : (p : ℕ) → p < s.places → (w.place p).phase ≢ phase.Idle
    not_idle p l f = ⊎_elim
        (λ (e : (w.place p).tries ≡ 0).
        S (event.Sleep p) (λ q n x. cc) (l, l, l)
        (f, e, λ v m h. armed v m h e (w.edge kind.Line p v) refl))
        (λ (n : (w.place p).tries ≢ 0).
        let t = (L.inner p l).tries in
        let two : 1 < s.places =
        ⊎_elim (λ x. x) (λ x. let o = one_place x in absurd (omega arith)) (long_or_short s.places) in
        let q = other p two in
        S (event.Ask p q.0 kind.Steal) (λ r n x. cc) (l, l, q.1) (
          f,
          omega arith,
          rw (eq_other p q.0 q.2) refl,
          (L.thief kind.Steal p q.0 l q.1).steal refl (not_gone p l) (rw f refl),
        ))
        (cases_eq (w.place p).tries 0)
      where
        armed : (v : ℕ) → v < s.places → has_line s p v ≡ true → (w.place p).tries ≡ 0
            → (e : WorldEdge I)
            → w.edge kind.Line p v ≡ e → IsArmed (w.edge kind.Line p v)
        armed v m h t Idle e = absurd (S (event.Ask p v kind.Line) (λ r n x. cc) (l, l, m) (f, t, h, e))
        armed v m h t Asked e =
            absurd (⊎_elim (λ x. let y : waits_on kind.Line v phase.Idle ≡ true = rw f at x in cc)
            (λ x. not_gone p l x) ((L.thief kind.Line p v l m).line refl e))
        armed v m h t Refused e = rw e tt
        armed v m h t (Loot xs) e = rw e tt

    sleeps : (p : ℕ) → p < s.places → (w.place p).phase ≡ phase.Asleep
    sleeps p l = go (w.place p).phase refl
      where
        go : (f : Phase) → (w.place p).phase ≡ f → (w.place p).phase ≡ phase.Asleep
        go phase.Working e = absurd (not_working p l e)
        go phase.Idle e = absurd (not_idle p l e)
        go (phase.Waiting v k) e = absurd (not_waiting p v k l e)
        go phase.Asleep e = e
        go phase.Gone e = absurd (not_gone p l e)

    no_credit : (p : ℕ) → p < s.places → (w.place p).credit ≡ credit.Zero
    no_credit p l = let f : PhaseFits phase.Asleep (w.place p).credit (length (w.place p).bag) =
        rw (sleeps p l) at (L.inner p l).fits in f.1

    no_loot : (k : Kind) (t v : ℕ) → t < s.places → v < s.places → loot_count (w.edge k t v) ≡ 0
    no_loot kind.Steal t v l m = rw ((L.thief kind.Steal t v l m).quiet (no_credit t l) refl) refl
    no_loot kind.Line t v l m = go (w.edge kind.Line t v) refl
      where
        go : (e : WorldEdge I) → w.edge kind.Line t v ≡ e → loot_count (w.edge kind.Line t v) ≡ 0
        go Idle e = rw e refl
        go Asked e = rw e refl
        go Refused e = rw e refl
        go (Loot xs) e = absurd
            (S (event.Take t v kind.Line) (λ r n x. cc) (l, l, m) ((xs, e), inr (refl, inl (sleeps t l))))

    dead : ⊥
    dead =
        let a = sum_zero s.places (λ p. credit_count (w.place p).credit) (λ p l. rw (no_credit p l) refl) in
        let b = sum_zero s.places (λ t. sum_of_own_edges s w kind.Steal t loot_count)
        (λ t l. sum_zero s.places (λ v. loot_count (w.edge kind.Steal t v))
        (λ v m. no_loot kind.Steal t v l m)) in
        let c = sum_zero s.places (λ t. sum_of_own_edges s w kind.Line t loot_count)
        (λ t l. sum_zero s.places (λ v. loot_count (w.edge kind.Line t v))
        (λ v m. no_loot kind.Line t v l m)) in
        let e = L.sums.live in
        omega arith

  -- a stuck world is finished, and every place is Gone
  pub stuck_finished : IsProper s → (s.places < 2 → s.tries ≡ 0) → IsStuck s w → w.stop ≡ 0
      → (w.live ≡ 0)
      × ((p : ℕ) → p < s.places → (w.place p).phase ≡ phase.Gone)
  stuck_finished P o S z =
      let over : w.live ≡ 0 =
      ⊎_elim (λ x. x) (λ (n : w.live ≢ 0). absurd (dead P o S z (omega arith))) (cases_eq w.live 0) in (
        over,
        λ p l. ⊎_elim (λ x. x)
            (λ (n : (w.place p).phase ≢ phase.Gone).
            absurd (S (event.Leave p) (λ q m x. cc) (l, l, l) (n, inl over))) (gone_cases (w.place p).phase),
      )
