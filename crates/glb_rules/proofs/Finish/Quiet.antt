-- A finished lawful world is quiet, and the lines of a sleeper are armed.
use Rattle.std.proofs.Common.{◌≡◌, ℕ, ◌+◌, ◌<◌, ◌≤◌, ◌⊎◌, List, length, refl, inl, inr, arith}
use Rattle.glb_rules.specs.World.{Loot, Setup, World, loot_count, credit_count}
use Rattle.glb_rules.specs.Lawful.{IsLawful, PhaseFits, sum_of_places, sum_of_edges}
use Rattle.glb_rules.specs.Lawful.{sum_of_own_edges}
use Rattle.glb_rules.specs.Finish.{IsQuiet, SleepersAreArmed}
use Rattle.glb_rules.proofs.Invariant.PlaceEvents.{worth_le}
use Rattle.glb_rules.proofs.Sums.Totals.{term_le}
use Rattle.glb_rules.specs.declared.kinds.Kind.{Kind}
use Rattle.glb_rules.specs.declared.kinds.Kind.TheVariants as kind
use Rattle.glb_rules.specs.declared.kinds.Phase.{Phase}
use Rattle.glb_rules.specs.declared.kinds.Phase.TheVariants as phase
use Rattle.glb_rules.specs.declared.kinds.Credit.{Credit}
use Rattle.glb_rules.specs.declared.kinds.Credit.TheVariants as credit

pub zero_worth : (c : Credit) → credit_count c ≤ 0 → c ≡ credit.Zero
zero_worth credit.Zero h = refl
zero_worth credit.One h = absurd (omega arith)
zero_worth credit.Minted h = absurd (omega arith)
zero_worth credit.Taken h = absurd (omega arith)

zero_rest : (f : Phase) (n : ℕ) → PhaseFits f credit.Zero n
    → ((f ≡ phase.Asleep) ⊎ (f ≡ phase.Gone))
    × (n ≡ 0)
zero_rest phase.Working n h = absurd (h.1 refl)
zero_rest phase.Idle n h = absurd (let e = h.1 in cc)
zero_rest (phase.Waiting v k) n h = absurd (let e = h.1 in cc)
zero_rest phase.Asleep n h = (inl refl, h.0)
zero_rest phase.Gone n h = (inr refl, h refl)

module _ {I : Type 0} (s : Setup) (w : World I) (L : IsLawful s w) where
  loot_counts : (k : Kind) (t v : ℕ) (xs : List I) → t < s.places → v < s.places → w.edge k t v
      ≡ Loot xs
      → 1 ≤ sum_of_edges s w k loot_count
  loot_counts k t v xs m n e =
      let a = term_le s.places t (λ t. sum_of_own_edges s w k t loot_count) m in
      let b = term_le s.places v (λ v. loot_count (w.edge k t v)) n in
      let c : loot_count (w.edge k t v) ≡ 1 = rw e refl in
      omega arith

  pub finished_quiet : w.live ≡ 0 → IsQuiet s w
  finished_quiet z = record {
    rest = λ p l. (zero_rest (w.place p).phase (length (w.place p).bag) (fits p l)).0;
    empty = λ p l. (zero_rest (w.place p).phase (length (w.place p).bag) (fits p l)).1;
    no_loot = λ k t v m n xs e. let a = loot_counts k t v xs m n e in let b = L.sums.live in loot k a b;
  }
    where
      fits : (p : ℕ) → p < s.places
          → PhaseFits (w.place p).phase credit.Zero (length (w.place p).bag)
      fits p l = let e : (w.place p).credit ≡ credit.Zero =
          zero_worth (w.place p).credit (let a = worth_le L p l in omega arith)
          in rw e at (L.inner p l).fits

      loot : (k : Kind) → 1 ≤ sum_of_edges s w k loot_count
          → w.live ≡ sum_of_places s w (λ a. credit_count a.credit) + sum_of_edges s w kind.Steal loot_count + sum_of_edges s w kind.Line
          loot_count → ⊥
      loot kind.Steal a b = omega arith
      loot kind.Line a b = omega arith

  pub held : SleepersAreArmed s w
  held p v l m a e =
      let f : PhaseFits phase.Asleep (w.place p).credit (length (w.place p).bag) =
      rw a at (L.inner p l).fits in
      (L.thief kind.Line p v l m).armed f.1 refl e
