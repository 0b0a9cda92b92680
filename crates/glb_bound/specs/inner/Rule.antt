-- The rule of the table of four words.
use mathlib.Core.Option.{some}
use lib.ListN.{get_elem?}
use Rattle.std.specs.Prelude.{◌≡◌, ◌⊎◌, ℕ, zero, suc, ◌+◌, ◌*◌, ◌<◌, ◌≤◌, ◌^◌, List, [], ◌∷◌, ◌++◌}
use Rattle.std.specs.Prelude.{min, max, IsPermutation}
use Rattle.atomic_table.specs.Table.{State}
use Rattle.glb_bound.specs.declared.view.View.{View}
use Rattle.glb_bound.specs.declared.rule.Start.{Start}
use Rattle.glb_bound.specs.inner.Views.{next_of}

-- the sum over all views
abbrev pub total : (View → ℕ) → List View → ℕ
total f [] = 0
total f (v ∷ vs) = f v + total f vs

-- the greatest over all views, and 0 where there are none
abbrev pub greatest : (View → ℕ) → List View → ℕ
greatest f [] = 0
greatest f (v ∷ vs) = max (f v) (greatest f vs)

-- the numbers that all views have claimed
abbrev pub claims : List View → List ℕ
claims [] = []
claims (v ∷ vs) = v.claimed ++ claims vs

-- the numbers below n, the last of them first
abbrev pub below : ℕ → List ℕ
below zero = []
below (suc n) = n ∷ below n

-- numbers with which a run can be opened
pub record IsGood (k : Start) : Type 0 where
  pub places : k.places ≤ 64
  pub frontier : k.frontier < 2 ^ 63
  pub items : k.items ≤ 2 ^ 41

-- what each view meets, where the words are these
pub record Fits (k : Start) (best claim items stop : ℕ) (v : View) : Type 0 where
  -- a seat that stands for no place counts for nothing
  pub idle : v.places ≡ 0 → (v.claimed ≡ []) × (v.raised ≡ 0) × (v.code ≡ 0)
  pub frontier : v.frontier ≤ k.frontier
  pub knows : 1 ≤ v.places → k.frontier ≤ v.frontier
  pub seen : v.seen ≤ best
  pub claimed : next_of v.claimed ≤ claim
  pub once : v.ended ≤ v.places
  pub ended : 1 ≤ v.ended → k.frontier ≤ claim
  pub counted : v.counted ≤ v.places * 2 ^ 41
  pub seen_total : v.total ≤ items
  pub halted : v.halted ≤ stop
  pub cause : v.code ≡ 1 → k.limit < items

-- the claimed numbers are those below the claim word, each once; the best is the greatest that it
-- was raised to; the items are those counted; the stop code is the greatest raised
pub record Holds (k : Start) (s : State ℕ View) : Type 0 where
  pub good : IsGood k
  pub best : ℕ
  pub claim : ℕ
  pub items : ℕ
  pub stop : ℕ
  pub words : s.words ≡ best ∷ claim ∷ items ∷ stop ∷ []
  pub all_places : total (λ v. v.places) s.views ≡ k.places
  pub all_claims : IsPermutation (claims s.views) (below (min claim k.frontier))
  pub claim_is : claim ≤ k.frontier + total (λ v. v.ended) s.views
  pub best_is : best ≡ max k.best (greatest (λ v. v.raised) s.views)
  pub items_are : items ≡ k.items + total (λ v. v.counted) s.views
  pub stop_is : stop ≡ greatest (λ v. v.code) s.views
  pub each : (i : ℕ) (v : View) → get_elem? s.views i ≡ some v → Fits k best claim items stop v

-- what a seat that stands for all places knows
pub record Ends (k : Start) (v : View) : Type 0 where
  pub number : ℕ
  pub within : number ≤ k.frontier
  pub claims_are : IsPermutation v.claimed (below number)
  pub all_claimed : 1 ≤ v.ended → number ≡ k.frontier
  pub best_seen : v.seen ≤ max k.best v.raised
  pub cause : 1 ≤ v.halted → (2 ≤ v.code) ⊎ (k.limit < k.items + v.counted)
