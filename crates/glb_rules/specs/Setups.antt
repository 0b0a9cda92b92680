-- What does not change in a run: the parameters and the lines.
use Rattle.std.specs.Prelude.{◌≡◌, ℕ, ◌^◌, ◌≤◌, ◌<◌, Bool, true, false, cond, ◌==◌, nat_lt, List}
use Rattle.std.specs.Prelude.{[], ◌∷◌}
use Rattle.glb_laws.specs.Numbers.{IsDistinct}
use Rattle.glb_laws.specs.Numbers.{IsPath}
use Rattle.glb_laws.specs.Sums.{sum_to}
use Rattle.glb_rules.specs.World.{Setup, has_line}
use Rattle.glb_rules.specs.declared.params.Params.{Params}

-- each field is in its range
pub record IsWithinLimits (q : Params) : Type 0 where
  pub places : (1 ≤ q.places) × (q.places ≤ 64)
  pub batch : (1 ≤ q.batch) × (q.batch ≤ 65536)
  pub tries : q.tries ≤ 64
  pub base : (2 ≤ q.base) × (q.base ≤ 64)
  pub seed : q.seed < 2 ^ 64
  pub limit : (1 ≤ q.limit) × (q.limit ≤ 2 ^ 40)

-- the list has a member
abbrev pub has_items : {I : Type 0} → List I → Bool
has_items [] = false
has_items (x ∷ xs) = true

-- the tries count as 0 at one place, which has no other to ask
abbrev pub tries_of : Params → ℕ
tries_of q = cond (q.places == 1) 0 q.tries

-- 1 where it holds, else 0
abbrev pub bit : Bool → ℕ
bit b = cond b 1 0

-- the number of a place's lines
abbrev pub degree : Setup → ℕ → ℕ
degree s p = sum_to s.places (λ v. bit (has_line s p v))

-- the number of lines that lead to a place
abbrev pub in_degree : Setup → ℕ → ℕ
in_degree s q = sum_to s.places (λ t. bit (has_line s t q))

-- what the laws ask of a setup
pub record IsProper (s : Setup) : Type 0 where
  -- two dimensions of one place have different targets, and all targets are places
  pub once : (t : ℕ) → t < s.places → IsDistinct (s.outs t)
  pub near : (t v : ℕ) → has_line s t v ≡ true → v < s.places
  pub no_loop : (p : ℕ) → has_line s p p ≡ false
  pub out : (p : ℕ) → p < s.places → degree s p ≤ s.dimension
  pub into : (q : ℕ) → q < s.places → in_degree s q ≤ s.dimension
  pub some : 0 < s.places
  pub batch : 0 < s.batch
  pub alone : s.places < 2 → s.tries ≡ 0

-- a way of lines leads from each place to each
abbrev pub IsConnected : Setup → Type 0
IsConnected s =
    (a b : ℕ) → a < s.places → b < s.places
    → (ps : List ℕ) × IsPath (λ t v. (v < s.places) × (has_line s t v ≡ true)) a ps b
