-- The 80 words of a block, laid out one after the other, and the rounds over them.
use Rattle.std.proofs.Common.{◌≡◌, ◌≢◌, ℕ, zero, suc, ◌+◌, ◌-◌, ◌<◌, ◌≤◌, List, [], ◌∷◌, length, slice_index, slice_index_or, slice_set, refl, sym, ap, ◌∙◌, arith, inl, inr}
use Rattle.std.proofs.Math.ListN.{get_or-map}
use Rattle.std.proofs.lemmas.Bool.{cases_lt}
use Rattle.std.proofs.lemmas.List.{get_or-set_same, get_or-set_other, length-map, map-set}
use Rattle.sha1.specs.Sha1.{add32, next_word, schedule, rounds, round, round_fn, round_constant}
use Rattle.std.specs.Int.{w32, rotate_left}
use Rattle.sha1.proofs.Schedule.{slice_index-schedule_next, rounds_next}
use Rattle.glb_lanes.specs.inner.Lanes.{lane, AreWords, IsScheduled, HasRun}

-- one word more
pub scheduled_more : (b : List ℕ) (words : List (List ℕ)) (t j : ℕ) (x : List ℕ) → length words
    ≡ 80 → t < 80
    → IsScheduled b (lane j words) t → slice_index x j ≡ slice_index (schedule b 64) t
    → IsScheduled b (lane j (slice_set words t x)) (t + 1)
scheduled_more b words t j x long lt held same k k_lt =
    let at = λ (v : List ℕ). slice_index v j in
    let set : lane j (slice_set words t x)
    ≡ slice_set (lane j words) t (slice_index x j) = map-set at words t x in
    let room : t < length (lane j words) = omega (arith, length-map words at, long) in
    ap (λ l. slice_index l k) set
    ∙ elim (cases_lt k t) [
      | inl below ↦
          let other : k ≢ t = λ e. absurd (omega (arith, e, below)) in
          get_or-set_other (lane j words) t k (slice_index x j) 0 other ∙ held k below
      | inr above ↦
          let e : k ≡ t = omega arith in
          rw e (get_or-set_same (lane j words) t (slice_index x j) 0 room ∙ same)
    ]

-- the word that follows from those before it
pub scheduled_next : (b words : List ℕ) (t : ℕ) → 16 ≤ t → t < 80 → IsScheduled b words t
    → next_word words t ≡ slice_index (schedule b 64) t
scheduled_next b words t low high held =
    rw (
      held (t - 3) (omega arith),
      held (t - 8) (omega arith),
      held (t - 14) (omega arith),
      held (t - 16) (omega arith),
    ) (sym (slice_index-schedule_next b 64 t low (omega arith)))

-- one round, from what its parts are
pub one_round : (h ws v : List ℕ) (t f k x : ℕ) (next : List ℕ) → v ≡ rounds h ws t
    → f ≡ round_fn t (slice_index v 1) (slice_index v 2) (slice_index v 3) → k ≡ round_constant t
    → x ≡ slice_index ws t → next ≡ round v f k x → next ≡ rounds h ws (t + 1)
one_round h ws v t f k x next from is_f is_k is_x is_next =
    is_next ∙ rw (rounds_next h ws t, ← from, ← is_f, ← is_k, ← is_x) refl

-- the variables after a round, put into their places one after the other
pub round_in_place : (v : List (List ℕ)) (j f k w : ℕ) (x y : List ℕ) → length v ≡ 5
    → slice_index x j
    ≡ add32 (add32 (add32 (add32 (rotate_left w32 (slice_index (slice_index_or v 0 []) j) 5) f)
    (slice_index (slice_index_or v 4 []) j)) k) w
    → slice_index y j ≡ rotate_left w32 (slice_index (slice_index_or v 1 []) j) 30
    → lane j (slice_set (slice_set (slice_set (slice_set (slice_set v 4 (slice_index_or v 3 [])) 3
    (slice_index_or v 2 [])) 2 y) 1 (slice_index_or v 0 [])) 0 x)
    ≡ round (lane j v) f k w
round_in_place [] j f k w x y l ex ey = absurd (omega arith)
round_in_place (a ∷ []) j f k w x y l ex ey = absurd (omega arith)
round_in_place (a ∷ b ∷ []) j f k w x y l ex ey = absurd (omega arith)
round_in_place (a ∷ b ∷ c ∷ []) j f k w x y l ex ey = absurd (omega arith)
round_in_place (a ∷ b ∷ c ∷ d ∷ []) j f k w x y l ex ey = absurd (omega arith)
round_in_place (a ∷ b ∷ c ∷ d ∷ e ∷ []) j f k w x y l ex ey = rw (ex, ey) refl
round_in_place (a ∷ b ∷ c ∷ d ∷ e ∷ g ∷ more) j f k w x y l ex ey = absurd (omega arith)

-- the same number of rounds, spelled another way
pub run_at : (b v : List ℕ) (n k : ℕ) → n ≡ k → HasRun b v n → HasRun b v k
run_at b v n k e held = rw (← e) held

-- the same number of words, spelled another way
pub scheduled_at : (b words : List ℕ) (n k : ℕ) → n ≡ k → IsScheduled b words n
    → IsScheduled b words k
scheduled_at b words n k e held i lt = held i (omega (arith, e))

-- the first words of more
pub scheduled_less : (b words : List ℕ) (n k : ℕ) → k ≤ n → IsScheduled b words n
    → IsScheduled b words k
scheduled_less b words n k e held i lt = held i (omega (arith, e))

-- one of five words
pub word_of_five : (b : List ℕ) (five : List (List ℕ)) (t n k j : ℕ) → AreWords b (lane j five) t
    → n ≡ t + k → k < 5 → slice_index (slice_index_or five k []) j ≡ slice_index (schedule b 64) n
word_of_five b five t n k j held e k_lt =
    sym (get_or-map (λ (v : List ℕ). slice_index v j) five k []) ∙ held k k_lt
    ∙ ap (slice_index (schedule b 64)) (sym e)

-- what holds of each of five words
pub below_five : (P : ℕ → Type 0) → P 0 → P 1 → P 2 → P 3 → P 4 → (k : ℕ) → k < 5 → P k
below_five P p0 p1 p2 p3 p4 zero h = p0
below_five P p0 p1 p2 p3 p4 (suc zero) h = p1
below_five P p0 p1 p2 p3 p4 (suc (suc zero)) h = p2
below_five P p0 p1 p2 p3 p4 (suc (suc (suc zero))) h = p3
below_five P p0 p1 p2 p3 p4 (suc (suc (suc (suc zero)))) h = p4
below_five P p0 p1 p2 p3 p4 (suc (suc (suc (suc (suc k))))) h = absurd (omega arith)
