-- How many choices add up to a target, by whether the first weight is chosen.
use Rattle.std.proofs.Common.{◌≡◌, ℕ, ◌+◌, ◌-◌, List, [], ◌∷◌, refl, sym, ap, ◌∙◌}
use Rattle.std.proofs.Common.{arith, Bool, true, false, map}
use Rattle.std.specs.Prelude.{◌==◌, nat_lt, cond}
use Rattle.std.specs.List.{sum, sum_by, count_by}
use Rattle.std.proofs.lemmas.Bool.{eqb-true, eqb-false, eq-eqb, ne_eqb}
use Rattle.std.proofs.lemmas.Grind.{common_steps}
use Rattle.std.proofs.lemmas.List.Sums.{sum_by-cons, sum_by-append}
use Rattle.glb_uses.specs.SubsetSums.{choices, count_of_sums}

-- without weights there is one choice, which adds up to 0
pub count-none : (target : ℕ) → count_of_sums [] target ≡ cond (target == 0) 1 0
count-none target = part (target == 0) refl
  where
    part : (b : Bool) → (target == 0) ≡ b → count_of_sums [] target ≡ cond b 1 0
    part true e = ap (λ b. 0 + cond b 1 0) (eq-eqb 0 target (sym (eqb-true target 0 e)))
    part false e = ap (λ b. 0 + cond b 1 0) (ne_eqb 0 target (λ z. eqb-false target 0 e (sym z)))

-- a weight is added and the target reached, or what is missing without it is reached
one : (weight s target : ℕ)
    → ◌≡◌ {A = ℕ} (cond (weight + s == target) 1 0)
    (cond (nat_lt target weight) 0 (cond (s == target - weight) 1 0))
one weight s target = grind (arith, common_steps)

-- a condition may be asked once
both : (b : Bool) (m n : ℕ) → cond b 0 m + cond b 0 n ≡ cond b 0 (m + n)
both true m n = refl
both false m n = refl

-- where a weight is added to each of some choices
added : (weight target : ℕ) (cs : List (List ℕ))
    → count_by (λ c. sum c == target) (map (λ c. weight ∷ c) cs)
    ≡ cond (nat_lt target weight) 0 (count_by (λ c. sum c == target - weight) cs)
added weight target cs = part (nat_lt target weight) refl cs
  where
    part : (b : Bool) → nat_lt target weight ≡ b → (cs : List (List ℕ))
        → count_by (λ c. sum c == target) (map (λ c. weight ∷ c) cs)
        ≡ cond b 0 (count_by (λ c. sum c == target - weight) cs)
    part true e [] = refl
    part false e [] = refl
    part b e (c ∷ cs) =
        let p : List ℕ → ℕ = λ x. cond (sum x == target) 1 0 in
        let q : List ℕ → ℕ = λ x. cond (sum x == target - weight) 1 0 in
        let first : sum (weight ∷ c) ≡ weight + sum c = sum_by-cons (λ x. x) weight c in
        let head : p (weight ∷ c) ≡ cond b 0 (q c) =
        ap (λ s. cond (s == target) 1 0) first ∙ one weight (sum c) target
        ∙ ap (λ t. cond t 0 (q c)) e in
        sum_by-cons p (weight ∷ c) (map (λ x. weight ∷ x) cs)
        ∙ ap (λ n. n + sum_by p (map (λ x. weight ∷ x) cs)) head
        ∙ ap (λ n. cond b 0 (q c) + n) (part b e cs)
        ∙ both b (q c) (sum_by q cs)
        ∙ ap (λ n. cond b 0 n) (sym (sum_by-cons q c cs))

-- the first weight is left, or chosen where it is not more than the target
pub count-more : (weight : ℕ) (weights : List ℕ) (target : ℕ)
    → count_of_sums (weight ∷ weights) target
    ≡ count_of_sums weights target
    + cond (nat_lt target weight) 0 (count_of_sums weights (target - weight))
count-more weight weights target =
    sum_by-append (λ c. cond (sum c == target) 1 0) (choices weights)
    (map (λ c. weight ∷ c) (choices weights))
    ∙ ap (λ n. count_of_sums weights target + n) (added weight target (choices weights))
