-- How sums change where one term changes.
use Rattle.std.proofs.Math.Nat.{mul-add}
use Rattle.std.proofs.Common.{◌≡◌, ◌≢◌, ℕ, zero, suc, ◌+◌, ◌<◌, ◌≤◌, refl, sym, subst, ⊎_elim}
use Rattle.std.proofs.Common.{arith, ◌*◌}
use Rattle.std.proofs.lemmas.Bool.{cases_eq}
use Rattle.glb_laws.specs.Sums.{sum_to}

pub sum_same : (n : ℕ) (f g : ℕ → ℕ) → ((j : ℕ) → j < n → g j ≡ f j) → sum_to n g ≡ sum_to n f
sum_same zero f g h = refl
sum_same (suc n) f g h =
    let e = sum_same n f g (λ j l. h j (omega arith)) in
    let d = h n (omega arith) in
    omega arith

pub sum_change : (n i : ℕ) (f g : ℕ → ℕ) → i < n → ((j : ℕ) → j < n → j ≢ i → g j ≡ f j)
    → sum_to n g + f i ≡ sum_to n f + g i
sum_change zero i f g l h = absurd (omega arith)
sum_change (suc n) i f g l h =
    ⊎_elim
    (λ (e : i ≡ n).
    let s = sum_same n f g (λ j b. h j (omega arith) (λ q. omega arith)) in
    subst (λ m. (sum_to n g + g n) + f m ≡ (sum_to n f + f n) + g m) (sym e) (omega arith))
    (λ (e : i ≢ n).
    let s = sum_change n i f g (omega arith) (λ j b d. h j (omega arith) d) in
    let d = h n (omega arith) (λ q. e (sym q)) in
    omega arith)
    (cases_eq i n)

pub sum_le : (n : ℕ) (f g : ℕ → ℕ) → ((j : ℕ) → j < n → f j ≤ g j) → sum_to n f ≤ sum_to n g
sum_le zero f g h = omega arith
sum_le (suc n) f g h =
    let e = sum_le n f g (λ j l. h j (omega arith)) in
    let d = h n (omega arith) in
    omega arith

-- one term is at most the sum
pub term_le : (n i : ℕ) (f : ℕ → ℕ) → i < n → f i ≤ sum_to n f
term_le zero i f l = absurd (omega arith)
term_le (suc n) i f l =
    ⊎_elim
    (λ (e : i ≡ n). subst (λ m. f m ≤ sum_to n f + f n) (sym e) (omega arith))
    (λ (e : i ≢ n). let d = term_le n i f (omega arith) in omega arith)
    (cases_eq i n)

pub sum_plus : (n : ℕ) (f g : ℕ → ℕ) → sum_to n (λ j. f j + g j) ≡ sum_to n f + sum_to n g
sum_plus zero f g = refl
sum_plus (suc n) f g = let e = sum_plus n f g in omega arith

pub sum_zero : (n : ℕ) (f : ℕ → ℕ) → ((j : ℕ) → j < n → f j ≡ 0) → sum_to n f ≡ 0
sum_zero zero f h = refl
sum_zero (suc n) f h = let e = sum_zero n f (λ j l. h j (omega arith)) in let d = h n (omega arith)
    in omega arith

pub sum_most : (n k : ℕ) (f : ℕ → ℕ) → ((j : ℕ) → j < n → f j ≤ k) → sum_to n f ≤ n * k
sum_most zero k f h = omega arith
sum_most (suc n) k f h =
    let a : sum_to n f ≤ n * k = sum_most n k f (λ j l. h j (omega arith)) in
    let b : f n ≤ k = h n (omega arith) in
    grind arith

pub sum_times : (n c : ℕ) (f g : ℕ → ℕ) → ((j : ℕ) → j < n → f j ≤ c * g j)
    → sum_to n f ≤ c * sum_to n g
sum_times zero c f g h = omega arith
sum_times (suc n) c f g h = let e = sum_times n c f g (λ j l. h j (omega arith)) in
    let d = h n (omega arith) in let m = mul-add c (sum_to n g) (g n) in omega arith
