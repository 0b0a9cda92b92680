-- What an operator on vectors does in one of n lanes.
use Rattle.std.proofs.Common.{◌≡◌, ℕ, zero, suc, ◌<◌, List, [], ◌∷◌, length, slice_index, map, replicate, arith, refl, ◌∙◌}
use Rattle.std.specs.Simd.Lanes.{zip2, Each2}
use Rattle.std.proofs.lemmas.Simd.{get_or-zip2, length-zip2}
use Rattle.std.proofs.lemmas.List.{get_or-map, length-map, get_or-replicate, length-replicate}

-- an operator on one vector
in_lane_of-map : (n : ℕ) (f : ℕ → ℕ) (a : List ℕ) (j : ℕ) → length a ≡ n → j < n
    → slice_index (map f a) j ≡ f (slice_index a j)
in_lane_of-map n f a j la h = get_or-map f a j 0 0 (omega arith)

-- an operator on two vectors
pub in_lane_of-zip2 : (n : ℕ) (f : ℕ → ℕ → ℕ) (a b : List ℕ) (j : ℕ) → length a ≡ n → length b ≡ n
    → j < n
    → slice_index (zip2 f a b) j ≡ f (slice_index a j) (slice_index b j)
in_lane_of-zip2 n f a b j la lb h = get_or-zip2 f a b j 0 0 0 (omega arith) (omega arith)

-- as many lanes as before
long : (n : ℕ) (f : ℕ → ℕ → ℕ) (a b : List ℕ) → length a ≡ n → length b ≡ n → length (zip2 f a b)
    ≡ n
long n f a b la lb = length-zip2 f a b (omega arith) ∙ la

-- one number in each lane
pub in_lane_of-splat : (n k j : ℕ) → j < n → slice_index (replicate n k) j ≡ k
in_lane_of-splat n k j h = get_or-replicate n j k 0 h

-- `choose`
pub in_lane_of-choose : (n : ℕ) (f g : ℕ → ℕ → ℕ) (m : ℕ → ℕ) (x y z : List ℕ) (j : ℕ) → length x
    ≡ n
    → length y ≡ n → length z ≡ n → j < n
    → slice_index (zip2 f (zip2 g x y) (zip2 g (map m x) z)) j
    ≡ f (g (slice_index x j) (slice_index y j)) (g (m (slice_index x j)) (slice_index z j))
in_lane_of-choose n f g m x y z j lx ly lz h =
    let ln : length (map m x) ≡ n = length-map x m ∙ lx in
    rw (
      in_lane_of-zip2 n f (zip2 g x y) (zip2 g (map m x) z) j (long n g x y lx ly)
          (long n g (map m x) z ln lz) h,
      in_lane_of-zip2 n g x y j lx ly h,
      in_lane_of-zip2 n g (map m x) z j ln lz h,
      in_lane_of-map n m x j lx h,
    ) refl

-- one operator on three vectors
pub in_lane_of-three : (n : ℕ) (f : ℕ → ℕ → ℕ) (x y z : List ℕ) (j : ℕ) → length x ≡ n → length y
    ≡ n
    → length z ≡ n → j < n
    → slice_index (zip2 f (zip2 f x y) z) j
    ≡ f (f (slice_index x j) (slice_index y j)) (slice_index z j)
in_lane_of-three n f x y z j lx ly lz h =
    rw (
      in_lane_of-zip2 n f (zip2 f x y) z j
          (long n f x y lx ly) lz h,
      in_lane_of-zip2 n f x y j lx ly h,
    ) refl

-- one operator on four vectors
pub in_lane_of-four : (n : ℕ) (f : ℕ → ℕ → ℕ) (x y z u : List ℕ) (j : ℕ) → length x ≡ n → length y
    ≡ n
    → length z ≡ n → length u ≡ n → j < n
    → slice_index (zip2 f (zip2 f (zip2 f x y) z) u) j
    ≡ f (f (f (slice_index x j) (slice_index y j)) (slice_index z j)) (slice_index u j)
in_lane_of-four n f x y z u j lx ly lz lu h =
    rw (
      in_lane_of-zip2 n f (zip2 f (zip2 f x y) z) u j
          (long n f (zip2 f x y) z (long n f x y lx ly) lz) lu h,
      in_lane_of-three n f x y z j lx ly lz h,
    ) refl

-- `majority`
pub in_lane_of-majority : (n : ℕ) (f g : ℕ → ℕ → ℕ) (x y z : List ℕ) (j : ℕ) → length x ≡ n
    → length y ≡ n
    → length z ≡ n → j < n
    → slice_index (zip2 f (zip2 f (zip2 g x y) (zip2 g x z)) (zip2 g y z)) j
    ≡ f (f (g (slice_index x j) (slice_index y j)) (g (slice_index x j) (slice_index z j)))
    (g (slice_index y j) (slice_index z j))
in_lane_of-majority n f g x y z j lx ly lz h =
    rw (
      in_lane_of-three n f (zip2 g x y) (zip2 g x z) (zip2 g y z) j (long n g x y lx ly)
          (long n g x z lx lz)
          (long n g y z ly lz) h,
      in_lane_of-zip2 n g x y j lx ly h,
      in_lane_of-zip2 n g x z j lx lz h,
      in_lane_of-zip2 n g y z j ly lz h,
    ) refl

-- two shifts by as many places in each lane, joined
pub in_lane_of-rotation : (n : ℕ) (o l r : ℕ → ℕ → ℕ) (x : List ℕ) (k m j : ℕ) → length x ≡ n
    → j < n
    → slice_index (zip2 o (zip2 l x (replicate n k)) (zip2 r x (replicate n m))) j
    ≡ o (l (slice_index x j) k) (r (slice_index x j) m)
in_lane_of-rotation n o l r x k m j lx h =
    let lk : length (replicate n k) ≡ n = length-replicate n k in
    let lm : length (replicate n m) ≡ n = length-replicate n m in
    rw (
      in_lane_of-zip2 n o (zip2 l x (replicate n k)) (zip2 r x (replicate n m)) j
          (long n l x (replicate n k) lx lk)
          (long n r x (replicate n m) lx lm) h,
      in_lane_of-zip2 n l x (replicate n k) j lx lk h,
      in_lane_of-zip2 n r x (replicate n m) j lx lm h,
      in_lane_of-splat n k j h,
      in_lane_of-splat n m j h,
    ) refl

-- the number of places of a shift is within the width in each lane
pub shift_in_each_lane : (n k width : ℕ) (x : List ℕ) → k < width
    → Each2 (λ (a b : ℕ). b < width) x (replicate n k)
shift_in_each_lane n k width [] h = tt
shift_in_each_lane zero k width (a ∷ x) h = tt
shift_in_each_lane (suc n) k width (a ∷ x) h = (h, shift_in_each_lane n k width x h)
