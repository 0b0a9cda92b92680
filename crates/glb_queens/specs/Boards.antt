-- Boards of queens, told by the column of the queen of each row, row by row.
use Rattle.std.specs.Prelude.{◌≢◌, ℕ, zero, suc, ◌+◌, ◌-◌, ◌*◌, ◌<◌, ◌≤◌, ◌==◌, Bool, true, not, ◌&&◌, cond, nat_lt, List, [], ◌∷◌, ◌++◌, length, slice_index, map, count_by}
use Rattle.std.specs.List.{All, AllPairs, Contains, filter, range_with_len}
use Rattle.std.proofs.Common.{lit<, ◌^◌}
use Rattle.std.proofs.lemmas.Bool.{cond_both}
use Rattle.glb_laws.specs.declared.sat_sum.SatSum.{SatSum}
use Rattle.glb_laws.specs.Bounded.{sat_sum}

-- queens in the columns `a` and `b`, `rows` rows apart, do not attack each other
abbrev pub AreApart : ℕ → ℕ → ℕ → Type 0
AreApart a b rows = (a ≢ b) × (a + rows ≢ b) × (b + rows ≢ a)

-- columns are distinct, and no two rows i < j have columns that differ by j - i
abbrev pub IsSafe : List ℕ → Type 0
IsSafe columns =
    (i j : ℕ) → i < j → j < length columns
    → AreApart (slice_index columns i) (slice_index columns j) (j - i)

-- a safe list of at most n columns below n
pub record IsBoard (n : ℕ) (columns : List ℕ) : Type 0 where
  pub safe : IsSafe columns
  pub below : All (λ column. column < n) columns
  pub rows : length columns ≤ n

-- the boards are all the safe lists of at most n columns below n, each of them once
pub record IsEachBoardOnce (n : ℕ) (boards : List (List ℕ)) : Type 0 where
  pub sound : All (IsBoard n) boards
  pub complete : (columns : List ℕ) → IsBoard n columns → Contains boards columns
  pub once : AllPairs (λ a b. a ≢ b) boards

-- whether such queens do not attack each other
abbrev pub are_apart : ℕ → ℕ → ℕ → Bool
are_apart a b rows = not (a == b) && (not (a + rows == b) && not (b + rows == a))

-- whether no queen attacks one in `column` of the next row
unfoldable pub is_free : List ℕ → ℕ → Bool
is_free [] column = true
is_free (first ∷ columns) column = are_apart first column
    (length columns + 1) && is_free columns column

-- the safe lists with one more column, by rising column, and none at length n
unfoldable pub boards_below : ℕ → List ℕ → List (List ℕ)
boards_below n columns =
    cond (nat_lt (length columns) n)
    (map (λ column. columns ++ column ∷ []) (filter (is_free columns) (range_with_len 0 n)))
    []

-- 1 at length n, and 0 else
abbrev pub value_of : ℕ → List ℕ → SatSum
value_of n columns = sat_sum (cond (length columns == n) 1 0)

-- the value of a board is a number of 64 bits
pub value_is_proper : (n : ℕ) (columns : List ℕ) → (value_of n columns).0 < 2 ^ 64
value_is_proper n columns = cond_both (length columns == n) 1 0 (λ v. v < 2 ^ 64) (λ _. lit< tt)
    (λ _. lit< tt)

-- how many of the boards have n queens
abbrev pub count_full : ℕ → List (List ℕ) → ℕ
count_full n boards = count_by (λ columns. length columns == n) boards

-- the number of lists of different columns below n
unfoldable pub arrangements : ℕ → ℕ
arrangements zero = 1
arrangements (suc n) = 1 + suc n * arrangements n
