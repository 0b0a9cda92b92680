-- What the fields of a board hold: masks have one bit a column.
use Rattle.std.specs.Prelude.{◌≡◌, ℕ, ◌+◌, ◌-◌, ◌/◌, ◌^◌, ◌<◌, ◌≤◌, ◌==◌, List, [], ◌∷◌, ◌++◌, length, take, drop, bit_or}
use Rattle.std.specs.List.{All, filter, range_with_len}
use Rattle.std.specs.Int.{bit_at}
use Rattle.std.proofs.Common.{replicate, sym, ap, ◌∙◌, arith}
use Rattle.std.proofs.lemmas.List.{length-take, take-append-drop}
use Rattle.glb_queens.specs.Boards.{IsSafe}
use Rattle.glb_queens.specs.declared.board.Board.TheInside.{Inside}

-- the columns that have a queen
unfoldable pub taken_of : List ℕ → ℕ
taken_of [] = 0
taken_of (first ∷ columns) = bit_or (2 ^ first) (taken_of columns)

-- the columns of the next row that are attacked along diagonals on which columns rise
unfoldable pub rising_of : List ℕ → ℕ
rising_of [] = 0
rising_of (first ∷ columns) = bit_or (2 ^ (first + (length columns + 1))) (rising_of columns)

-- the columns of the next row that are attacked along diagonals on which columns fall
unfoldable pub falling_of : List ℕ → ℕ
falling_of [] = 0
falling_of (first ∷ columns) = bit_or (2 ^ first / 2 ^ (length columns + 1)) (falling_of columns)

-- the fields of the board that has these columns
abbrev pub fields_of : List ℕ → Inside
fields_of columns = record {
  columns = columns ++ replicate (16 - length columns) 0;
  rows = length columns;
  taken = taken_of columns;
  rising = rising_of columns;
  falling = falling_of columns;
}

-- the masks agree with the columns, and the columns are safe
pub record IsKept (b : Inside) : Type 0 where
  pub size : length b.columns ≡ 16
  pub rows : b.rows ≤ 16
  pub rest : drop b.rows b.columns ≡ replicate (16 - b.rows) 0
  pub taken : b.taken ≡ taken_of (take b.rows b.columns)
  pub rising : b.rising ≡ rising_of (take b.rows b.columns)
  pub falling : b.falling ≡ falling_of (take b.rows b.columns)
  pub below : All (λ column. column < 16) (take b.rows b.columns)
  pub safe : IsSafe (take b.rows b.columns)

-- the columns whose bit is set, by rising column
unfoldable pub columns_in : ℕ → List ℕ
columns_in mask = filter (λ column. bit_at mask column == 1) (range_with_len 0 16)

-- the columns of a board give its fields back
pub same_fields : (b : Inside) → IsKept b → fields_of (take b.rows b.columns) ≡ b
same_fields b kept =
    let columns = take b.rows b.columns in
    let rows : length columns ≡ b.rows = length-take b.rows b.columns
    ∙ omega (arith, kept.size, kept.rows) in
    let all : columns ++ replicate (16 - length columns) 0 ≡ b.columns =
    ap (λ k. columns ++ replicate (16 - k) 0) rows ∙ ap (λ l. columns ++ l) (sym kept.rest)
    ∙ take-append-drop b.rows b.columns
    in
    let made : List ℕ → ℕ → ℕ → ℕ → ℕ
    → Inside = λ c n t r f. record { columns = c; rows = n; taken = t; rising = r; falling = f } in
    ap (λ c. made c (length columns) (taken_of columns) (rising_of columns)
    (falling_of columns)) all
    ∙ ap (λ n. made b.columns n (taken_of columns) (rising_of columns) (falling_of columns)) rows
    ∙ ap (λ t. made b.columns b.rows t (rising_of columns) (falling_of columns)) (sym kept.taken)
    ∙ ap (λ r. made b.columns b.rows b.taken r (falling_of columns)) (sym kept.rising)
    ∙ ap (λ f. made b.columns b.rows b.taken b.rising f) (sym kept.falling)
