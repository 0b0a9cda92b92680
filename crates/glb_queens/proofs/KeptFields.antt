-- The fields of a board agree with its columns, at the start and with one more queen.
use Rattle.std.proofs.Common.{◌≡◌, ℕ, ◌+◌, ◌-◌, ◌*◌, ◌/◌, ◌%◌, ◌^◌, ◌<◌, ◌≤◌, true, List, [], ◌∷◌, ◌++◌, length, take, drop, set, replicate, refl, sym, ap, ap₂, subst, ◌∙◌, arith, bit_or, mod-eq_of_lt}
use Rattle.std.proofs.lemmas.List.{take_more_set, drop-set-lt, drop-drop, drop-replicate, length-set, length-take}
use Rattle.std.specs.List.{All}
use Rattle.std.proofs.Math.Pow.{pow_mono}
use Rattle.std.proofs.lemmas.List.Elements.{All-nil, All-push}
use Rattle.std.proofs.lemmas.Nat.{or_lt, pow_below}
use Rattle.glb_queens.specs.declared.board.Board.TheInside.{Inside}
use Rattle.glb_queens.specs.Boards.{IsSafe, is_free}
use Rattle.glb_queens.specs.inner.Masks.{IsKept, taken_of, rising_of, falling_of}
use Rattle.glb_queens.proofs.MaskBits.{taken_push, rising_push, falling_push, rising_below}
use Rattle.glb_queens.proofs.SafeColumns.{safe_none, safe_push}

-- the fields of the board without queens
pub kept_empty : IsKept
    (record { columns = replicate 16 0; rows = 0; taken = 0; rising = 0; falling = 0 })
unfolding taken_of rising_of falling_of
kept_empty = record {
  size = refl;
  rows = omega arith;
  rest = refl;
  taken = refl;
  rising = refl;
  falling = refl;
  below = All-nil (λ column. column < 16);
  safe = safe_none;
}

-- with one more column the columns that are not used are still 0
rest_push : (columns : List ℕ) (r c : ℕ) → r < 16 → drop r columns ≡ replicate (16 - r) 0
    → drop (r + 1) (set columns r c) ≡ replicate (16 - (r + 1)) 0
rest_push columns r c room rest =
    let fewer : 16 - r - 1 ≡ 16 - (r + 1) = omega arith in
    let unused : drop (r + 1) columns ≡ replicate (16 - r - 1) 0 = sym (drop-drop 1 r columns)
    ∙ ap (drop 1) rest ∙ drop-replicate 1 (16 - r) 0 in
    drop-set-lt (r + 1) columns r c (omega arith) ∙ unused ∙ ap (λ k. replicate k 0) fewer

-- the mask of one column
queen_bit : (c : ℕ) → c < 16 → 1 * 2 ^ c % 4294967296 ≡ 2 ^ c
queen_bit c small = let low = pow_below c 16 small in omega arith

-- below 16 rows the shift to the left loses no bit
rising_doubled : (columns : List ℕ) (c : ℕ) → All (λ column. column < 16) columns
    → length columns < 16
    → c < 16 → bit_or (rising_of columns) (2 ^ c) * 2 % 4294967296
    ≡ bit_or (rising_of columns) (2 ^ c) * 2
rising_doubled columns c below room small =
    let bound = rising_below columns below in
    let half : 2 ^ (16 + length columns) ≤ 2 ^ 31 =
    pow_mono {i = 16 + length columns} {j = 31} (omega arith) in
    let low = pow_below c 16 small in
    let wide : bit_or (rising_of columns) (2 ^ c) < 2 ^ 31 =
    or_lt 31 (rising_of columns) (2 ^ c) (omega arith) (omega arith) in
    mod-eq_of_lt (omega arith)

-- the fields of a board with one queen more
pub kept_push : (b : Inside) (c : ℕ) → IsKept b → length (take b.rows b.columns) < 16 → c < 16
    → is_free (take b.rows b.columns) c ≡ true
    → IsKept (record {
      columns = set b.columns b.rows c;
      rows = b.rows + 1;
      taken = bit_or b.taken (1 * 2 ^ c % 4294967296);
      rising = bit_or b.rising (1 * 2 ^ c % 4294967296) * 2 % 4294967296;
      falling = bit_or b.falling (1 * 2 ^ c % 4294967296) / 2;
    })
kept_push b c kept room small free =
    let columns = take b.rows b.columns in
    let rows : length columns ≡ b.rows = length-take b.rows b.columns
    ∙ omega (arith, kept.size, kept.rows) in
    let more : take (b.rows + 1) (set b.columns b.rows c) ≡ columns
    ++ c ∷ [] = take_more_set b.columns b.rows c (omega (arith, kept.size, rows)) in
    let queen = queen_bit c small in
    record {
      size = length-set b.columns b.rows c ∙ kept.size;
      rows = omega (arith, rows);
      rest = rest_push b.columns b.rows c (omega (arith, rows)) kept.rest;
      taken = ap₂ bit_or kept.taken queen ∙ sym (taken_push columns c) ∙ ap taken_of (sym more);
      rising =
          ap₂ (λ u v. bit_or u v * 2 % 4294967296) kept.rising queen
          ∙ rising_doubled columns c kept.below room small
          ∙ sym (rising_push columns c)
          ∙ ap rising_of (sym more);
      falling = ap₂ (λ u v. bit_or u v / 2) kept.falling queen ∙ sym (falling_push columns c)
          ∙ ap falling_of (sym more);
      below = subst (All (λ column. column < 16)) (sym more)
          (All-push (λ column. column < 16) columns c kept.below small);
      safe = subst IsSafe (sym more) (safe_push columns c kept.safe free);
    }
