use Rattle.std.proofs.Common.{◌≡◌, ℕ, ◌+◌, ◌<◌, ◌≤◌, true, [], ◌∷◌, ◌++◌, length, map, vec_len}
use Rattle.std.specs.Prelude.{vec_capacity}
use Rattle.std.specs.Int.{bit_at}
use Rattle.glb_queens.specs.Boards.{is_free}
use Rattle.glb_queens.specs.inner.Masks.{columns_in}
use Rattle.glb_queens.proofs.queens.push_boards.Given as goal

abbrev pub invariant-columns : goal.invariant-columns
invariant-columns l = record {
  free : (column : ℕ) → bit_at l.left column ≡ 1 → (column < 16) × (is_free l.board column ≡ true);
  pushed : l.out.items ++ map (λ column. l.board ++ column ∷ []) (columns_in l.left)
      ≡ l.fn.out.items
      ++ map (λ column. l.board ++ column ∷ []) (columns_in l.free);
  room : vec_len l.out + length (columns_in l.left) ≤ vec_capacity l.out;
}

abbrev pub decreases-columns : goal.decreases-columns
decreases-columns l = length (columns_in l.left)
