use Rattle.std.proofs.Common.{◌≡◌, ◌+◌, ◌*◌, ◌/◌, ◌%◌, ◌^◌, ◌<◌, true, length, sym, subst, bit_or}
use Rattle.glb_queens.specs.Boards.{is_free}
use Rattle.glb_queens.specs.inner.Masks.{IsKept}
use Rattle.glb_queens.proofs.KeptFields.{kept_push}
use Rattle.glb_queens.proofs.board.Board.with_queen.Goals as goal

pub invariant_of-result : goal.invariant_of-result
invariant_of-result c =
    let b = c.self.inside in
    let queen = 1 * 2 ^ c.args.column % 4294967296 in
    subst (λ l. IsKept (record {
      columns = l;
      rows = b.rows + 1;
      taken = bit_or b.taken queen;
      rising =
          bit_or b.rising queen * 2 % 4294967296;
      falling = bit_or b.falling queen / 2;
    }))
    (sym c.with_column.ensures)
    (kept_push b c.args.column c.self.invariant
    (subst (λ l. length l < 16) (sym c.self.view_is) c.requires.rows)
    c.requires.column
    (subst (λ l. is_free l c.args.column ≡ true) (sym c.self.view_is) c.requires.free))
