use Rattle.std.proofs.Common.{◌≡◌, ◌<◌, ◌≤◌, ◌++◌, ℕ, length, ◌==◌, ◌&&◌, nat_lt, ap, sym, subst, ◌∙◌, arith, append-nil}
use Rattle.std.specs.Int.{bit_at}
use Rattle.glb_queens.specs.Boards.{is_free}
use Rattle.glb_queens.proofs.EachBoardOnce.{below_none, below_mask}
use Rattle.glb_queens.proofs.queens.QueensProgram.expand.Goals as goal

pub returns-then-rows-self-clause-appended : goal.returns-then-rows-self-clause-appended
returns-then-rows-self-clause-appended c =
    let lt : length c.args.board.now < c.args.self.now = omega arith in
    let le : c.args.self.now ≤ 16 = omega arith in
    let says = subst (λ n. (k : ℕ)
    → (bit_at c.free_columns.result k == 1) ≡ (nat_lt k n && is_free c.args.board.now k))
    c.self.view_is c.free_columns.ensures in
    c.in_ok-push_boards.ensures.appended
    ∙ ap (λ l. c.args.out.now.items ++ l)
    (sym (below_mask c.args.self.now c.args.board.now c.free_columns.result lt le says))

pub returns-clause-appended : goal.returns-clause-appended
returns-clause-appended c =
    let ge : c.args.self.now ≤ length c.args.board.now = omega arith in
    sym (append-nil c.args.out.now.items)
    ∙ ap (λ l. c.args.out.now.items ++ l) (sym (below_none c.args.self.now c.args.board.now ge))
