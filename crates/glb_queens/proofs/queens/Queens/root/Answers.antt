use Rattle.std.proofs.Common.{◌≡◌, ◌<◌, ◌∷◌, [], length, sym, subst, arith, ◌^◌}
use Rattle.glb_laws.specs.Tree.{IsSmall, nodes, answer}
use Rattle.glb_laws.specs.Bounded.{sat_sum, capped_sum}
use Rattle.glb_queens.specs.Boards.{IsEachBoardOnce, arrangements, boards_below, count_full, value_of}
use Rattle.glb_queens.proofs.EachBoardOnce.{each_board_once, boards_small, few_boards}
use Rattle.glb_queens.proofs.CountedBoards.{full_boards, arrangements_lt}
use Rattle.glb_queens.proofs.queens.Queens.root.Goals as goal

pub returns-clause-nodes : goal.returns-clause-nodes
returns-clause-nodes c = λ most enough.
    subst (λ r. IsEachBoardOnce c.args.self.now
    (nodes (boards_below c.args.self.now) (r ∷ []) most))
    (sym c.empty.ensures) (each_board_once c.args.self.now most enough)

pub returns-clause-small : goal.returns-clause-small
returns-clause-small c =
    subst (λ r. IsSmall (boards_below c.args.self.now) (r ∷ []) (arrangements c.args.self.now))
    (sym c.empty.ensures) (boards_small c.args.self.now)

pub returns-clause-bound : goal.returns-clause-bound
returns-clause-bound c = arrangements_lt c.args.self.now (omega arith)

pub returns-clause-answer : goal.returns-clause-answer
returns-clause-answer c = λ most.
    let n = c.args.self.now in
    let few : length (nodes (boards_below n) ([] ∷ []) most) < 2 ^ 46 =
    omega (arith, few_boards n most, arrangements_lt n (omega arith)) in
    subst (λ r. answer (boards_below n) (value_of n) (sat_sum 0)
    (λ a b. sat_sum (capped_sum a.0 b.0))
    (r ∷ []) most ≡ sat_sum (count_full n (nodes (boards_below n) (r ∷ []) most)))
    (sym c.empty.ensures) (full_boards n (nodes (boards_below n) ([] ∷ []) most) few)
