use Rattle.glb_queens.proofs.KeptFields.{kept_empty}
use Rattle.glb_queens.proofs.board.Board.empty.Goals as goal

pub invariant_of-result : goal.invariant_of-result
invariant_of-result c = kept_empty
