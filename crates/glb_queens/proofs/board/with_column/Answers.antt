use Rattle.std.proofs.Common.{◌≡◌, length, rules}
use Rattle.glb_queens.proofs.ReplacedLane.{lane_replaced}
use Rattle.glb_queens.proofs.board.with_column.Goals as goal

pub returns : goal.returns
returns c =
    let size : length c.args.columns ≡ 16 = search rules in
    lane_replaced c.args.row c.args.column c.args.columns size
