use Rattle.std.proofs.Common.{arith}
use Rattle.glb_lanes.proofs.SharedWords.{shared_more}
use Rattle.glb_lanes.proofs.row.lay_next.Goals as goal

pub returns : goal.returns
returns c j lt b held =
    rw c.rotate_left.ensures
    (shared_more b c.args.words.now c.args.t j (omega arith) c.fits-words (omega arith) lt held)
