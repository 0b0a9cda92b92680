use Rattle.std.proofs.Common.{arith}
use Rattle.glb_lanes.proofs.SharedWords.{shared_first}
use Rattle.glb_lanes.proofs.eight.hash_values.Goals as goal

pub returns-then-first-eq0 : goal.returns-then-first-eq0
returns-then-first-eq0 c j lt =
    c.compress_row.ensures j lt _
    (shared_first c.args.parent.now _ c.args.first j (omega arith) (omega arith) (omega arith) lt
    c.first_words.ensures)

pub returns-else-first-eq0 : goal.returns-else-first-eq0
returns-else-first-eq0 c j lt = c.compress.ensures j lt _ (c.blocks-else-first-eq0.ensures j lt)
