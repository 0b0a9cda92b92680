use Rattle.std.proofs.Common.{arith}
use Rattle.glb_lanes.proofs.SharedWords.{shared_at}
use Rattle.glb_lanes.proofs.row.lay_five.Goals as goal

pub returns : goal.returns
returns c j lt b held =
    let s1 = c.lay_next.ensures j lt b held in
    let s2 = c.lay_next-2.ensures j lt b (shared_at b _ j _ _ (omega arith) s1) in
    let s3 = c.lay_next-3.ensures j lt b (shared_at b _ j _ _ (omega arith) s2) in
    let s4 = c.lay_next-4.ensures j lt b (shared_at b _ j _ _ (omega arith) s3) in
    let s5 = c.lay_next-5.ensures j lt b (shared_at b _ j _ _ (omega arith) s4) in
    shared_at b _ j _ _ (omega arith) s5
