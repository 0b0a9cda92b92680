use Rattle.glb_lanes.proofs.DigestOfOneBlock.{below_eight}
use Rattle.glb_lanes.proofs.eight.words_at.Goals as goal

pub returns : goal.returns
returns c =
    below_eight _
    c.word-w0.ensures
    c.word-w1.ensures
    c.word-w2.ensures
    c.word-w3.ensures
    c.word-w4.ensures
    c.word-w5.ensures
    c.word-w6.ensures
    c.word-w7.ensures
