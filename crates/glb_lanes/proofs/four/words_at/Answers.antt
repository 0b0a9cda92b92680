use Rattle.glb_lanes.proofs.DigestOfOneBlock.{below_four}
use Rattle.glb_lanes.proofs.four.words_at.Goals as goal

pub returns : goal.returns
returns c =
    below_four _
    c.word-w0.ensures
    c.word-w1.ensures
    c.word-w2.ensures
    c.word-w3.ensures
