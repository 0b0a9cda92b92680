use Rattle.std.proofs.Common.{◌≡◌, ℕ, ◌+◌, slice_index, ap, ◌∙◌, arith}
use Rattle.sha1.specs.Sha1.{schedule}
use Rattle.glb_lanes.proofs.WordsAndRounds.{below_five}
use Rattle.glb_lanes.proofs.row.joined_five.Goals as goal

pub returns : goal.returns
returns c j lt b held =
    let t = c.args.t in
    let at : (n k : ℕ) → n ≡ t + k
    → slice_index (schedule b 64) n ≡ slice_index (schedule b 64) (t + k) =
    λ n k e. ap (slice_index (schedule b 64)) e in
    below_five _
    (c.joined-w0.ensures j lt ∙ held t (omega arith) ∙ at t 0 (omega arith))
    (c.joined-w1.ensures j lt ∙ held (t + 1) (omega arith))
    (c.joined-w2.ensures j lt ∙ held (t + 2) (omega arith))
    (c.joined-w3.ensures j lt ∙ held (t + 3) (omega arith))
    (c.joined-w4.ensures j lt ∙ held (t + 4) (omega arith))
