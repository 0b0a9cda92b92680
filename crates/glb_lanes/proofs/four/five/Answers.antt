use Rattle.std.proofs.Common.{◌≡◌, ℕ, ◌+◌, ◌<◌, List, [], slice_index, slice_index_or, sym, ap, ◌∙◌, arith}
use Rattle.std.proofs.Math.ListN.{get_or-map}
use Rattle.sha1.specs.Sha1.{schedule}
use Rattle.glb_lanes.proofs.WordsAndRounds.{below_five}
use Rattle.glb_lanes.proofs.four.five.Goals as goal

pub returns : goal.returns
returns c j lt b laid =
    let at = λ (v : List ℕ). slice_index v j in
    let all = c.args.words.now in
    let t = c.args.t in
    let word : (n k : ℕ) → n ≡ t + k → k < 5
    → slice_index (slice_index_or all n []) j ≡ slice_index (schedule b 64) (t + k) =
    λ n k e k_lt. sym (get_or-map at all n []) ∙ laid n (omega arith)
    ∙ ap (slice_index (schedule b 64)) e in
    below_five _ (word t 0 (omega arith) (omega arith)) (word (t + 1) 1 (omega arith) (omega arith))
    (word (t + 2) 2 (omega arith) (omega arith)) (word (t + 3) 3 (omega arith) (omega arith))
    (word (t + 4) 4 (omega arith) (omega arith))
