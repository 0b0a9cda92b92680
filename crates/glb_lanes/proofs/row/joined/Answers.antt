use Rattle.std.proofs.Common.{ℕ, List, [], replicate, slice_index, slice_index_or, bit_xor, ap, ◌∙◌, arith}
use Rattle.std.proofs.lemmas.List.{length-replicate}
use Rattle.glb_lanes.specs.declared.row.TheConstants.{ADDED}
use Rattle.glb_lanes.specs.inner.Rows.{added}
use Rattle.glb_lanes.proofs.LanewiseOperators.{in_lane_of-splat, in_lane_of-zip2}
use Rattle.glb_lanes.proofs.SharedWords.{added_long}
use Rattle.glb_lanes.proofs.row.joined.Goals as goal

pub returns : goal.returns
returns c j lt =
    let t = c.args.t in
    let word : ℕ = slice_index c.args.words.now t in
    let all : List ℕ = replicate 8 word in
    in_lane_of-zip2 8 bit_xor all (slice_index_or ADDED t []) j (length-replicate 8 word)
    (added_long t (omega arith)) lt
    ∙ ap (λ x. bit_xor x (added t j)) (in_lane_of-splat 8 word j lt)
