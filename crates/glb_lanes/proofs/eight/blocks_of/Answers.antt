use Rattle.std.proofs.Common.{◌≡◌, ℕ, List, [], ◌^◌, ◌<◌, ◌++◌, length, slice_index, slice_index_or, sym, ◌∙◌, arith}
use Rattle.std.specs.Int.{w32, to_be_bytes}
use Rattle.sha1.specs.Sha1.{padding}
use Rattle.glb_lanes.proofs.LanewiseOperators.{in_lane_of-splat}
use Rattle.glb_lanes.proofs.DigestOfOneBlock.{below_sixteen, word_left, word_right, word_of_number}
use Rattle.glb_lanes.proofs.eight.blocks_of.Goals as goal

pub returns : goal.returns
returns c j lt =
    let p : List ℕ = slice_index_or c.args.parents.now j [] in
    let number : ℕ = slice_index c.args.numbers.now j in
    let q : List ℕ = to_be_bytes w32 number ++ padding 24 in
    let lp : length p ≡ 20 = c.known.ensures j lt in
    let small : number < 2 ^ 32 = c.fits-numbers j in
    below_sixteen _
    (c.words_at-w0.ensures j lt ∙ sym (word_left p q 0 (omega arith)))
    (c.words_at-w1.ensures j lt ∙ sym (word_left p q 4 (omega arith)))
    (c.words_at-w2.ensures j lt ∙ sym (word_left p q 8 (omega arith)))
    (c.words_at-w3.ensures j lt ∙ sym (word_left p q 12 (omega arith)))
    (c.words_at-w4.ensures j lt ∙ sym (word_left p q 16 (omega arith)))
    (sym (word_right p q 20 lp (omega arith) ∙ word_of_number number small))
    (in_lane_of-splat 8 _ j lt ∙ sym (word_right p q 24 lp (omega arith)))
    (in_lane_of-splat 8 _ j lt ∙ sym (word_right p q 28 lp (omega arith)))
    (in_lane_of-splat 8 _ j lt ∙ sym (word_right p q 32 lp (omega arith)))
    (in_lane_of-splat 8 _ j lt ∙ sym (word_right p q 36 lp (omega arith)))
    (in_lane_of-splat 8 _ j lt ∙ sym (word_right p q 40 lp (omega arith)))
    (in_lane_of-splat 8 _ j lt ∙ sym (word_right p q 44 lp (omega arith)))
    (in_lane_of-splat 8 _ j lt ∙ sym (word_right p q 48 lp (omega arith)))
    (in_lane_of-splat 8 _ j lt ∙ sym (word_right p q 52 lp (omega arith)))
    (in_lane_of-splat 8 _ j lt ∙ sym (word_right p q 56 lp (omega arith)))
    (in_lane_of-splat 8 _ j lt ∙ sym (word_right p q 60 lp (omega arith)))
