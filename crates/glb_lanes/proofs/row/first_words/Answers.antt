use Rattle.std.proofs.Common.{◌≡◌, ℕ, List, ◌++◌, length, sym, ◌∙◌, arith}
use Rattle.std.specs.Int.{w32, to_be_bytes}
use Rattle.sha1.specs.Sha1.{padding}
use Rattle.glb_lanes.proofs.DigestOfOneBlock.{below_sixteen, word_left, word_right, word_of_number}
use Rattle.glb_lanes.proofs.row.first_words.Goals as goal

pub returns : goal.returns
returns c =
    let p : List ℕ = c.args.parent.now in
    let q : List ℕ = to_be_bytes w32 c.args.number ++ padding 24 in
    let lp : length p ≡ 20 = omega arith in
    below_sixteen _
    (c.word.ensures ∙ sym (word_left p q 0 (omega arith)))
    (c.word-2.ensures ∙ sym (word_left p q 4 (omega arith)))
    (c.word-3.ensures ∙ sym (word_left p q 8 (omega arith)))
    (c.word-4.ensures ∙ sym (word_left p q 12 (omega arith)))
    (c.word-5.ensures ∙ sym (word_left p q 16 (omega arith)))
    (sym (word_right p q 20 lp (omega arith) ∙ word_of_number c.args.number (omega arith)))
    (sym (word_right p q 24 lp (omega arith)))
    (sym (word_right p q 28 lp (omega arith)))
    (sym (word_right p q 32 lp (omega arith)))
    (sym (word_right p q 36 lp (omega arith)))
    (sym (word_right p q 40 lp (omega arith)))
    (sym (word_right p q 44 lp (omega arith)))
    (sym (word_right p q 48 lp (omega arith)))
    (sym (word_right p q 52 lp (omega arith)))
    (sym (word_right p q 56 lp (omega arith)))
    (sym (word_right p q 60 lp (omega arith)))
