use Rattle.std.proofs.Common.{◌<◌, ap, ◌∙◌, length, cond, arith}
use Rattle.glb_rules.specs.Setups.{has_items}
use Rattle.glb_cells.proofs.StartLemmas.Rows.{words_next, row_words}
use Rattle.glb_cells.proofs.numbers.first_words.Goals as goal

pub loop-thief-preserved : goal.loop-thief-preserved
loop-thief-preserved g c =
    let p = c.places-places.ensures.places in
    let l : c.loop-thief.thief < length c.args.bags.now = (let q = c.requires in omega arith) in
    let w = c.first_word-word.ensures in
    words_next c.args.live _ c.loop-thief.thief _ _ _ _ c.loop-thief.invariant
    c.in_ok-push_row.ensures (row_words g.B.Bag.items c.args.bags.now c.loop-thief.thief
    c.index-bags-thief.result _ _ _ l c.out.ensures.targets (w
    ∙ ap (λ b. cond (has_items (g.B.Bag.items b)) 0 2) c.index-bags-thief.is))
