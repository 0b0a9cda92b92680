use Rattle.glb_inbox.proofs.LaneLemmas.{lanes_set}
use Rattle.std.proofs.Common.{◌<◌, length, sym, ◌∙◌, arith}
use Rattle.glb_rules.specs.declared.kinds.Side.TheVariants as side
use Rattle.glb_inbox.specs.Keeping.{told_by}
use Rattle.glb_inbox.proofs.Hearing.{lanes_known, views_kept, views_look}
use Rattle.glb_inbox.proofs.lanes.learn_answer.Goals as goal

pub returns-clause-lanes : goal.returns-clause-lanes
returns-clause-lanes g c =
    lanes_set c.args.places c.args.lanes.now.items c.requires.lanes c.args.kind c.args.victim
    c.lane_index-i.result c.learn_answer.new.lane
    c.requires.near.0 c.lane_index-i.ensures.at c.learn_answer.ensures.lane

pub returns-clause-looked : goal.returns-clause-looked
returns-clause-looked g c =
    let lanes = c.args.lanes.now.items in
    let l : c.lane_index-i.result < length lanes =
    (let a = c.lane_index-i.ensures.within in let b = c.requires.lanes.wide in omega arith) in
    views_look c.args.places lanes c.args.kind c.args.victim c.lane_index-i.result
    c.learn_answer.new.lane c.index_mut.result.now side.Outward l c.lane_index-i.ensures.at
    c.index_mut.ensures.value c.learn_answer.ensures.looked

pub returns-clause-answers : goal.returns-clause-answers
returns-clause-answers g c =
    let lanes = c.args.lanes.now.items in
    let n = c.args.places in
    let k = c.args.kind in
    let v = c.args.victim in
    let was = c.index_mut.result.now in
    let l : c.lane_index-i.result < length lanes =
    (let a = c.lane_index-i.ensures.within in let b = c.requires.lanes.wide in omega arith) in
    c.learn_answer.ensures.answers
    ∙ (λ i. told_by (sym (lanes_known n lanes k v c.lane_index-i.result was side.Outward l
    c.lane_index-i.ensures.at c.index_mut.ensures.value) i)
    (sym (views_kept n lanes k v c.lane_index-i.result was side.Outward l
    c.lane_index-i.ensures.at c.index_mut.ensures.value) i))
