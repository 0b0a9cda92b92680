use Rattle.glb_rules.specs.declared.kinds.Edge.TheVariants as seen
use Rattle.glb_inbox.specs.inner.Members.{wanted}
use Rattle.glb_inbox.specs.Keeping.{lane_at}
use Rattle.glb_inbox.specs.inner.Lanes.{SetsInward}
use Rattle.std.proofs.Common.{arith, ◌≡◌, ◌<◌, ◌∙◌, length, set, subst}
use Rattle.glb_inbox.proofs.LaneLemmas.{lanes_set, knows_as_before, sets_inward, if_some}
use Rattle.glb_inbox.proofs.LaneLemmas.{lane_field}
use Rattle.glb_rules.specs.declared.kinds.Side.TheVariants as side
use Rattle.glb_inbox.proofs.Hearing.{views_kept, views_look}
use Rattle.glb_inbox.proofs.lanes.take_request.Goals as goal

pub returns-clause-lanes : goal.returns-clause-lanes
returns-clause-lanes g c =
    lanes_set c.args.places c.args.lanes.now.items c.requires.lanes c.args.kind c.args.thief
    c.lane_index-i.result c.take_request.new.lane
    c.requires.near.0 c.lane_index-i.ensures.at c.take_request.ensures.lane

pub returns-clause-none : goal.returns-clause-none
returns-clause-none g c = λ none.
    knows_as_before c.args.lanes.now.items c.lane_index-i.result c.take_request.new.lane
    c.index_mut.result.now (let a = c.lane_index-i.ensures.within in let b =
    c.requires.lanes.wide in omega arith)
    c.index_mut.ensures.value (c.take_request.ensures.none none) c.take_request.ensures.outward

pub returns-clause-found : goal.returns-clause-found
returns-clause-found g c =
    let lanes = c.args.lanes.now.items in
    let at = c.lane_index-i.result in
    let l : at < length lanes =
    (let a = c.lane_index-i.ensures.within in let b = c.requires.lanes.wide in omega arith) in
    if_some _ _ (λ s h. (
      h.0,
      λ d. subst (λ x. wanted c.args.kind x ≡ 0)
          (lane_field (λ y. y.inward) lanes at (lane_at c.args.places c.args.kind c.args.thief)
          c.index_mut.result.now d l c.lane_index-i.ensures.at c.index_mut.ensures.value) h.1,
      subst (λ i. SetsInward i seen.Asked lanes (set lanes at c.take_request.new.lane))
          c.lane_index-i.ensures.at
          (sets_inward lanes at c.take_request.new.lane c.index_mut.result.now seen.Asked l
          c.index_mut.ensures.value h.2 c.take_request.ensures.outward),
    )) c.take_request.result c.take_request.ensures.found

pub returns-clause-looked : goal.returns-clause-looked
returns-clause-looked g c =
    let lanes = c.args.lanes.now.items in
    let l : c.lane_index-i.result < length lanes =
    (let a = c.lane_index-i.ensures.within in let b = c.requires.lanes.wide in omega arith) in
    views_look c.args.places lanes c.args.kind c.args.thief c.lane_index-i.result
    c.take_request.new.lane c.index_mut.result.now side.Inward l c.lane_index-i.ensures.at
    c.index_mut.ensures.value c.take_request.ensures.looked

pub returns-clause-kept : goal.returns-clause-kept
returns-clause-kept g c =
    let lanes = c.args.lanes.now.items in
    let l : c.lane_index-i.result < length lanes =
    (let a = c.lane_index-i.ensures.within in let b = c.requires.lanes.wide in omega arith) in
    views_kept c.args.places lanes c.args.kind c.args.thief c.lane_index-i.result
    c.index_mut.result.now side.Inward l c.lane_index-i.ensures.at c.index_mut.ensures.value
    ∙ c.take_request.ensures.kept
