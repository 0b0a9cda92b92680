use Rattle.std.proofs.Common.{◌≡◌, ◌+◌, ◌++◌, ◌∷◌, [], get_or, map, sym, ap, ◌∙◌, append_assoc}
use Rattle.std.proofs.Common.{arith}
use Rattle.std.specs.List.{range_with_len}
use Rattle.std.proofs.lemmas.List.FromFn.{map-range_with_len_more}
use Rattle.glb_rules.specs.Setups.{has_items}
use Rattle.glb_inbox.specs.inner.Firsts.{first_lane}
use Rattle.glb_inbox.proofs.first.add_lanes.Goals as goal

pub loop-other-preserved : goal.loop-other-preserved
loop-other-preserved g c =
    let f = first_lane c.args.lines.now
    (λ p. has_items (get_or (map g.B.Bag.items c.args.bags.now) p [])) c.args.place
    c.args.kind in
    let o = c.loop-other.other in
    let start = c.args.lanes.now.items in
    let e : 0 + o ≡ o = omega arith in
    c.in_ok-push.ensures.items ∙ (λ i. c.loop-other.invariant i ++ c.first_lane.ensures i ∷ [])
    ∙ append_assoc start (map f (range_with_len 0 o)) (f o ∷ [])
    ∙ ap (λ l. start ++ l) (sym (map-range_with_len_more f 0 o o e))
