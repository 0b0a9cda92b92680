use Rattle.glb_rules.specs.declared.kinds.Kind.TheVariants as kinds
use Rattle.glb_inbox.proofs.LaneLemmas.{lane_is, lanes_set}
use Rattle.glb_inbox.proofs.lanes.take_refusal.Goals as goal

pub returns-clause-lanes : goal.returns-clause-lanes
returns-clause-lanes g c =
    lanes_set c.args.places c.args.lanes.now.items c.requires.lanes kinds.Steal c.args.victim
    c.lane_index-i.result c.take_refusal.new.lane
    c.requires.near.0 c.lane_index-i.ensures.at c.take_refusal.ensures.lane

pub take_refusal-requires-clause-lane : goal.take_refusal-requires-clause-lane
take_refusal-requires-clause-lane g c =
    lane_is c.args.places c.args.lanes.now.items c.requires.lanes kinds.Steal c.args.victim
    c.lane_index-i.result c.index_mut.result.now
    c.requires.near.0 c.lane_index-i.ensures.at c.index_mut.ensures.value
