use Rattle.glb_inbox.proofs.LaneLemmas.{lanes_set}
use Rattle.glb_inbox.proofs.lanes.take_part.Goals as goal

pub returns-clause-lanes : goal.returns-clause-lanes
returns-clause-lanes g c =
    lanes_set c.args.places c.args.lanes.now.items c.requires.lanes c.args.kind c.args.victim
    c.lane_index-i.result c.take_part.new.lane
    c.requires.near.0 c.lane_index-i.ensures.at c.take_part.ensures.lane
