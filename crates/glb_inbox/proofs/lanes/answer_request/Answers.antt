use Rattle.glb_inbox.proofs.LaneLemmas.{lanes_set}
use Rattle.glb_inbox.proofs.lanes.answer_request.Goals as goal

pub returns-clause-lanes : goal.returns-clause-lanes
returns-clause-lanes g c =
    lanes_set c.args.places c.args.lanes.now.items c.requires.lanes c.args.kind c.args.thief
    c.lane_index-i.result c.answer_request.new.lane
    c.requires.near.0 c.lane_index-i.ensures.at c.answer_request.ensures.lane
