use Rattle.glb_inbox.proofs.LaneLemmas.{lanes_set}
use Rattle.glb_inbox.proofs.lanes.note_asked.Goals as goal

pub returns-clause-lanes : goal.returns-clause-lanes
returns-clause-lanes g c =
    lanes_set c.args.places c.args.lanes.now.items c.requires.lanes c.args.kind c.args.victim
    c.lane_index-i.result c.note_asked.new.lane
    c.requires.near.0 c.lane_index-i.ensures.at c.note_asked.ensures.lane
