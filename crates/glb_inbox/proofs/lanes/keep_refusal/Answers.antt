use Rattle.glb_rules.specs.declared.kinds.Kind.TheVariants as kinds
use Rattle.std.proofs.Common.{arith}
use Rattle.glb_inbox.proofs.LaneLemmas.{lane_is, lanes_set, knows_as_before}
use Rattle.glb_rules.specs.declared.kinds.Edge.TheVariants as seen
use Rattle.glb_rules.specs.declared.kinds.Side.TheVariants as side
use Rattle.glb_inbox.proofs.Hearing.{receives_one}
use Rattle.glb_inbox.proofs.lanes.keep_refusal.Goals as goal

pub returns-clause-lanes : goal.returns-clause-lanes
returns-clause-lanes g c =
    lanes_set c.args.places c.args.lanes.now.items c.requires.lanes kinds.Steal c.args.victim
    c.lane_index-i.result c.keep_refusal.new.lane
    c.requires.near.0 c.lane_index-i.ensures.at c.keep_refusal.ensures.lane

pub keep_refusal-requires-clause-lane : goal.keep_refusal-requires-clause-lane
keep_refusal-requires-clause-lane g c =
    lane_is c.args.places c.args.lanes.now.items c.requires.lanes kinds.Steal c.args.victim
    c.lane_index-i.result c.index_mut.result.now
    c.requires.near.0 c.lane_index-i.ensures.at c.index_mut.ensures.value

pub returns-clause-known : goal.returns-clause-known
returns-clause-known g c =
    let k = c.keep_refusal.ensures.known in
    knows_as_before c.args.lanes.now.items c.lane_index-i.result c.keep_refusal.new.lane
    c.index_mut.result.now (let a = c.lane_index-i.ensures.within in let b =
    c.requires.lanes.wide in omega arith)
    c.index_mut.ensures.value k.inward k.outward

pub returns-clause-receives : goal.returns-clause-receives
returns-clause-receives g c =
    receives_one c.args.places c.args.lanes.now.items kinds.Steal c.args.victim
    c.lane_index-i.result
    c.keep_refusal.new.lane c.index_mut.result.now side.Outward seen.Refused c.requires.near.0
    c.requires.lanes.wide c.lane_index-i.ensures.at c.index_mut.ensures.value tt
    c.keep_refusal.ensures.hears
