use Rattle.glb_lanes.proofs.row.lay_four.Goals as goal

pub returns : goal.returns
returns c j lt b held =
    c.lay_next-4.ensures j lt b
    (c.lay_next-3.ensures j lt b (c.lay_next-2.ensures j lt b (c.lay_next.ensures j lt b held)))
