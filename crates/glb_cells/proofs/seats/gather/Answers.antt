use Rattle.glb_cells.specs.Starts.{setup_from}
use Rattle.glb_cells.proofs.StepLemmas.Dealing.{gathers}
use Rattle.glb_cells.proofs.seats.gather.Goals as goal

pub join_seat-requires : goal.join_seat-requires
join_seat-requires g c = let t = c.requires.table in (
  t.0,
  t.1,
  t.3,
  t.2,
  gathers (setup_from g.B.Bag.items g.B.Bag.fits g.P.Program.children
      c.args.cells.now.key) _ _ _ _,
)
