use Rattle.std.proofs.Common.{rules}
use Rattle.glb_cells.specs.Starts.{setup_from}
use Rattle.glb_cells.proofs.StepLemmas.Calls.{may_look_out}
use Rattle.glb_cells.proofs.steps.look_out_as.Goals as goal

pub load-requires : goal.load-requires
load-requires g c = (
  search rules,
  search rules,
  may_look_out
      (setup_from g.B.Bag.items g.B.Bag.fits g.P.Program.children c.args.cells.now.key) _ _ _ _
      c.requires.name _ c.requires.ready,
)
