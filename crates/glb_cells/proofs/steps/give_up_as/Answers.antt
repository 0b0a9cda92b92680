use Rattle.std.proofs.Common.{rules}
use Rattle.glb_cells.specs.Starts.{setup_from}
use Rattle.glb_cells.proofs.StepLemmas.Calls.{may_give_up}
use Rattle.glb_cells.proofs.steps.give_up_as.Goals as goal

pub swap-requires : goal.swap-requires
swap-requires g c = (
  search rules,
  search rules,
  may_give_up
      (setup_from g.B.Bag.items g.B.Bag.fits g.P.Program.children c.args.cells.now.key) _ _ _ _
      c.requires.name c.requires.steal _ c.requires.ready,
)
