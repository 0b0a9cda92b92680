use Rattle.std.proofs.Common.{rules}
use Rattle.glb_cells.specs.Starts.{setup_from}
use Rattle.glb_cells.proofs.StepLemmas.Calls.{may_deny}
use Rattle.glb_cells.proofs.steps.deny_as.Goals as goal

pub swap-requires : goal.swap-requires
swap-requires g c = (
  search rules,
  search rules,
  may_deny
      (setup_from g.B.Bag.items g.B.Bag.fits g.P.Program.children c.args.cells.now.key) _ _ _ _
      c.requires.name _ c.requires.ready,
)
