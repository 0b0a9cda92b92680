use Rattle.std.proofs.Common.{rules}
use Rattle.glb_cells.specs.Starts.{setup_from}
use Rattle.glb_cells.proofs.StepLemmas.Calls.{may_mint}
use Rattle.glb_cells.proofs.steps.mint.Goals as goal

pub fetch_add-requires : goal.fetch_add-requires
fetch_add-requires g c = (
  search rules,
  search rules,
  may_mint
      (setup_from g.B.Bag.items g.B.Bag.fits g.P.Program.children c.args.cells.now.key) _ _ _
      c.requires.ready,
)
