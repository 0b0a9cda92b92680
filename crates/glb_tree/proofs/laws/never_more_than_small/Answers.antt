use Rattle.glb_tree.proofs.Sizes.{never_more}
use Rattle.glb_tree.proofs.laws.never_more_than_small.Goals as goal

pub returns : goal.returns
returns g c = never_more (g.P.Program.children c.args.program.now)
