use Rattle.std.proofs.Common.{rules, ◌∙◌, ap}
use Rattle.glb_queens.specs.inner.Masks.{taken_of, rising_of, falling_of}
use Rattle.glb_queens.proofs.MaskBits.{free_mask}
use Rattle.glb_queens.proofs.board.Board.free_columns.Goals as goal

pub returns : goal.returns
returns c =
    free_mask c.args.self.now c.args.n
    c.self.inside.taken c.self.inside.rising c.self.inside.falling
    c.requires
    (c.self.invariant.taken ∙ ap taken_of c.self.view_is)
    (c.self.invariant.rising ∙ ap rising_of c.self.view_is)
    (c.self.invariant.falling ∙ ap falling_of c.self.view_is)
    (search rules) (search rules) (search rules)
