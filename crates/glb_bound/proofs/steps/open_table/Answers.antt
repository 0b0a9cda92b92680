use Rattle.glb_bound.proofs.Seating.{opens}
use Rattle.glb_bound.proofs.steps.open_table.Goals as goal

pub of_words-requires : goal.of_words-requires
of_words-requires c = opens c.args.start c.requires
