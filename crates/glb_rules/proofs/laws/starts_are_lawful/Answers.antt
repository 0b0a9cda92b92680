use Rattle.glb_rules.proofs.Invariant.Start.{start_lawful}
use Rattle.glb_rules.proofs.Expansion.Kept.{start_expands}
use Rattle.glb_rules.proofs.laws.starts_are_lawful.Goals as goal

pub returns : goal.returns
returns g c = λ children s bags A. (start_lawful s bags A, start_expands children s bags)
