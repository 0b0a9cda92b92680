use Rattle.std.proofs.Common.{arith}
use Rattle.glb_rules.proofs.laws.requests_are_few.Goals as goal

pub returns-clause-asks : goal.returns-clause-asks
returns-clause-asks g c = λ s w p L l. let a = (L.inner p l).asks in omega arith

pub returns-clause-line_asks : goal.returns-clause-line_asks
returns-clause-line_asks g c = λ s w p L l. let a = (L.counted p l).line_asks in omega arith
