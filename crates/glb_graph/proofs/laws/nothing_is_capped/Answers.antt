use Rattle.glb_graph.proofs.AnswerFacts.{vertex_value_is, reached-most, sum-most, greatest-most}
use Rattle.glb_graph.proofs.laws.nothing_is_capped.Goals as goal

pub returns-clause-value : goal.returns-clause-value
returns-clause-value c = λ rows s G l. vertex_value_is rows G s l

pub returns-clause-reached : goal.returns-clause-reached
returns-clause-reached c = λ rows s G. reached-most rows G s

pub returns-clause-sum : goal.returns-clause-sum
returns-clause-sum c = λ rows s G. sum-most rows G s

pub returns-clause-greatest : goal.returns-clause-greatest
returns-clause-greatest c = λ rows s G. greatest-most rows G s
