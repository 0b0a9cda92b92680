use Rattle.glb_graph.proofs.AnswerFacts.{answer_is}
use Rattle.glb_graph.proofs.laws.answer_of_the_root.Goals as goal

pub returns : goal.returns
returns c = λ rows most G l. answer_is rows G most l
