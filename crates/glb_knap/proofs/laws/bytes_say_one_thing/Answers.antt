use Rattle.glb_knap.proofs.TextFacts.{some_reading, one_reading}
use Rattle.glb_knap.proofs.laws.bytes_say_one_thing.Goals as goal

pub returns-clause-some : goal.returns-clause-some
returns-clause-some c = some_reading

pub returns-clause-one : goal.returns-clause-one
returns-clause-one c = one_reading
