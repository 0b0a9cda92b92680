use Rattle.glb_core.proofs.Sights.Alike.{sights_agree, states_agree}
use Rattle.glb_core.proofs.laws.worlds_of_one_view_look_alike.Goals as goal

pub returns : goal.returns
returns g c = λ x s t w v p S T l.
    (states_agree g.B.Bag.items x s t w v S T p l, sights_agree g.B.Bag.items x s t w v S T p l)
