use Rattle.glb_place.proofs.LastWorlds.{world_closes}
use Rattle.glb_place.proofs.laws.last_worlds_close.Goals as goal

pub returns : goal.returns
returns g c = λ children roots lines params awake w rs limit L A few some tries small cause codes.
    world_closes children roots lines params awake w rs L A limit few some tries small cause codes
