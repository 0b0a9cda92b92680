use Rattle.std.proofs.Common.{rules, ap}
use Rattle.glb_bound.proofs.Seating.{may_deal}
use Rattle.glb_bound.proofs.steps.deal.Goals as goal

pub split_seat-requires : goal.split_seat-requires
split_seat-requires c =
    let s = c.requires.some in (
      search rules,
      search rules,
      may_deal c.args.words.now.key _ c.args.dealer.now.me.0 s.0 s.1 (ap (λ m. m.0) s.2),
    )
