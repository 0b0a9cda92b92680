use Rattle.std.proofs.Common.{rules, ap, ◌∙◌, []}
use Rattle.glb_inbox.specs.inner.Views.{first_of, rest_of}
use Rattle.glb_inbox.specs.inner.Begins.{job_of}
use Rattle.glb_inbox.proofs.Opening.{may_deal}
use Rattle.glb_inbox.proofs.office.deal.Goals as goal

pub split_seat-requires : goal.split_seat-requires
split_seat-requires g c = (
  search rules,
  search rules,
  may_deal (job_of g.P.Program.children g.B.Bag.items c.args.words.now.key) _ _,
)

pub returns-clause-dealt : goal.returns-clause-dealt
returns-clause-dealt g c =
    let e = c.split_seat.ensures in
    let s = c.requires.some in (
      s.0,
      s.1,
      s.2,
      e.2 ∙ ap (λ v. (rest_of v, c.args.dealer.now.me.1)) s.2,
      e.4 ∙ ap (λ v. (first_of v, [])) s.2,
    )
