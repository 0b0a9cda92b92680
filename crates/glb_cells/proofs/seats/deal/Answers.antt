use Rattle.std.proofs.Common.{rules, ap, ◌∙◌, []}
use Rattle.glb_cells.specs.Plays.{first_of, rest_of}
use Rattle.glb_cells.specs.Starts.{setup_from}
use Rattle.glb_cells.proofs.StepLemmas.Dealing.{deals_as}
use Rattle.glb_cells.proofs.seats.deal.Goals as goal

pub split_seat-requires : goal.split_seat-requires
split_seat-requires g c = (
  search rules,
  search rules,
  deals_as
      (setup_from g.B.Bag.items g.B.Bag.fits g.P.Program.children c.args.cells.now.key) _ _
      c.requires.some,
)

pub returns-clause-dealt : goal.returns-clause-dealt
returns-clause-dealt g c =
    let e = c.split_seat.ensures in
    let s = c.requires.some in (
      s.0,
      s.1,
      s.2,
      e.2 ∙ ap (λ v. (rest_of v, c.args.dealer.now.me.1)) s.2,
      e.4
          ∙ ap (λ v. (first_of v, [])) s.2,
    )
