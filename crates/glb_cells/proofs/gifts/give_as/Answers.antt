use Rattle.std.proofs.Common.{rules}
use Rattle.glb_cells.specs.Starts.{setup_from}
use Rattle.glb_cells.proofs.StepLemmas.Calls.{may_hand}
use Rattle.glb_cells.proofs.StepLemmas.Told.{under_way, gave}
use Rattle.glb_cells.proofs.gifts.give_as.Goals as goal

pub swap-requires : goal.swap-requires
swap-requires g c =
    let m = c.begin_as.ensures.moved in
    let may = c.requires.ready in
    let Γ = (setup_from g.B.Bag.items g.B.Bag.fits g.P.Program.children c.args.cells.now.key) in (
      search rules,
      search rules,
      may_hand Γ _ _ _ _ c.requires.name _ c.args.part _ _
          (under_way Γ g.J.Named.name _ m.0 c.args.part _ _ _ (may.0, may.1, may.2.0)
          c.requires.fits m.1 c.exchange.ensures.3),
    )

pub returns-clause-moved : goal.returns-clause-moved
returns-clause-moved g c =
    let m = c.begin_as.ensures.moved in
    let may = c.requires.ready in
    gave (setup_from g.B.Bag.items g.B.Bag.fits g.P.Program.children c.args.cells.now.key)
    g.J.Named.name c.args.cells.now.table_id.slots c.args.edge m.0 c.swap.result c.args.part _ _
    _ _ (may.0, may.1, may.2.0) m.1 c.exchange.ensures.3 c.swap.ensures.2
