use Rattle.std.proofs.Common.{rules, subst}
use Rattle.glb_cells.specs.Starts.{setup_from}
use Rattle.glb_cells.specs.Plays.{Reads}
use Rattle.glb_cells.specs.inner.Ready.{MayBegin}
use Rattle.glb_cells.proofs.StepLemmas.Calls.{may_begin}
use Rattle.glb_cells.proofs.gifts.begin_as.Goals as goal

pub swap-requires : goal.swap-requires
swap-requires g c =
    let ready = subst (λ l. Reads c.args.seat.now.me (MayBegin g.J.Named.name c.args.word l))
    c.requires.items c.requires.ready in (
      search rules,
      search rules,
      may_begin (setup_from g.B.Bag.items g.B.Bag.fits
          g.P.Program.children c.args.cells.now.key) _ _ _ _ c.requires.name _ _ _ ready,
    )
