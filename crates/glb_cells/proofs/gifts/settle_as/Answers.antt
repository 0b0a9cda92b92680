use Rattle.std.proofs.Common.{rules, sym, subst}
use Rattle.glb_cells.specs.Starts.{setup_from}
use mathlib.Core.Option as maybe
use Rattle.atomic_table.specs.Table.{step}
use Rattle.glb_cells.specs.Plays.{Reads, Settles}
use Rattle.glb_cells.specs.inner.Ready.{MaySettle, Settled}
use Rattle.glb_cells.proofs.StepLemmas.Calls.{may_settle}
use Rattle.glb_cells.proofs.StepLemmas.Told.{settled_by}
use Rattle.glb_cells.proofs.gifts.settle_as.Goals as goal

pub fetch_add-requires : goal.fetch_add-requires
fetch_add-requires g c =
    let P = g.P.Program in
    let M = g.P.Value.Monoid in
    let p = c.requires.picked in
    let ready = subst (λ l. Reads c.args.seat.now.me
    (MaySettle P.children P.value M.combine M.unit c.args.done l c.args.gain.now)) p.0
    c.requires.ready in (
      search rules,
      search rules,
      may_settle (setup_from g.B.Bag.items g.B.Bag.fits P.children
          c.args.cells.now.key) _ _ P.value M.combine M.unit c.args.gain.now g.G.Part.items p.1
          c.args.done g.L.Part.items _ ready,
    )

pub returns-clause-moved : goal.returns-clause-moved
returns-clause-moved g c =
    let P = g.P.Program in
    let M = g.P.Value.Monoid in
    let p = c.requires.picked in
    let ready = subst (λ l. Reads c.args.seat.now.me
    (MaySettle P.children P.value M.combine M.unit c.args.done l c.args.gain.now)) p.0
    c.requires.ready in
    let t = settled_by P.children P.value M.combine M.unit c.args.gain.now
    c.args.cells.now.table_id.slots c.args.done c.fetch_add.result g.L.Part.items
    c.args.seat.now.me c.fetch_add.new.seat.me ready
    (subst (λ gs. Settles P.children P.value M.combine M.unit g.L.Part.items gs
    (step c.args.cells.now.table_id.slots 1 c.args.done 0 maybe.none) c.args.seat.now.me
    c.fetch_add.result c.fetch_add.new.seat.me) (sym p.1) c.fetch_add.ensures.2) in
    subst (λ l. Reads c.args.seat.now.me (λ r. Reads c.fetch_add.new.seat.me
    (Settled P.children P.value M.unit M.combine c.args.done l c.args.gain.now
    c.fetch_add.result r))) (sym p.0) t
