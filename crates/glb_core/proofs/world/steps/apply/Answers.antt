use Rattle.std.proofs.Common.{arith, ap, ◌∙◌, ◌<◌, set, subst, sym, length}
use Rattle.glb_core.specs.Tables.{view_of}
use Rattle.glb_core.specs.inner.Effects.{named_edge_index, place_row_after, AsksAnother}
use Rattle.glb_core.specs.Standing.{EdgeRowFits}
use Rattle.glb_core.proofs.Tables.Fits.{fits_set, place_row_fits_after, edge_row_fits_after, bag_at}
use Rattle.glb_core.proofs.Tables.Fits.{local_at}
use Rattle.glb_core.proofs.Tables.Views.{simply_stepped, whole_of, another, no_batch, live_fits}
use Rattle.glb_core.proofs.Tables.Views.{named_below}
use Rattle.glb_core.proofs.world.steps.apply.Goals as goal

pub returns-clause-done : goal.returns-clause-done
returns-clause-done g c = λ s w S.
    let n = c.places-places.ensures.places in
    let e = c.args.event in
    let r = c.index_mut-place_row.result.now in
    let z = c.index_mut-edge_row.result.now in
    let i = c.place.result in
    let j = c.edge_index_of-at.result in
    let x = view_of c.args.tables.now in
    let able = c.requires.enabled s w S in
    let l = simply_stepped g.B.Bag.items (g.P.Program.children c.args.program.now)
    (g.P.Program.value c.args.program.now) g.P.Value.Monoid.combine g.P.Value.Monoid.unit s x w S
    e r z i j (set x.place_rows i c.effect.new.place_row) (set x.edge_rows j c.effect.new.edge_row)
    c.next_live-tables.result c.next_stop-tables.result
    c.requires.named (another s w x.cube.places e S.proper c.requires.named able) c.requires.simple able
    c.place.ensures (c.edge_index_of-at.ensures ∙ ap (λ m. named_edge_index m e) n)
    c.index_mut-place_row.ensures.value c.index_mut-edge_row.ensures.value
    (ap (set x.place_rows i) (c.effect.ensures.place_row ∙ ap (λ m. place_row_after m e z r) n))
    (ap (set x.edge_rows j) c.effect.ensures.edge_row)
    c.next_live-tables.ensures c.next_stop-tables.ensures in
    (l, whole_of s e l.step.taken l.step.rest (no_batch e c.requires.simple))

pub effect-requires-clause-two : goal.effect-requires-clause-two
effect-requires-clause-two g c =
    let S = c.requires.sound in
    subst (λ m. AsksAnother m c.args.event) (sym c.places-places.ensures.places)
    (another S.0 S.1 c.args.tables.now.lines.places c.args.event S.2.proper c.requires.named
    (c.requires.enabled S.0 S.1 S.2))

pub next_live-tables-requires : goal.next_live-tables-requires
next_live-tables-requires g c =
    let S = c.requires.sound in
    omega (arith, live_fits g.B.Bag.items S.0 (view_of c.args.tables.now) S.1 S.2)

pub index_mut-edge_row-requires : goal.index_mut-edge_row-requires
index_mut-edge_row-requires g c =
    let n = c.places-places.ensures.places in
    omega (
      arith,
      c.requires.sound.2.shows.edge_rows,
      c.args.tables.now.edge_rows.ok.0,
      c.edge_index_of-at.ensures
          ∙ ap (λ m. named_edge_index m c.args.event) n,
      named_below c.args.tables.now.lines.places c.args.event c.requires.named,
    )

pub returns-clause-fits : goal.returns-clause-fits
returns-clause-fits g c =
    let x = view_of c.args.tables.now in
    let e = c.args.event in
    let r = c.index_mut-place_row.result.now in
    let z = c.index_mut-edge_row.result.now in
    let i = c.place.result in
    let j = c.edge_index_of-at.result in
    let fits = g.B.Bag.fits in
    let S = c.requires.sound.2.shows in
    let l : i < length x.place_rows = let a = S.place_rows in let b = c.requires.named.0 in
    let d = c.place.ensures in omega arith in
    let m : j < length x.edge_rows = let a = S.edge_rows
    in omega (
      arith,
      c.edge_index_of-at.ensures
          ∙ ap (λ m. named_edge_index m e) c.places-places.ensures.places,
      named_below x.cube.places e c.requires.named,
    ) in
    record {
      kept = λ p A. fits_set fits p x i j c.effect.new.place_row c.effect.new.edge_row c.next_live-tables.result
          c.next_stop-tables.result x.total x.value A
          (subst (λ y. fits y.bag p) (sym c.effect.ensures.place_row)
          (place_row_fits_after fits p c.places-places.result e z r
          (bag_at fits p x i r A l c.index_mut-place_row.ensures.value)))
          (subst (EdgeRowFits fits p) (sym c.effect.ensures.edge_row)
          (edge_row_fits_after fits p e z (local_at fits p x j z A m c.index_mut-edge_row.ensures.value)));
    }
