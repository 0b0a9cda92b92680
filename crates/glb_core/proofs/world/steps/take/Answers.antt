use Rattle.std.proofs.Common.{◌<◌, arith, ap, ◌∙◌, set, subst, sym, refl, length}
use Rattle.glb_laws.proofs.Joins.{same}
use Rattle.glb_core.specs.Tables.{view_of, edge_index}
use Rattle.glb_core.specs.Standing.{EdgeRowFits}
use Rattle.glb_core.proofs.Tables.EdgeRows.{edge_index_below}
use Rattle.glb_core.proofs.Events.Conditions.{loot_in}
use Rattle.glb_core.proofs.Tables.Fits.{fits_set, bag_at, local_at}
use Rattle.glb_core.proofs.Tables.Views.{place_row_shown, edge_row_shown}
use Rattle.glb_core.proofs.Events.Items.{takes, kept_world, reordered, on_err_3, on_ok_2}
use Rattle.glb_core.proofs.world.steps.take.Goals as goal

pub returns-clause-taken : goal.returns-clause-taken
returns-clause-taken g c =
    let n = c.places-places.ensures.places in
    let x = view_of c.args.tables.now in
    let items = g.B.Bag.items in
    let r = c.index_mut-place_row.result.now in
    let r2 = c.take_part.new.place_row in
    let z = c.index_mut-edge_row.result.now in
    let z2 = c.take_part.new.edge_row in
    let j = c.edge_index-at.result in
    let hj = c.edge_index-at.ensures ∙ ap (λ m. edge_index m c.args.kind c.args.place c.args.victim) n in
    on_ok_2 c.take_part.result (λ T e s w S.
    let l = takes items (g.P.Program.children c.args.program.now) (g.P.Program.value c.args.program.now)
    g.P.Value.Monoid.combine g.P.Value.Monoid.unit s x w S
    c.args.place c.args.victim c.args.kind r r2 z j (set x.place_rows c.args.place r2) (set x.edge_rows j z2)
    c.requires.named (c.requires.enabled s w S) c.index_mut-place_row.ensures.value hj
    c.index_mut-edge_row.ensures.value T refl (ap (set x.edge_rows j) e) in
    (l, tt)) c.take_part.ensures.taken c.take_part.ensures.edge_row

pub returns-clause-refused : goal.returns-clause-refused
returns-clause-refused g c =
    let n = c.places-places.ensures.places in
    let x = view_of c.args.tables.now in
    let items = g.B.Bag.items in
    let r = c.index_mut-place_row.result.now in
    let r2 = c.take_part.new.place_row in
    let z = c.index_mut-edge_row.result.now in
    let z2 = c.take_part.new.edge_row in
    let j = c.edge_index-at.result in
    let hj = c.edge_index-at.ensures ∙ ap (λ m. edge_index m c.args.kind c.args.place c.args.victim) n in
    on_err_3 c.take_part.result (λ a b d. (
      refl,
      λ s w S.
          kept_world items s x w S c.args.place j c.args.kind c.args.place c.args.victim r2 z2
          (set x.place_rows c.args.place r2) (set x.edge_rows j z2) x.total x.value refl
          c.requires.named.0 c.requires.named.1 c.requires.named.2 hj refl refl
          (reordered items x.params.seed x.cube.places c.args.place r r2 (w.place c.args.place)
          (place_row_shown items s x w S c.args.place c.args.place r refl c.requires.named.0
          c.index_mut-place_row.ensures.value) a (same b))
          (d ∙ edge_row_shown items s x w S c.args.kind c.args.place c.args.victim j z hj c.requires.named.1
          c.requires.named.2 c.index_mut-edge_row.ensures.value),
    ))
    c.take_part.ensures.place_row_stays c.take_part.ensures.bag_stays c.take_part.ensures.edge_row_stays

pub index_mut-edge_row-requires : goal.index_mut-edge_row-requires
index_mut-edge_row-requires g c =
    let n = c.places-places.ensures.places in
    omega (
      arith,
      c.requires.sound.2.shows.edge_rows,
      c.args.tables.now.edge_rows.ok.0,
      c.edge_index-at.ensures
          ∙ ap (λ m. edge_index m c.args.kind c.args.place c.args.victim) n,
      edge_index_below c.args.tables.now.lines.places c.args.kind c.args.place c.args.victim
          c.requires.named.1 c.requires.named.2,
    )

pub take_part-requires-clause-loot : goal.take_part-requires-clause-loot
take_part-requires-clause-loot g c =
    let k = c.requires.sound in
    let x = view_of c.args.tables.now in
    let e = c.requires.enabled k.0 k.1 k.2 in
    let hj = c.edge_index-at.ensures
    ∙ ap (λ m. edge_index m c.args.kind c.args.place c.args.victim) c.places-places.ensures.places in
    let E = edge_row_shown g.B.Bag.items k.0 x k.1 k.2 c.args.kind c.args.place c.args.victim
    c.edge_index-at.result c.index_mut-edge_row.result.now hj c.requires.named.1 c.requires.named.2
    c.index_mut-edge_row.ensures.value in
    loot_in g.B.Bag.items c.index_mut-edge_row.result.now e.0.0 (E ∙ e.0.1)

pub take_part-requires-clause-fits : goal.take_part-requires-clause-fits
take_part-requires-clause-fits g c =
    let k = c.requires.sound in
    let x = view_of c.args.tables.now in
    let r = c.index_mut-place_row.result.now in
    let z = c.index_mut-edge_row.result.now in
    let j = c.edge_index-at.result in
    let hj = c.edge_index-at.ensures
    ∙ ap (λ m. edge_index m c.args.kind c.args.place c.args.victim) c.places-places.ensures.places in
    let l : c.args.place < length x.place_rows = let a = k.2.shows.place_rows in let i = c.requires.named.0
    in omega arith in
    let m : j < length x.edge_rows = let a = k.2.shows.edge_rows in
    let i = edge_index_below c.args.tables.now.lines.places c.args.kind c.args.place c.args.victim
    c.requires.named.1 c.requires.named.2 in omega arith in (
      c.args.program.now,
      (
        subst (λ y. g.B.Bag.fits y.bag c.args.program.now) (sym c.index_mut-place_row.ensures.value)
            (c.requires.fits.place_rows c.args.place r l),
        subst (λ y. EdgeRowFits g.B.Bag.fits c.args.program.now y) (sym c.index_mut-edge_row.ensures.value)
            (c.requires.fits.edge_rows j z m),
      ),
    )

pub returns-clause-fits : goal.returns-clause-fits
returns-clause-fits g c =
    let x = view_of c.args.tables.now in
    let r = c.index_mut-place_row.result.now in
    let z = c.index_mut-edge_row.result.now in
    let j = c.edge_index-at.result in
    let fits = g.B.Bag.fits in
    let S = c.requires.sound.2.shows in
    let l : c.args.place < length x.place_rows = let a = S.place_rows in let b = c.requires.named.0 in omega arith in
    let m : j < length x.edge_rows = let a = S.edge_rows
    in omega (
      arith,
      c.edge_index-at.ensures
          ∙ ap (λ m. edge_index m c.args.kind c.args.place c.args.victim) c.places-places.ensures.places,
      edge_index_below x.cube.places c.args.kind c.args.place c.args.victim c.requires.named.1
          c.requires.named.2,
    ) in
    record {
      kept = λ p A. fits_set fits p x c.args.place j c.take_part.new.place_row c.take_part.new.edge_row x.live
          x.stop x.total x.value A
          (c.take_part.ensures.fits.kept p
          (bag_at fits p x c.args.place r A l c.index_mut-place_row.ensures.value))
          (c.take_part.ensures.edge_row_fits p (local_at fits p x j z A m c.index_mut-edge_row.ensures.value));
    }
