use Rattle.std.proofs.Common.{◌<◌, arith, ap, ◌∙◌, set, refl, length}
use Rattle.std.proofs.lemmas.Result.{on_ok_weaker}
use Rattle.glb_laws.proofs.Joins.{same}
use Rattle.glb_core.specs.Tables.{view_of, mark_index, edge_index, edge_in}
use Rattle.glb_core.proofs.Tables.EdgeRows.{edge_index_below, mark_below}
use Rattle.glb_core.proofs.Tables.PlaceRows.{size_of}
use Rattle.glb_core.proofs.Tables.Fits.{fits_set, bag_at, local_at}
use Rattle.glb_core.proofs.Tables.Views.{place_row_shown, edge_row_shown, places_are}
use Rattle.glb_core.proofs.Events.Items.{gives, kept_world, reordered, on_err_3}
use Rattle.glb_core.proofs.world.steps.give.Goals as goal

pub returns-clause-given : goal.returns-clause-given
returns-clause-given g c =
    let n = c.places-places.ensures.places in
    let x = view_of c.args.tables.now in
    let items = g.B.Bag.items in
    let r = c.index_mut-place_row.result.now in
    let r2 = c.give_part.new.place_row in
    let z = c.index_mut-edge_row.result.now in
    let z2 = c.give_part.new.edge_row in
    let j = c.edge_index-at.result in
    let hj = c.edge_index-at.ensures ∙ ap (λ m. edge_index m c.args.kind c.args.thief c.args.place) n in
    on_ok_weaker c.give_part.result (λ G s w S.
    let l = gives items (g.P.Program.children c.args.program.now) (g.P.Program.value c.args.program.now)
    g.P.Value.Monoid.combine g.P.Value.Monoid.unit s x w S
    c.args.place c.args.thief c.args.kind r r2 z2 j c.mark_index.result (set x.place_rows c.args.place r2)
    (set x.edge_rows j z2)
    c.requires.named (c.requires.enabled s w S) c.index_mut-place_row.ensures.value
    (c.mark_index.ensures ∙ ap (λ m. mark_index m c.args.kind c.args.thief) n) hj G refl refl in
    (l, tt)) c.give_part.ensures.given

pub returns-clause-refused : goal.returns-clause-refused
returns-clause-refused g c =
    let n = c.places-places.ensures.places in
    let x = view_of c.args.tables.now in
    let items = g.B.Bag.items in
    let r = c.index_mut-place_row.result.now in
    let r2 = c.give_part.new.place_row in
    let z = c.index_mut-edge_row.result.now in
    let z2 = c.give_part.new.edge_row in
    let j = c.edge_index-at.result in
    let hj = c.edge_index-at.ensures ∙ ap (λ m. edge_index m c.args.kind c.args.thief c.args.place) n in
    on_err_3 c.give_part.result (λ a b d. (
      refl,
      λ s w S.
          kept_world items s x w S c.args.place j c.args.kind c.args.thief c.args.place r2 z2
          (set x.place_rows c.args.place r2) (set x.edge_rows j z2) x.total x.value refl
          c.requires.named.0 c.requires.named.1 c.requires.named.2 hj refl refl
          (reordered items x.params.seed x.cube.places c.args.place r r2 (w.place c.args.place)
          (place_row_shown items s x w S c.args.place c.args.place r refl c.requires.named.0
          c.index_mut-place_row.ensures.value) a (same b))
          (ap (edge_in items) d
          ∙ edge_row_shown items s x w S c.args.kind c.args.thief c.args.place j z hj c.requires.named.1
          c.requires.named.2 c.index_mut-edge_row.ensures.value),
    ))
    c.give_part.ensures.place_row_stays c.give_part.ensures.bag_stays c.give_part.ensures.edge_row_stays

pub index_mut-edge_row-requires : goal.index_mut-edge_row-requires
index_mut-edge_row-requires g c =
    let n = c.places-places.ensures.places in
    omega (
      arith,
      c.requires.sound.2.shows.edge_rows,
      c.args.tables.now.edge_rows.ok.0,
      c.edge_index-at.ensures
          ∙ ap (λ m. edge_index m c.args.kind c.args.thief c.args.place) n,
      edge_index_below c.args.tables.now.lines.places c.args.kind c.args.thief c.args.place c.requires.named.1
          c.requires.named.2,
    )

pub give_part-requires-clause-two : goal.give_part-requires-clause-two
give_part-requires-clause-two g c =
    let k = c.requires.sound in
    let s = k.0 in
    let w = k.1 in
    let S = k.2 in
    let x = view_of c.args.tables.now in
    let e = c.requires.enabled s w S in
    let R = place_row_shown g.B.Bag.items s x w S c.args.place c.args.place c.index_mut-place_row.result.now refl
    c.requires.named.0 c.index_mut-place_row.ensures.value in
    let m = places_are g.B.Bag.items s x w S.shows in
    let l : c.args.place < s.places = let i = c.requires.named.0 in omega arith in
    let two = (S.lawful.can_give c.args.place l e.0 e.1).0 in
    omega (arith, two, size_of R)

pub give_part-requires-clause-at : goal.give_part-requires-clause-at
give_part-requires-clause-at g c =
    let k = c.requires.sound in
    let x = view_of c.args.tables.now in
    let r = c.index_mut-place_row.result.now in
    let R = place_row_shown g.B.Bag.items k.0 x k.1 k.2 c.args.place c.args.place r refl c.requires.named.0
    c.index_mut-place_row.ensures.value in
    omega (
      arith,
      R.many,
      r.marks.ok.0,
      c.mark_index.ensures
          ∙ ap (λ m. mark_index m c.args.kind c.args.thief) c.places-places.ensures.places,
      mark_below c.args.tables.now.lines.places c.args.kind c.args.thief c.requires.named.1,
    )

pub returns-clause-fits : goal.returns-clause-fits
returns-clause-fits g c =
    let x = view_of c.args.tables.now in
    let r = c.index_mut-place_row.result.now in
    let z = c.index_mut-edge_row.result.now in
    let j = c.edge_index-at.result in
    let fits = g.B.Bag.fits in
    let S = c.requires.sound.2.shows in
    let l : c.args.place < length x.place_rows = let a = S.place_rows in let b = c.requires.named.0 in omega arith in
    let m : j < length x.edge_rows = let a = S.edge_rows
    in omega (
      arith,
      c.edge_index-at.ensures
          ∙ ap (λ m. edge_index m c.args.kind c.args.thief c.args.place) c.places-places.ensures.places,
      edge_index_below x.cube.places c.args.kind c.args.thief c.args.place c.requires.named.1
          c.requires.named.2,
    ) in
    record {
      kept = λ p A. fits_set fits p x c.args.place j c.give_part.new.place_row c.give_part.new.edge_row x.live
          x.stop x.total x.value A
          (c.give_part.ensures.fits.kept p
          (bag_at fits p x c.args.place r A l c.index_mut-place_row.ensures.value))
          (c.give_part.ensures.edge_row_fits p
          (bag_at fits p x c.args.place r A l c.index_mut-place_row.ensures.value)
          (local_at fits p x j z A m c.index_mut-edge_row.ensures.value));
    }
