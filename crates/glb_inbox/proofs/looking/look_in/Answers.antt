use Rattle.std.proofs.Common.{◌≡◌, ◌≢◌, refl, sym, ap, subst, ◌∙◌}
use Rattle.glb_rules.specs.World.{mark_at}
use Rattle.glb_rules.specs.Effects.{wake_count}
use Rattle.glb_rules.specs.declared.kinds.Edge.TheVariants as seen
use Rattle.glb_rules.specs.declared.kinds.Side.TheVariants as side
use Rattle.glb_inbox.specs.Viewing.{kept_of}
use Rattle.glb_core.specs.Counters.{counters_of}
use Rattle.glb_place.specs.Calls.{CanFind, look_row}
use Rattle.glb_inbox.specs.inner.Members.{wanted}
use Rattle.glb_inbox.specs.inner.Views.{joined, stepped}
use Rattle.glb_inbox.specs.inner.Acts.{MayGet, MayNote}
use Rattle.glb_inbox.specs.declared.acts.Got.TheVariants.{Hold}
use Rattle.glb_inbox.specs.declared.acts.Noted.TheVariants.{Look}
use Rattle.glb_inbox.proofs.LaneLemmas.{own_apart}
use Rattle.glb_inbox.proofs.BookLemmas.{books_moved, moved_by, in_of, inward_at, lanes_of, near}
use Rattle.glb_inbox.proofs.BookLemmas.{mirrors_look, look_counts, reads_of, no_lane, any_lane}
use Rattle.glb_inbox.proofs.BookLemmas.{may_be_asked, may_stay}
use Rattle.glb_inbox.proofs.looking.look_in.Goals as goal

pub get-requires-clause-ready : goal.get-requires-clause-ready
get-requires-clause-ready g c =
    let A = c.requires.books in
    let e = c.requires.places in
    let m = c.requires.mine in
    let n = near A c.args.places c.args.thief e m.0 in
    reads_of (MayGet (Hold c.args.thief c.args.kind)) c.args.books.now.seat.me A.alone (
      m.0,
      m.1,
      subst (λ y. wanted c.args.kind y ≡ 0)
          (inward_at A c.args.places c.args.kind c.args.thief no_lane e n)
          (c.in-Some.ensures.found.1 no_lane),
    )

pub returns-in-Some-clause-found : goal.returns-in-Some-clause-found
returns-in-Some-clause-found g c =
    let A = c.requires.books in
    let e = c.requires.places in
    let m = c.requires.mine in
    let n = near A c.args.places c.args.thief e m.0 in
    may_be_asked (mark_at (kept_of c.args.books.now).local.marks c.args.kind c.args.thief)
    c.args.kind _
    (subst (λ y. wanted c.args.kind y ≡ 0)
    (inward_at A c.args.places c.args.kind c.args.thief no_lane e n)
    (c.in-Some.ensures.found.1 no_lane))

pub returns-in-Some-clause-books : goal.returns-in-Some-clause-books
returns-in-Some-clause-books g c =
    let A = c.requires.books in
    let b = c.args.books.now in
    let r = kept_of b in
    let e = c.requires.places in
    let m = c.requires.mine in
    let t = c.args.thief in
    let k = c.args.kind in
    let new = c.take_request.new.lanes.items in
    let d : t ≢ r.place = own_apart b.lanes.items r A.mirrors t k side.Inward m in
    let same = look_counts A t k side.Inward seen.Asked in
    let row = look_row t k side.Inward seen.Asked in
    books_moved A _ row
    (moved_by row (λ x. joined (row x.kept) x) (λ x. refl) b.seat.me _ A.alone c.get.ensures.moved)
    c.get.ensures.table.0 refl same.2 same.3 same.4
    (lanes_of A c.args.places new e c.in-Some.ensures.lanes)
    (mirrors_look A new t k side.Inward seen.Asked
    (in_of A c.args.places new k t seen.Asked e (near A c.args.places t e m.0) d
    c.in-Some.ensures.found.2))
    (A.counted ∙ sym (ap counters_of same.0))
    (A.asleep ∙ sym (ap wake_count same.1))

pub note-requires-clause-ready : goal.note-requires-clause-ready
note-requires-clause-ready g c =
    let A = c.requires.books in
    let e = c.requires.places in
    let m = c.requires.mine in
    let n = near A c.args.places c.args.thief e m.0 in
    let K = c.in-None.ensures.none refl in
    reads_of (MayNote (Look c.args.thief c.args.kind side.Inward c.inward_at-edge.result))
    c.args.books.now.seat.me A.alone (
      m,
      c.inward_at-edge.ensures no_lane ∙ K.inward _ no_lane ∙ inward_at A c.args.places c.args.kind
          c.args.thief no_lane e n,
    )

pub returns-in-None-clause-found : goal.returns-in-None-clause-found
returns-in-None-clause-found g c =
    let A = c.requires.books in
    let e = c.requires.places in
    let m = c.requires.mine in
    let k = c.args.kind in
    let n = near A c.args.places c.args.thief e m.0 in
    let K = c.in-None.ensures.none refl in
    let is = c.inward_at-edge.ensures no_lane ∙ K.inward _ no_lane
    ∙ inward_at A c.args.places k c.args.thief no_lane e n in
    let mark = mark_at (kept_of c.args.books.now).local.marks k c.args.thief in
    subst (λ y. CanFind mark k side.Inward y c.inward_at-edge.result) is
    (may_stay mark k c.inward_at-edge.result)

pub returns-in-None-clause-books : goal.returns-in-None-clause-books
returns-in-None-clause-books g c =
    let A = c.requires.books in
    let b = c.args.books.now in
    let r = kept_of b in
    let e = c.requires.places in
    let m = c.requires.mine in
    let t = c.args.thief in
    let k = c.args.kind in
    let x = c.inward_at-edge.result in
    let new = c.take_request.new.lanes.items in
    let n = near A c.args.places t e m.0 in
    let K = c.in-None.ensures.none refl in
    let d : t ≢ r.place = own_apart b.lanes.items r A.mirrors t k side.Inward m in
    let same = look_counts A t k side.Inward x in
    let row = look_row t k side.Inward x in
    books_moved A _ row
    (moved_by row (λ y. stepped (row y.kept) c.note.result y) (λ y. refl) b.seat.me _ A.alone
    c.note.ensures.moved)
    c.note.ensures.table.0 refl same.2 same.3 same.4
    (lanes_of A c.args.places new e c.in-None.ensures.lanes)
    (mirrors_look A new t k side.Inward x (in_of A c.args.places new k t x e n d (record {
      here = λ o. K.inward _ o ∙ any_lane A c.args.places k t o no_lane e n
          ∙ sym (c.inward_at-edge.ensures no_lane ∙ K.inward _ no_lane);
      others = λ i o z. K.inward i o;
      outward = K.outward;
    })))
    (A.counted ∙ sym (ap counters_of same.0))
    (A.asleep ∙ sym (ap wake_count same.1))
