use Rattle.std.proofs.Common.{◌≢◌, refl, sym, ap, subst, ◌∙◌}
use Rattle.glb_rules.specs.World.{mark_at}
use Rattle.glb_rules.specs.Effects.{wake_count}
use Rattle.glb_rules.specs.declared.kinds.Side.TheVariants as side
use Rattle.glb_inbox.specs.Viewing.{kept_of}
use Rattle.glb_core.specs.Counters.{counters_of}
use Rattle.glb_place.specs.Calls.{look_row}
use Rattle.glb_inbox.specs.inner.Views.{stepped}
use Rattle.glb_inbox.specs.inner.Acts.{MayNote}
use Rattle.glb_inbox.specs.declared.acts.Noted.TheVariants.{Look}
use Rattle.glb_inbox.proofs.LaneLemmas.{own_apart}
use Rattle.glb_inbox.proofs.BookLemmas.{books_moved, moved_by, out_of, outward_at, lanes_of, near}
use Rattle.glb_inbox.proofs.BookLemmas.{mirrors_look, look_counts, reads_of, no_lane, mark_aside}
use Rattle.glb_rules.specs.declared.kinds.Mark.TheVariants as mark
use Rattle.glb_place.specs.Calls.{CanFind}
use Rattle.glb_inbox.proofs.looking.look_out.Goals as goal

pub note-requires-clause-ready : goal.note-requires-clause-ready
note-requires-clause-ready g c =
    let A = c.requires.books in
    let e = c.requires.places in
    let m = c.requires.mine in
    let n = near A c.args.places c.args.victim e m.0 in
    reads_of (MayNote (Look c.args.victim c.args.kind side.Outward c.learn_answer-edge.result))
    c.args.books.now.seat.me A.alone (
      m,
      subst (λ y. CanFind mark.Unseen c.args.kind side.Outward y c.learn_answer-edge.result)
          (outward_at A c.args.places c.args.kind c.args.victim no_lane e n)
          (c.learn_answer-edge.ensures.finds no_lane),
    )

pub returns-clause-found : goal.returns-clause-found
returns-clause-found g c =
    let A = c.requires.books in
    let e = c.requires.places in
    let m = c.requires.mine in
    let n = near A c.args.places c.args.victim e m.0 in
    mark_aside (mark_at (kept_of c.args.books.now).local.marks c.args.kind c.args.victim)
    c.args.kind _ _
    (subst (λ y. CanFind mark.Unseen c.args.kind side.Outward y c.learn_answer-edge.result)
    (outward_at A c.args.places c.args.kind c.args.victim no_lane e n)
    (c.learn_answer-edge.ensures.finds no_lane))

pub returns-clause-books : goal.returns-clause-books
returns-clause-books g c =
    let A = c.requires.books in
    let b = c.args.books.now in
    let r = kept_of b in
    let e = c.requires.places in
    let m = c.requires.mine in
    let v = c.args.victim in
    let k = c.args.kind in
    let x = c.learn_answer-edge.result in
    let new = c.learn_answer-edge.new.lanes.items in
    let d : v ≢ r.place = own_apart b.lanes.items r A.mirrors v k side.Outward m in
    let same = look_counts A v k side.Outward x in
    let row = look_row v k side.Outward x in
    books_moved A _ row
    (moved_by row (λ y. stepped (row y.kept) c.note.result y) (λ y. refl) b.seat.me _ A.alone
    c.note.ensures.moved)
    c.note.ensures.table.0 refl same.2 same.3 same.4
    (lanes_of A c.args.places new e c.learn_answer-edge.ensures.lanes)
    (mirrors_look A new v k side.Outward x
    (out_of A c.args.places new k v x e (near A c.args.places v e m.0) d
    c.learn_answer-edge.ensures.sets))
    (A.counted ∙ sym (ap counters_of same.0))
    (A.asleep ∙ sym (ap wake_count same.1))
