use Rattle.std.proofs.Common.{◌≢◌, refl, ap, ◌∙◌}
use Rattle.glb_rules.specs.Events.{name_of}
use Rattle.glb_rules.specs.Effects.{wake_count}
use Rattle.glb_rules.specs.declared.kinds.Edge.TheVariants as seen
use Rattle.glb_rules.specs.declared.kinds.Kind.TheVariants as kind
use Rattle.glb_inbox.specs.Viewing.{kept_of}
use Rattle.glb_place.specs.Rows.{shrug_row, known_row}
use Rattle.glb_inbox.specs.inner.Views.{joined}
use Rattle.glb_inbox.proofs.SoundThief.{like_refused}
use Rattle.glb_inbox.proofs.BookLemmas.{books_moved, moved_by, out_of, outward_at, lanes_of, near}
use Rattle.glb_inbox.proofs.BookLemmas.{mirrors_row, apart_from}
use Rattle.glb_inbox.proofs.trades.shrug_steal.Goals as goal

pub take_refusal-seat-requires-clause-refused : goal.take_refusal-seat-requires-clause-refused
take_refusal-seat-requires-clause-refused g c = λ d.
    let A = c.requires.books in
    let m = c.requires.ready in
    let e = c.requires.places in
    outward_at A c.args.places kind.Steal c.args.victim d e
    (near A c.args.places c.args.victim e m.1.2) ∙ like_refused _ m.2.1

pub returns-clause-books : goal.returns-clause-books
returns-clause-books g c =
    let A = c.requires.books in
    let b = c.args.books.now in
    let r = kept_of b in
    let m = c.requires.ready in
    let e = c.requires.places in
    let v = c.args.victim in
    let new = c.take_refusal-seat.new.lanes.items in
    let d : v ≢ r.place = apart_from A kind.Steal v (rw (like_refused _ m.2.1) (λ z. cc)) in
    books_moved A _ (shrug_row v kind.Steal)
    (moved_by (shrug_row v kind.Steal) (λ x. joined (shrug_row v kind.Steal x.kept) x) (λ x. refl)
    b.seat.me _ A.alone c.get.ensures.moved)
    c.get.ensures.table.0 refl refl refl refl
    (lanes_of A c.args.places new e c.take_refusal-seat.ensures.lanes)
    (mirrors_row A new (known_row (name_of kind.Steal r.place v) seen.Idle r)
    (shrug_row v kind.Steal r) refl refl refl refl
    (out_of A c.args.places new kind.Steal v seen.Idle e (near A c.args.places v e m.1.2) d
    c.take_refusal-seat.ensures.sets))
    (c.count_shrug.ensures r.local.count A.counted)
    (A.asleep ∙ ap wake_count m.2.0)
