use Rattle.std.proofs.Common.{◌≢◌, refl}
use Rattle.glb_rules.specs.Events.{name_of}
use Rattle.glb_rules.specs.declared.kinds.Edge.TheVariants as seen
use Rattle.glb_inbox.specs.Viewing.{kept_of}
use Rattle.glb_place.specs.Rows.{deny_row, known_row}
use Rattle.glb_inbox.proofs.BookLemmas.{books_moved, in_of, lanes_of, near, mirrors_row, deny_asked}
use Rattle.glb_inbox.proofs.BookLemmas.{apart_of}
use Rattle.glb_inbox.proofs.trades.deny.Goals as goal

pub returns-clause-books : goal.returns-clause-books
returns-clause-books g c =
    let A = c.requires.books in
    let r = kept_of c.args.books.now in
    let m = c.requires.ready in
    let e = c.requires.places in
    let t = c.args.thief in
    let k = c.args.kind in
    let new = c.answer_request.new.lanes.items in
    let d : t ≢ r.place = apart_of A k t (rw (deny_asked r k t m) (λ z. cc)) in
    books_moved A _ (deny_row t k) c.in_ok-post_denial.ensures.sent
    c.in_ok-post_denial.ensures.table refl refl refl refl
    (lanes_of A c.args.places new e c.answer_request.ensures.lanes)
    (mirrors_row A new (known_row (name_of k t r.place) seen.Refused r) (deny_row t k r) refl refl
    refl refl
    (in_of A c.args.places new k t seen.Refused e (near A c.args.places t e m.1.1) d
    c.answer_request.ensures.sets))
    (c.count_denied.ensures r.local.count A.counted)
    A.asleep
