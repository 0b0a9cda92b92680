use Rattle.std.proofs.Common.{◌≢◌, refl, ap, ◌∙◌}
use Rattle.glb_rules.specs.Events.{name_of}
use Rattle.glb_rules.specs.Effects.{wake_count}
use Rattle.glb_rules.specs.declared.kinds.Edge.TheVariants as seen
use Rattle.glb_rules.specs.declared.kinds.Side.TheVariants as side
use Rattle.glb_inbox.specs.Viewing.{kept_of}
use Rattle.glb_place.specs.Rows.{ask_row, known_row}
use Rattle.glb_inbox.proofs.BookLemmas.{books_moved, out_of, lanes_of, near, mirrors_row, ask_rests}
use Rattle.glb_inbox.proofs.BookLemmas.{ask_edge}
use Rattle.glb_inbox.proofs.LaneLemmas.{own_apart}
use Rattle.glb_inbox.proofs.trades.ask.Goals as goal

pub returns-clause-books : goal.returns-clause-books
returns-clause-books g c =
    let A = c.requires.books in
    let r = kept_of c.args.books.now in
    let m = c.requires.ready in
    let e = c.requires.places in
    let v = c.args.victim in
    let k = c.args.kind in
    let new = c.note_asked.new.lanes.items in
    let d : v ≢ r.place = own_apart c.args.books.now.lanes.items r A.mirrors v k side.Outward
    (m.1.2, ask_edge r k v m) in
    books_moved A _ (ask_row v k) c.in_ok-post_request.ensures.sent
    c.in_ok-post_request.ensures.table refl refl refl refl
    (lanes_of A c.args.places new e c.note_asked.ensures.lanes)
    (mirrors_row A new (known_row (name_of k r.place v) seen.Asked r) (ask_row v k r) refl refl refl
    refl
    (out_of A c.args.places new k v seen.Asked e (near A c.args.places v e m.1.2) d
    c.note_asked.ensures.sets))
    (c.count_ask.ensures r.local.count A.counted)
    (A.asleep ∙ ap wake_count (ask_rests r k v m))
