use Rattle.std.proofs.Common.{◌≢◌, ◌+◌, refl, ◌∙◌}
use Rattle.glb_rules.specs.Events.{name_of}
use Rattle.glb_rules.specs.declared.kinds.Edge.TheVariants as seen
use Rattle.glb_inbox.specs.Viewing.{kept_of}
use Rattle.glb_rules.specs.Effects.{of_kind}
use Rattle.glb_core.specs.Counters.{counters_of}
use Rattle.glb_place.specs.Rows.{give_row, known_row}
use Rattle.glb_inbox.proofs.BookLemmas.{books_moved, in_of, lanes_of, near, mirrors_row}
use Rattle.glb_inbox.proofs.BookLemmas.{give_wanted, apart_of, idle_not_wanted}
use Rattle.glb_inbox.proofs.trades.give.Goals as goal

pub returns-clause-books : goal.returns-clause-books
returns-clause-books g c =
    let A = c.requires.books in
    let r = kept_of c.args.books.now in
    let m = c.requires.ready.may in
    let e = c.requires.places in
    let t = c.args.thief in
    let k = c.args.kind in
    let part = g.B.Bag.items c.args.part in
    let new = c.answer_request.new.lanes.items in
    let s = c.in_ok-post_part.ensures.sent in
    let rest = s.2.2.0 in
    let d : t ≢ r.place = apart_of A k t (λ z. idle_not_wanted k _ z (give_wanted r k t m)) in
    books_moved A _ (give_row t k part rest)
    (record { old = s.0; new = s.2.0; was = s.1; is = s.2.1; kept = s.2.2.3 })
    c.in_ok-post_part.ensures.table refl refl refl refl
    (lanes_of A c.args.places new e c.answer_request.ensures.lanes)
    (mirrors_row A new (known_row (name_of k t r.place) seen.Loot r) (give_row t k part rest r) refl
    refl refl refl
    (in_of A c.args.places new k t seen.Loot e (near A c.args.places t e m.1.1) d
    c.answer_request.ensures.sets))
    (c.count_given.ensures r.local.count A.counted ∙ (λ i. counters_of (record (r.local.count) {
      given = r.local.count.given + of_kind k 1 0;
      line_given = r.local.count.line_given + of_kind k 0 1;
      sent_units = r.local.count.sent_units + c.len-units.ensures i;
    })))
    A.asleep
