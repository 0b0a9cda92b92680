use Rattle.std.proofs.Common.{◌≡◌, ◌≢◌, ◌+◌, ◌++◌, refl, sym, ap, ◌∙◌}
use Rattle.glb_rules.specs.Events.{name_of}
use Rattle.glb_rules.specs.declared.kinds.Edge.TheVariants as seen
use Rattle.glb_inbox.specs.Viewing.{kept_of}
use Rattle.glb_rules.specs.Effects.{of_kind}
use Rattle.glb_rules.specs.World.{units_of}
use Rattle.glb_core.specs.Counters.{counters_of}
use Rattle.glb_place.specs.declared.record.Record.{Record}
use Rattle.glb_place.specs.Records.{knows}
use Rattle.glb_place.specs.Rows.{take_row, known_row}
use Rattle.glb_inbox.specs.inner.Acts.{items_in}
use Rattle.glb_inbox.specs.inner.Views.{joined}
use Rattle.glb_inbox.proofs.SoundThief.{like_loot}
use Rattle.glb_inbox.proofs.BookLemmas.{books_moved, moved_by, out_of, lanes_of, near, mirrors_row}
use Rattle.glb_inbox.proofs.BookLemmas.{apart_from}
use Rattle.glb_inbox.proofs.trades.take.Goals as goal

pub returns-clause-books : goal.returns-clause-books
returns-clause-books g c =
    let A = c.requires.books in
    let r = kept_of c.args.books.now in
    let m = c.requires.ready in
    let e = c.requires.places in
    let v = c.args.victim in
    let k = c.args.kind in
    let new = c.take_part-part.new.lanes.items in
    let w = c.take_part-part.result.1.me.0 in
    let part = g.B.Bag.items c.take_part-part.result.0 in
    let is : items_in w ≡ part = ap (λ n. items_in n.0) c.take_part-part.ensures.part.0.1 in
    let was : knows r (name_of k r.place v) ≡ seen.Loot = like_loot _ m.2.0.0 m.2.0.1 in
    let d : v ≢ r.place = apart_from A k v (rw was (λ z. cc)) in
    let row : Record _ → Record _ = λ q. take_row v k (items_in w) (items_in w ++ q.local.bag) q in
    let units = c.len.ensures ∙ ap units_of (sym is) in
    let wake = c.phase_of-phase.ensures ∙ A.asleep in
    books_moved A _ row
    (moved_by row (λ x. joined (row x.kept) x) (λ x. refl) c.args.books.now.seat.me _ A.alone
    c.get.ensures.moved)
    c.get.ensures.table.0 refl refl refl refl
    (lanes_of A c.args.places new e c.take_part-part.ensures.lanes)
    (mirrors_row A new (known_row (name_of k r.place v) seen.Idle r) (row r) refl refl refl refl
    (out_of A c.args.places new k v seen.Idle e (near A c.args.places v e m.1.2) d
    c.take_part-part.ensures.sets))
    (c.count_got.ensures r.local.count A.counted ∙ (λ i. counters_of (record (r.local.count) {
      got = r.local.count.got + of_kind k 1 0;
      line_got = r.local.count.line_got + of_kind k 0 1;
      got_units = r.local.count.got_units + units i;
      wakes = r.local.count.wakes + wake i;
    })))
    refl
