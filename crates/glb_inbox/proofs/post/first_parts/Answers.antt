use Rattle.std.proofs.Common.{◌<◌, not, refl, sym, ap, subst}
use Rattle.glb_inbox.proofs.FirstBooks.{first_books, first_kept}
use Rattle.glb_inbox.proofs.post.first_parts.Goals as goal

pub returns-clause-desk : goal.returns-clause-desk
returns-clause-desk g c =
    let w = c.args.words.now in
    let near : c.args.place < w.key.lines.value.places = subst (λ l. c.args.place < l.places)
    (sym c.requires.lines) c.requires.near in
    record {
      books = first_books g.P.Program.children g.B.Bag.items w.key c.args.bags.now c.requires.bags
          c.requires.limits c.requires.places
          (rw c.requires.lines c.places-places.ensures.graph) c.args.place near g.B.Bag.fits
          w.table_id _ c.requires.words c.requires.seat.0 c.requires.seat.1 refl
          (rw c.requires.lines c.in_ok-lanes.ensures) refl (ap not c.is_awake-is_asleep.ensures);
      all_ways = c.in_ok-ways.ensures.ways;
      own_way = c.in_ok-own.ensures.way;
    }

pub returns-clause-kept : goal.returns-clause-kept
returns-clause-kept g c =
    let w = c.args.words.now in
    let near : c.args.place < w.key.lines.value.places = subst (λ l. c.args.place < l.places)
    (sym c.requires.lines) c.requires.near in
    first_kept g.P.Program.children g.B.Bag.items w.key c.args.bags.now c.requires.bags
    c.requires.limits c.requires.places
    (rw c.requires.lines c.places-places.ensures.graph) c.args.place near c.args.seat.me
    c.requires.seat.1
