use Rattle.std.proofs.Common.{refl, sym, subst}
use Rattle.std.specs.Prelude.{vec_len}
use Rattle.glb_bound.specs.Best.{worth_of}
use Rattle.glb_bound.specs.inner.Places.{HasSearched}
use Rattle.glb_bound.proofs.Together.{all_searched}
use Rattle.glb_bound.proofs.many.finish.Goals as goal

pub returns : goal.returns
returns g c =
    let children = g.S.Program.children c.args.search.now in
    let worth = worth_of (g.S.Program.value c.args.search.now) in
    let cap = g.S.Search.cap_of c.args.search.now in
    let laws = g.met.S.Search in
    let frontier = c.args.frontier.now in
    let first = c.args.first in
    let best = c.in_ok-found.found.0 in
    let key = c.args.table.shared.key in
    let view = c.gather_all.new.seat.me.0 in
    let count = vec_len c.args.places in
    let h = c.in_ok-found.ensures.played in
    let s = c.requires.start in
    record {
      searched = λ root opened.
          subst (λ m. HasSearched children worth cap root key.limit m best) (sym h.2)
          (all_searched children worth cap (laws.caps_value c.args.search.now)
          (laws.caps_children c.args.search.now) root frontier first c.args.before
          key.limit count h.0 h.1 best key view opened h.3 c.close.ensures s.1 s.2
          s.3 refl c.requires.few.0 c.in_ok-found.ensures.least);
    }
