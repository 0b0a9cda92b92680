use Rattle.std.proofs.Common.{ℕ, List, ap, subst}
use Rattle.std.specs.Prelude.{IfOk}
use Rattle.glb_bound.specs.Best.{worth_of}
use Rattle.glb_bound.specs.inner.Walks.{IsOpened}
use Rattle.glb_bound.specs.inner.Places.{HasSearched}
use Rattle.glb_bound.proofs.many.search_on.Goals as goal

pub returns : goal.returns
returns g c =
    let children = g.S.Program.children c.args.search.now in
    let worth = worth_of (g.S.Program.value c.args.search.now) in
    let cap = g.S.Search.cap_of c.args.search.now in
    let visited = c.args.frontier.visited in
    let first = c.args.frontier.best in
    record {
      searched = subst (λ (l : List g.row.S-Item.Denot). IfOk c.finish.result
          (λ r. (root : g.row.S-Item.Denot) → IsOpened children worth cap root visited l first
          → HasSearched children worth cap root c.args.limit r.1 r.0)) c.deref-2.ensures.value
          (subst (λ (n : ℕ). IfOk c.finish.result
          (λ r. (root : g.row.S-Item.Denot)
          → IsOpened children worth cap root visited c.deref-2.result.now first
          → HasSearched children worth cap root n r.1 r.0))
          (ap (λ k. k.limit) c.in_ok-table.ensures.words.2) c.finish.ensures.searched);
    }
