use Rattle.std.proofs.Common.{subst, List}
use Rattle.std.specs.Prelude.{OnOk}
use Rattle.glb_bound.specs.Best.{worth_of}
use Rattle.glb_bound.specs.inner.Places.{IsWalking}
use Rattle.glb_bound.proofs.place.Work.walk_tree.Goals as goal

pub returns-clause-kept : goal.returns-clause-kept
returns-clause-kept g c =
    let children = g.S.Program.children c.args.search.now in
    let worth = worth_of (g.S.Program.value c.args.search.now) in
    let cap = g.S.Search.cap_of c.args.search.now in
    subst (λ l. OnOk c.walk.result ((top : g.row.I.Denot) (roots : List g.row.I.Denot)
    → IsWalking children worth cap top roots c.args.seat.now.me.0.counted l
    c.args.self.now.best c.args.seat.now.me.0
    → IsWalking children worth cap top roots c.walk.new.seat.me.0.counted c.walk.new.waiting.items
    c.walk.new.best c.walk.new.seat.me.0))
    c.in_ok-push.ensures.items c.walk.ensures.kept
