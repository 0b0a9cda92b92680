use Rattle.std.proofs.Common.{◌≡◌, ◌≤◌, take, sum_by}
use Rattle.glb_inbox.specs.inner.Begins.{live_of}
use Rattle.glb_inbox.proofs.office.count_awake.Given as goal

abbrev pub invariant-loop-bag : goal.invariant-loop-bag
invariant-loop-bag g l =
    (l.live ≡ sum_by (λ b. live_of (g.B.Bag.items b)) (take l.bag-index l.bags))
    × (l.live ≤ l.bag-index)
