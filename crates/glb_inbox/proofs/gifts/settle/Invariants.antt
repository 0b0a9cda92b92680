use Rattle.glb_inbox.specs.inner.Acts.{Takes}
use Rattle.glb_inbox.proofs.gifts.settle.Given as goal

abbrev pub ghosts-settle_as : goal.ghosts-settle_as
ghosts-settle_as g a =
    let p = a.words.now.key.program.value in
    record {
      takes = Takes (g.P.Program.children p) (g.P.Program.value p) g.P.Value.Monoid.unit
          g.P.Value.Monoid.combine a.done (g.B.Bag.items a.bag.now) a.gain.now;
      leaves = g.B.Bag.items a.bag.now;
    }
