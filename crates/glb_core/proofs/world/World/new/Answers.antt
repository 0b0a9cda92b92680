use Rattle.std.proofs.Common.{◌∙◌, sym, subst, map}
use Rattle.glb_core.specs.inner.Start.{FirstTables}
use Rattle.glb_core.proofs.Start.Made.{started_at, started_fits}
use Rattle.glb_core.proofs.world.World.new.Goals as goal

pub returns-in-Ok-clause-start : goal.returns-in-Ok-clause-start
returns-in-Ok-clause-start g c =
    let F = subst (λ bs.
    FirstTables g.B.Bag.items g.P.Value.Monoid.unit c.args.params.now (map g.B.Bag.items bs)
    c.in-Ok.tables) c.deref.ensures.value c.in-Ok.ensures.tables in
    started_at g.B.Bag.items g.P.Value.Monoid.unit c.args.params.now c.args.bags.items c.in-Ok.tables
    c.fill.new.place_rows.items c.requires.limits c.requires.bags F c.fill.ensures.number
    c.fill.ensures.place_rows

pub returns-in-Ok-clause-fits : goal.returns-in-Ok-clause-fits
returns-in-Ok-clause-fits g c = λ p all.
    let F = subst (λ bs.
    FirstTables g.B.Bag.items g.P.Value.Monoid.unit c.args.params.now (map g.B.Bag.items bs)
    c.in-Ok.tables) c.deref.ensures.value c.in-Ok.ensures.tables in
    started_fits g.B.Bag.items g.B.Bag.fits g.P.Value.Monoid.unit c.args.params.now c.args.bags.items
    c.in-Ok.tables c.fill.new.place_rows.items p F c.requires.bags c.fill.ensures.number
    c.fill.ensures.place_rows all

pub invariant_of-result : goal.invariant_of-result
invariant_of-result g c =
    let F = subst (λ bs.
    FirstTables g.B.Bag.items g.P.Value.Monoid.unit c.args.params.now (map g.B.Bag.items bs)
    c.in-Ok.tables) c.deref.ensures.value c.in-Ok.ensures.tables in
    let A = started_at g.B.Bag.items g.P.Value.Monoid.unit c.args.params.now c.args.bags.items
    c.in-Ok.tables c.fill.new.place_rows.items c.requires.limits c.requires.bags F c.fill.ensures.number
    c.fill.ensures.place_rows in
    ((_, _, A.2), c.in-Ok.ensures.report ∙ sym F.places)
