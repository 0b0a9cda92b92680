use Rattle.std.specs.Arc.{arc_value}
use Rattle.glb_inbox.specs.Viewing.{desk_view}
use Rattle.std.proofs.Common.{◌≡◌, ◌*◌, length, ap, subst, arith}
use Rattle.glb_place.specs.Calls.{Settles}
use Rattle.glb_inbox.specs.Viewing.{kept_of}
use Rattle.glb_place.specs.Looks.{SameLooks}
use Rattle.glb_inbox.specs.Posts.{looks_of}
use Rattle.glb_inbox.proofs.DeskLemmas.{same_looks}
use Rattle.glb_inbox.proofs.desk.DeskFabric.settle.Goals as goal

pub returns-clause-looks : goal.returns-clause-looks
returns-clause-looks g c =
    let b = c.self.inside.books in
    let V = c.self.invariant in
    let n = length c.self.inside.ways.items in
    let t = ap (λ (t : _). t.shared.key.lines.value.places) c.deref-table.ensures in
    let w : length b.lanes.items ≡ 2 * n =
    (let a = V.books.lanes.wide in let d = V.all_ways.all in omega arith) in
    let v : length c.settle.new.books.lanes.items ≡ 2 * n =
    (let a = c.settle.ensures.books.lanes.wide in let d = V.all_ways.all in omega arith) in
    let id = (arc_value c.self.inside.words).shared.table_id in
    let q = (arc_value c.self.inside.words).shared.key.program.value in
    subst (λ d. SameLooks (looks_of d) (looks_of (desk_view id q n c.settle.new.books)))
    c.self.view_is (same_looks id q n b c.settle.new.books w v c.settle.ensures.stay)

pub returns-clause-kept : goal.returns-clause-kept
returns-clause-kept g c =
    subst (λ d. Settles (g.P.Program.children d.program) (g.P.Program.value d.program)
    g.P.Value.Monoid.unit g.P.Value.Monoid.combine c.args.done
    (g.B.Bag.items c.args.bag.now) c.args.gain.now c.settle.result d.kept
    (kept_of c.settle.new.books)) c.self.view_is
    (subst (λ t. Settles (g.P.Program.children t.shared.key.program.value)
    (g.P.Program.value t.shared.key.program.value) g.P.Value.Monoid.unit
    g.P.Value.Monoid.combine c.args.done
    (g.B.Bag.items c.args.bag.now) c.args.gain.now c.settle.result (kept_of c.self.inside.books)
    (kept_of c.settle.new.books)) c.deref-table.ensures c.settle.ensures.kept)
