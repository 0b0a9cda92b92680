use Rattle.std.specs.Arc.{arc_value}
use Rattle.glb_inbox.specs.Viewing.{desk_view}
use Rattle.std.proofs.Common.{◌≡◌, ◌*◌, length, ap, subst, arith}
use Rattle.glb_place.specs.Looks.{SameLooks}
use Rattle.glb_inbox.specs.Posts.{looks_of}
use Rattle.glb_inbox.proofs.DeskLemmas.{same_looks}
use Rattle.glb_inbox.proofs.desk.DeskFabric.halt.Goals as goal

pub returns-clause-looks : goal.returns-clause-looks
returns-clause-looks g c =
    let b = c.self.inside.books in
    let V = c.self.invariant in
    let n = length c.self.inside.ways.items in
    let t = ap (λ (t : _). t.shared.key.lines.value.places) c.deref-table.ensures in
    let w : length b.lanes.items ≡ 2 * n =
    (let a = V.books.lanes.wide in let d = V.all_ways.all in omega arith) in
    let v : length c.halt.new.books.lanes.items ≡ 2 * n =
    (let a = c.halt.ensures.books.lanes.wide in let d = V.all_ways.all in omega arith) in
    let id = (arc_value c.self.inside.words).shared.table_id in
    let q = (arc_value c.self.inside.words).shared.key.program.value in
    subst (λ d. SameLooks (looks_of d) (looks_of (desk_view id q n c.halt.new.books)))
    c.self.view_is (same_looks id q n b c.halt.new.books w v c.halt.ensures.stay)
