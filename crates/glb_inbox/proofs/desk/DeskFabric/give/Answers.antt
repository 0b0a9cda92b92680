use Rattle.std.specs.Arc.{arc_value}
use Rattle.glb_inbox.specs.Viewing.{desk_view}
use Rattle.std.proofs.Common.{◌≡◌, ◌*◌, length, ap, subst, arith}
use Rattle.std.proofs.Math.ListN.{length-set}
use Rattle.std.specs.Prelude.{OnOk}
use Rattle.glb_place.specs.Calls.{Gives}
use Rattle.glb_place.specs.Rows.{give_row}
use Rattle.glb_inbox.specs.Viewing.{kept_of}
use Rattle.glb_place.specs.Looks.{SameLooks}
use Rattle.glb_inbox.specs.Posts.{looks_of}
use Rattle.glb_inbox.proofs.DeskLemmas.{same_looks, same_looks_put}
use Rattle.glb_inbox.proofs.desk.DeskFabric.give.Goals as goal

pub returns-clause-looks : goal.returns-clause-looks
returns-clause-looks g c =
    let b = c.self.inside.books in
    let V = c.self.invariant in
    let n = length c.self.inside.ways.items in
    let t = ap (λ (t : _). t.shared.key.lines.value.places) c.deref-table.ensures in
    let w : length b.lanes.items ≡ 2 * n =
    (let a = V.books.lanes.wide in let d = V.all_ways.all in omega arith) in
    let v : length c.give.new.books.lanes.items ≡ 2 * n =
    (let a = c.give.ensures.books.lanes.wide in let d = V.all_ways.all in omega arith) in
    let id = (arc_value c.self.inside.words).shared.table_id in
    let q = (arc_value c.self.inside.words).shared.key.program.value in
    same_looks_put _ id q n _ c.give.new.books (length-set _ _ _)
    (subst (λ d. SameLooks (looks_of d) (looks_of (desk_view id q n c.give.new.books)))
    c.self.view_is (same_looks id q n b c.give.new.books w v c.give.ensures.stay))

pub returns-clause-kept : goal.returns-clause-kept
returns-clause-kept g c =
    subst (λ d. OnOk c.give.result
    (Gives (give_row c.args.thief c.args.kind) (g.B.Bag.items c.args.part) d.kept
    (kept_of c.give.new.books))) c.self.view_is c.give.ensures.kept
