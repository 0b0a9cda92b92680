use Rattle.std.specs.Arc.{arc_value}
use Rattle.glb_inbox.specs.Viewing.{desk_view}
use Rattle.std.proofs.Common.{◌≡◌, ◌≢◌, ◌*◌, ◌<◌, length, sym, ap, subst, ◌∙◌, arith}
use Rattle.glb_place.specs.Calls.{IsOwn, edge_with}
use Rattle.glb_place.specs.Looks.{LooksAt}
use Rattle.glb_inbox.specs.Posts.{AnswersLook, looks_of}
use Rattle.glb_inbox.specs.Viewing.{kept_of}
use Rattle.glb_inbox.specs.Keeping.{lane_at}
use Rattle.glb_inbox.specs.inner.Books.{LanesAnswer}
use Rattle.glb_inbox.specs.inner.Lanes.{LooksOn}
use Rattle.glb_inbox.proofs.DeskLemmas.{looks_at}
use Rattle.glb_inbox.proofs.Hearing.{desk_answers}
use Rattle.glb_inbox.proofs.LaneLemmas.{own_apart}
use Rattle.glb_inbox.proofs.desk.DeskFabric.look.Goals as goal

pub returns-clause-looks : goal.returns-clause-looks
returns-clause-looks g c =
    let b = c.self.inside.books in
    let new = c.look.new.books in
    let V = c.self.invariant in
    let n = length c.self.inside.ways.items in
    let o = c.args.other in
    let k = c.args.kind in
    let s = c.args.side in
    let t = ap (λ (t : _). t.shared.key.lines.value.places) c.deref-table.ensures in
    let w : length b.lanes.items ≡ 2 * n =
    (let a = V.books.lanes.wide in let d = V.all_ways.all in omega arith) in
    let v : length new.lanes.items ≡ 2 * n =
    (let a = c.look.ensures.books.lanes.wide in let d = V.all_ways.all in omega arith) in
    let own : IsOwn (kept_of b) o k s = subst (λ d. IsOwn d.kept o k s) (sym c.self.view_is)
    c.requires.own in
    let l : o < n = (let a = own.0 in let d = V.all_ways.all in let e =
    ap (λ x. x.places) V.books.lines_are in omega arith) in
    let d : o ≢ b.place = (λ e. own_apart b.lanes.items (kept_of b) V.books.mirrors o k s own
    (e ∙ sym V.books.number)) in
    let at : LooksOn s (lane_at n k o) b.lanes.items new.lanes.items =
    subst (λ m. LooksOn s (lane_at m k o) b.lanes.items new.lanes.items)
    (c.len-places.ensures ∙ c.self.inside.ways.ok.0) c.look.ensures.looks in
    let id = (arc_value c.self.inside.words).shared.table_id in
    let q = (arc_value c.self.inside.words).shared.key.program.value in
    subst (λ d. LooksAt (edge_with d.kept.place o k s) (looks_of d)
    (looks_of (desk_view id q n new))) c.self.view_is
    (subst (λ p. LooksAt (edge_with p o k s) (looks_of (desk_view id q n b))
    (looks_of (desk_view id q n new))) (sym V.books.number)
    (looks_at id q n b new w v c.look.ensures.place k o s l d at c.look.ensures.words.0
    c.look.ensures.words.1))

pub returns-clause-answers : goal.returns-clause-answers
returns-clause-answers g c =
    let b = c.self.inside.books in
    let new = c.look.new.books in
    let V = c.self.invariant in
    let n = length c.self.inside.ways.items in
    let o = c.args.other in
    let k = c.args.kind in
    let s = c.args.side in
    let x = c.look.result in
    let e = V.all_ways.all ∙ sym (ap (λ y. y.places) V.books.lines_are) in
    let own : IsOwn (kept_of b) o k s = subst (λ d. IsOwn d.kept o k s) (sym c.self.view_is)
    c.requires.own in
    let l : o < n = (let a = own.0 in omega arith) in
    let A : LanesAnswer n o k s x b.lanes.items new.lanes.items =
    subst (λ m. LanesAnswer m o k s x b.lanes.items new.lanes.items)
    (c.len-places.ensures ∙ c.self.inside.ways.ok.0) c.look.ensures.answers in
    let id = (arc_value c.self.inside.words).shared.table_id in
    let q = (arc_value c.self.inside.words).shared.key.program.value in
    subst (λ d. AnswersLook o k s x d (desk_view id q n new)) c.self.view_is
    (desk_answers id q n n b new V.books.mirrors e o k s x l A)
