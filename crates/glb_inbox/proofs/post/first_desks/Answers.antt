use Rattle.std.proofs.Common.{◌<◌, ◌∷◌, [], ℕ, get_or, length, sym, ap, subst, ◌∙◌, arith}
use Rattle.std.proofs.Common.{length-append}
use Rattle.glb_inbox.specs.Posts.{DeskView}
use Rattle.glb_inbox.specs.declared.view.Member.TheVariants.{Place}
use Rattle.glb_inbox.specs.inner.Begins.{bags_of, first_members, first_seat, job_of}
use Rattle.glb_inbox.specs.inner.Desks.{IsBegun}
use Rattle.glb_inbox.proofs.Drops.{drop_some, drop_next}
use Rattle.glb_inbox.proofs.FirstBooks.{dealt_is, numbered_more}
use Rattle.glb_inbox.proofs.Opening.{length_members}
use Rattle.glb_inbox.proofs.post.first_desks.Goals as goal

pub deal-seat-requires-clause-some : goal.deal-seat-requires-clause-some
deal-seat-requires-clause-some g c =
    let key = c.args.words.now.value.shared.key in
    let m = length_members key.lines.value.places
    (λ p. Place (first_seat (job_of g.P.Program.children g.B.Bag.items key)
    (bags_of g.P.Program.children g.B.Bag.items key) p)) in
    let e = ap (λ l. l.places) c.requires.lines in
    let f = c.places-place-end.ensures.places in
    let l : c.loop-place.place < length (first_members g.P.Program.children g.B.Bag.items key) =
    omega arith in
    let s = drop_some (first_members g.P.Program.children g.B.Bag.items key) c.loop-place.place l in
    (s.0, s.1, c.loop-place.invariant.left ∙ s.2)

pub first_desk-requires-clause-seat : goal.first_desk-requires-clause-seat
first_desk-requires-clause-seat g c =
    let key = c.args.words.now.value.shared.key in
    let I = c.loop-place.invariant in
    let d = c.deal-seat.ensures.dealt in
    let e = ap (λ l. l.places) c.requires.lines in
    let f = c.places-place-end.ensures.places in
    let l : c.loop-place.place < key.lines.value.places = omega arith in
    let seat = λ (p : ℕ). first_seat (job_of g.P.Program.children g.B.Bag.items key)
    (bags_of g.P.Program.children g.B.Bag.items key) p in
    let is = dealt_is key.lines.value.places (λ p. Place (seat p)) c.loop-place.place d.0 d.1 l
    (sym I.left ∙ d.2) in
    (c.deal-seat.ensures.table.1 ∙ I.table, d.4 ∙ ap (λ m. (m ∷ [], [])) is)

pub loop-place-preserved : goal.loop-place-preserved
loop-place-preserved g c =
    let s = c.args.words.now.value.shared in
    let I = c.loop-place.invariant in
    let d = c.deal-seat.ensures.dealt in
    let next = drop_next (first_members g.P.Program.children g.B.Bag.items s.key) c.loop-place.place
    d.0 d.1 (sym I.left ∙ d.2) in
    let ds = c.loop-place.desks.items in
    let F : ℕ → DeskView _ _
    → _ = λ p x. IsBegun g.P.Program.children g.B.Bag.items s.table_id s.key p x in
    let here = subst (λ k. F k c.in_ok-desk.desk) (sym I.many) c.in_ok-desk.ensures.begun in
    record {
      table = c.deal-seat.ensures.table.0 ∙ I.table;
      free = ap (λ m. m.1) d.3 ∙ I.free;
      left = ap (λ m. m.0) d.3 ∙ sym next.0;
      inboxes = c.in_ok-desk.ensures.inboxes;
      many = ap length c.in_ok-push.ensures.items
          ∙ omega (arith, length-append ds (c.in_ok-desk.desk ∷ []), I.many);
      begun = subst (λ l. (p : ℕ) (x : DeskView _ _) → p < length l → F p (get_or l p x))
          (sym c.in_ok-push.ensures.items)
          (numbered_more F ds c.in_ok-desk.desk I.begun here);
    }
