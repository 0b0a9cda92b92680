use Rattle.std.proofs.Common.{◌≡◌, ◌∷◌, ◌++◌, [], map, ap, subst, ◌∙◌}
use Rattle.std.specs.Option.{option_to_list}
use Rattle.std.specs.Prelude.{IfSome}
use Rattle.std.proofs.lemmas.List.Elements.{All-pop}
use Rattle.glb_inbox.specs.inner.Close.{kept_of}
use Rattle.glb_inbox.proofs.GatheredDesks.{all_last, with_last, with_more}
use Rattle.glb_inbox.proofs.post.gather_all.Goals as goal

pub loop-desk-init : goal.loop-desk-init
loop-desk-init g c =
    let u = c.unwrap-last.ensures in
    let o = c.seat_of-all.ensures.one in
    let last = c.unwrap-last.result in
    let e = subst (λ o. c.args.desks.items ≡ c.pop.new.self.items ++ option_to_list o) u
    c.pop.ensures.items in
    let a = All-pop (λ d. d.home.table.table_id ≡ c.args.words.now.table_id) c.args.desks.items
    c.pop.new.self.items c.pop.result c.pop.ensures.items c.requires.table in
    let one = subst (λ o. IfSome o (λ d. d.home.table.table_id ≡ c.args.words.now.table_id)) u
    a.1 in
    record {
      table = c.seat_of-all.ensures.table ∙ one;
      free = ap (λ m. m.1) o.1;
      rest = a.0;
      places = (
        o.0 ∷ [],
        ap (λ m. m.0) o.1,
        with_last (λ d. d.kept) c.args.desks.items c.pop.new.self.items last o.0.kept e o.2,
      );
      numbers = λ h. all_last (λ d. d.kept.place ≡ d.home.place) c.args.desks.items
          c.pop.new.self.items last e h c.seat_of-all.ensures.number;
    }

pub loop-desk-preserved : goal.loop-desk-preserved
loop-desk-preserved g c =
    let h = c.pop-in-loop-desk.ensures.items in
    let u = c.in-Some.is in
    let I = c.loop-desk.invariant in
    let d = c.in-Some.desk in
    let o = c.seat_of-seat.ensures.one in
    let j = c.gather.ensures in
    let l = c.loop-desk.desks.items in
    let m = c.pop-in-loop-desk.new.self.items in
    let e = subst (λ o. l ≡ m ++ option_to_list o) u h in
    let a = All-pop (λ d. d.home.table.table_id ≡ c.args.words.now.table_id) l m
    c.pop-in-loop-desk.result h I.rest in
    let one = subst (λ o. IfSome o (λ d. d.home.table.table_id ≡ c.args.words.now.table_id)) u
    a.1 in
    let xs = I.places.0 in
    record {
      table = j.table ∙ c.seat_of-seat.ensures.table ∙ one;
      free = ap (λ m. m.1) j.me ∙ ap (λ m. m.1) o.1;
      rest = a.0;
      places = (
        o.0 ∷ xs,
        ap (λ m. m.0) j.me ∙ (λ i. (o.1 i).0 ++ I.places.1 i),
        with_more (λ d. d.kept) l m d o.0.kept (map kept_of xs) e o.2 ∙ I.places.2,
      );
      numbers = λ n. I.numbers
          (all_last (λ d. d.kept.place ≡ d.home.place) l m d e n c.seat_of-seat.ensures.number);
    }

pub gather-requires-clause-table : goal.gather-requires-clause-table
gather-requires-clause-table g c =
    let u = c.in-Some.is in
    let a = All-pop (λ d. d.home.table.table_id ≡ c.args.words.now.table_id) c.loop-desk.desks.items
    c.pop-in-loop-desk.new.self.items c.pop-in-loop-desk.result c.pop-in-loop-desk.ensures.items
    c.loop-desk.invariant.rest in
    let one = subst (λ o. IfSome o (λ d. d.home.table.table_id ≡ c.args.words.now.table_id)) u
    a.1 in
    (c.seat_of-seat.ensures.table ∙ one, c.loop-desk.invariant.table, c.requires.words)
