use Rattle.std.proofs.Common.{◌≡◌, ◌∙◌, ◌++◌, ◌∷◌, [], All, map, get_or, sym, subst, ap, arith}
use Rattle.std.proofs.Common.{length, append_assoc}
use Rattle.std.specs.List.Sorted.{IsPermutation}
use Rattle.std.proofs.lemmas.List.Elements.{All-push}
use Rattle.glb_turns.proofs.BagFacts.{Matches, matches_more, matches_length, matches_at, ended_list}
use Rattle.glb_run.proofs.roots.bags_of.Goals as goal

pub loop-list-preserved : goal.loop-list-preserved
loop-list-preserved g c =
    let pushed = sym c.in_ok-push.ensures.items in
    record {
      whole = c.loop-list.invariant.whole
          ∙ ap (λ l. c.loop-list.yielded ++ l) c.in-Some.ensures.steps.0
          ∙ sym (append_assoc c.loop-list.yielded (c.in-Some.list ∷ []) c.next.new.self.rest.items);
      fits = subst (All (λ b. g.B.Bag.fits b c.args.program.now)) pushed
          (All-push (λ b. g.B.Bag.fits b c.args.program.now) c.loop-list.bags.items
          c.in_ok-bag_of.field-0 c.loop-list.invariant.fits c.in_ok-bag_of.ensures.fits);
      matches = subst
          (Matches (λ v. v.items) g.B.Bag.items (c.loop-list.yielded ++ c.in-Some.list ∷ [])) pushed
          (matches_more _ g.B.Bag.items c.loop-list.yielded c.loop-list.bags.items c.in-Some.list
          c.in_ok-bag_of.field-0 c.loop-list.invariant.matches c.in_ok-bag_of.ensures.items);
    }

pub returns-clause-many : goal.returns-clause-many
returns-clause-many g c =
    let none : length c.loop-list.list-iterator.rest.items ≡ 0 =
    omega (arith, c.loop-list.list-iterator.rest.ok.0, c.in-None.ensures.steps.0)
    in
    let whole =
    ended_list c.args.roots.items c.loop-list.yielded _ c.loop-list.invariant.whole none
    in
    let same =
    matches_length _ g.B.Bag.items c.loop-list.yielded c.loop-list.bags.items
    c.loop-list.invariant.matches
    in
    omega (arith, c.loop-list.bags.ok.0, c.args.roots.ok.0, same, ap length whole)

pub returns-clause-items : goal.returns-clause-items
returns-clause-items g c = λ p.
    let none : length c.loop-list.list-iterator.rest.items ≡ 0 =
    omega (arith, c.loop-list.list-iterator.rest.ok.0, c.in-None.ensures.steps.0)
    in
    let whole =
    ended_list c.args.roots.items c.loop-list.yielded _ c.loop-list.invariant.whole none
    in
    let at =
    matches_at _ g.B.Bag.items c.loop-list.yielded c.loop-list.bags.items
    c.loop-list.invariant.matches p
    in
    subst (λ l. IsPermutation (get_or (map (λ v. v.items) l) p [])
    (get_or (map g.B.Bag.items c.loop-list.bags.items) p [])) (sym whole) at
