use Rattle.std.proofs.Common.{ℕ, ◌≡◌, ◌∙◌, ◌++◌, ◌∷◌, ◌+◌, ◌<◌, ◌%◌, [], length, get_or, map}
use Rattle.std.proofs.Common.{ap, sym, refl, arith, append_assoc, length-append}
use Rattle.std.proofs.lemmas.List.{map-set, get_or-map, length-map}
use Rattle.std.proofs.lemmas.Nat.{mod_below}
use Rattle.glb_tree.specs.Spread.{dealt_from}
use Rattle.glb_tree.proofs.Dealing.{put_behind, at_first, at_last}
use Rattle.glb_tree.proofs.deal.spread.Goals as goal

pub loop-child-init : goal.loop-child-init
loop-child-init g c =
    let whole : g.P.Program.children c.args.program.now c.args.root ≡ c.into_iter-child-iterator.result.rest.items =
    sym (c.into_iter-child-iterator.ensures.into_iter_gives.0 ∙ c.in_ok-expand.ensures.appended
    ∙ ap (λ l. l ++ g.P.Program.children c.args.program.now c.args.root) c.new-children.ensures.items)
    in
    record {
      many = c.in_ok-lists.ensures.many;
      number = refl;
      whole = whole;
      dealt = λ p low. at_first c.args.places p _ _ _ (c.in_ok-lists.ensures.none p) whole;
    }

pub index_mut-list-requires : goal.index_mut-list-requires
index_mut-list-requires g c =
    omega (arith, mod_below c.loop-child.number c.args.places (omega (arith, c.requires.places.0)), c.loop-child.invariant.many)

pub overflow_add-number : goal.overflow_add-number
overflow_add-number g c =
    omega (arith, c.loop-child.invariant.number, ap length c.loop-child.invariant.whole, length-append c.loop-child.yielded c.loop-child.child-iterator.rest.items, c.requires.few)

pub loop-child-preserved : goal.loop-child-preserved
loop-child-preserved g c = record {
  many = c.loop-child.invariant.many;
  number = omega (arith, length-append c.loop-child.yielded (c.in-Some.child ∷ []), c.loop-child.invariant.number);
  whole = c.loop-child.invariant.whole
      ∙ ap (λ l. c.loop-child.yielded ++ l) c.in-Some.ensures.steps.0
      ∙ sym (append_assoc c.loop-child.yielded (c.in-Some.child ∷ []) c.next.new.self.rest.items);
  dealt = λ p low.
      let place : ℕ = c.loop-child.number % c.args.places in
      let within : place < length c.loop-child.lists.items =
      omega (
        arith,
        mod_below c.loop-child.number c.args.places (omega (arith, c.requires.places.0)),
        c.loop-child.invariant.many,
        c.loop-child.lists.ok.0,
      )
      in
      let grown = c.in_ok-push.ensures.items
      ∙ ap (λ l. l ++ c.in-Some.child ∷ []) (ap (λ v. v.items) c.index_mut-list.ensures.value
      ∙ sym (get_or-map (λ v. v.items) c.loop-child.lists.items place _ [] within))
      in
      let so_far = ap (λ l. get_or (map (λ v. v.items) c.loop-child.lists.items) p []
      ++ dealt_from c.args.places p c.loop-child.number l) (sym c.in-Some.ensures.steps.0)
      ∙ c.loop-child.invariant.dealt p low
      in
      ap (λ l. get_or l p [] ++ dealt_from c.args.places p (c.loop-child.number + 1) c.next.new.self.rest.items)
      (map-set (λ v. v.items) c.loop-child.lists.items place c.push.new.self)
      ∙ put_behind c.args.places p c.loop-child.number place (map (λ v. v.items) c.loop-child.lists.items)
      c.in-Some.child c.next.new.self.rest.items _ c.push.new.self.items refl
      (omega (arith, within, length-map c.loop-child.lists.items (λ v. v.items))) grown so_far;
}

pub returns-clause-dealt : goal.returns-clause-dealt
returns-clause-dealt g c = λ p low.
    let none : length c.loop-child.child-iterator.rest.items ≡ 0 =
    omega (arith, c.loop-child.child-iterator.rest.ok.0, c.in-None.ensures.steps.0) in
    at_last c.args.places p c.loop-child.number _ _ _ none (c.loop-child.invariant.dealt p low)
