use Rattle.std.proofs.Common.{◌++◌, ◌∷◌, [], List, ◌≡◌, ◌∙◌, ap, subst, append_assoc}
use Rattle.std.specs.List.Sorted.{IsPermutation}
use Rattle.std.proofs.lemmas.List.Sorted.{IsPermutation-trans, IsPermutation-append_right}
use Rattle.glb_tree.proofs.run.bag_of.Goals as goal

-- the last root goes from the list into the bag
one_more : {X : Type 0} (roots left left' bag bag' : List X) (x : X)
    → IsPermutation roots (left ++ bag) → left ≡ left' ++ x ∷ [] → IsPermutation (x ∷ bag) bag'
    → IsPermutation roots (left' ++ bag')
one_more roots left left' bag bag' x s e t =
    let same : left ++ bag ≡ left' ++ (x ∷ bag) =
    ap (λ l. l ++ bag) e ∙ append_assoc left' (x ∷ []) bag in
    IsPermutation-trans _ _ _ (subst (IsPermutation roots) same s)
    (IsPermutation-append_right left' (x ∷ bag) bag' t)

pub loop-root-preserved : goal.loop-root-preserved
loop-root-preserved g c = record {
  items = one_more _ _ _ _ _ c.in-Some.root c.loop-root.invariant.items c.in-Some.ensures.items
      c.in-Ok.ensures.added;
  fits = c.add.ensures.fits.kept c.args.program.now c.loop-root.invariant.fits;
}
