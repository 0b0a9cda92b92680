-- What a place holds after each action.
use Rattle.std.specs.Prelude.{Some, None, Option}
use Rattle.std.proofs.Common.{◌≡◌, ◌≢◌, ℕ, ◌+◌, ◌<◌, ◌≤◌, List, [], ◌∷◌, ◌++◌, length, length-append, refl, sym, ap, ◌∙◌, subst, arith}
use Rattle.std.specs.List.Sorted.{IsPermutation}
use Rattle.std.proofs.lemmas.List.Sorted.{IsPermutation-refl, IsPermutation-sym, IsPermutation-trans, IsPermutation-append_right, IsPermutation-append_comm, length_permutation}
use Rattle.glb_laws.specs.Monoid.{MonoidLaws}
use Rattle.glb_laws.specs.Expansion.{combined, Expands}
use Rattle.glb_laws.proofs.Expansions.{moves_before, combined-append}
use Rattle.glb_laws.proofs.Shuffles.{combined_proper}
use Rattle.glb_core.specs.Counters.{counters_of}
use Rattle.glb_rules.specs.Lawful.{PhaseFits}
use Rattle.glb_rules.specs.declared.kinds.Credit.{Credit}
use Rattle.glb_rules.specs.declared.kinds.Credit.TheVariants as credit
use Rattle.glb_rules.specs.declared.kinds.Phase.TheVariants as phase
use Rattle.glb_stats.specs.declared.counters.Counters.{Counters}
use Rattle.glb_place.specs.declared.record.Record.{Record}
use Rattle.glb_place.specs.Calls.{Settles}
use Rattle.glb_place.specs.Places.{spare_items}
use Rattle.glb_place.specs.declared.turn.Ended.{Ended}
use Rattle.glb_place.specs.declared.holding.Holding.{Holding}
use Rattle.glb_place.specs.inner.Standing.{Holds, HoldsAt, IsPlace}
use Rattle.glb_laws.proofs.Cancelling.{cancels}

module _ {X V : Type 0} {IsProper : V → Type 0} {unit : V} {combine : V → V → V}
    (laws : MonoidLaws IsProper unit combine) (value : X → V)
    (proper : (x : X) → IsProper (value x)) where
  -- combined from t, and then with s, or from both at once
  combined_from : (xs : List X) (s t : V) → IsProper s → IsProper t
      → combine s (combined value combine t xs) ≡ combined value combine (combine s t) xs
  combined_from [] s t p q = refl
  combined_from (x ∷ xs) s t p q =
      combined_from xs s (combine t (value x)) p (laws.combine_proper t (value x) q (proper x))
      ∙ ap (λ v. combined value combine v xs) (laws.assoc s t (value x) p q (proper x))

  -- what is combined from the unit, and then with s, is combined from s
  pub combined_after : (xs : List X) (s : V) → IsProper s
      → combine s (combined value combine unit xs) ≡ combined value combine s xs
  combined_after xs s p = combined_from xs s unit p laws.unit_proper
      ∙ ap (λ v. combined value combine v xs) (laws.right_unit s p)

module _ {B I V Q : Type 0} (items : B → List I) (fits : B → Q → Type 0) (value : Q → I → V)
    (unit : V)
    (combine : V → V → V) (q : Q) (r : Record I) (bag : B) (spare : Option B) (sum : V)
    (counters : Counters)
    (H : Holds items fits value unit combine q r bag spare sum counters) where
  -- the record's items, those done and their number stay
  pub holds_as : (new : Record I) (counts : Counters) → new.local.bag ≡ r.local.bag → new.local.done
      ≡ r.local.done
      → new.local.count.items ≡ r.local.count.items → counts ≡ counters_of new.local.count
      → Holds items fits value unit combine q new bag spare sum counts
  holds_as new counts same done number counted = record {
    carried = subst (λ xs. IsPermutation xs (spare_items items spare ++ items bag)) (sym same)
        H.carried;
    folded = H.folded ∙ ap (combined (value q) combine unit) (sym done);
    counted = number ∙ H.counted ∙ ap length (sym done);
    counters_are = counted;
    bag_fits = H.bag_fits;
    spare_fits = H.spare_fits;
  }

  -- with nothing split off the bag has the record's items
  pub carried_whole : spare ≡ None → IsPermutation r.local.bag (items bag)
  carried_whole e = subst (λ s. IsPermutation r.local.bag (spare_items items s ++ items bag))
      e H.carried

  -- a bag that can be split in the record can be split
  pub mint_parts : spare ≡ None → 1 < length r.local.bag → 2 ≤ length (items bag)
  mint_parts e l = let s = length_permutation _ _ (carried_whole e) in omega arith

  -- a part was split off
  pub holds_split : (new : Record I) (part left : B) → spare ≡ None
      → IsPermutation (items bag) (items part ++ items left) → fits left q → fits part q
      → new.local.bag ≡ r.local.bag → new.local.done ≡ r.local.done → new.local.count ≡ r.local.count
      → Holds items fits value unit combine q new left (Some part) sum counters
  holds_split new part left e s f g same done number = record {
    carried = subst (λ xs. IsPermutation xs (items part ++ items left)) (sym same)
        (IsPermutation-trans _ _ _ (carried_whole e) s);
    folded = H.folded ∙ ap (combined (value q) combine unit) (sym done);
    counted = ap (λ c. c.items) number ∙ H.counted ∙ ap length (sym done);
    counters_are = H.counters_are ∙ ap counters_of (sym number);
    bag_fits = f;
    spare_fits = g;
  }

  -- the bag is another, with the same items
  pub holds_again : (left : B) → spare ≡ None → IsPermutation (items bag) (items left) → fits left q
      → Holds items fits value unit combine q r left spare sum counters
  holds_again left e s f = record {
    carried = subst (λ o. IsPermutation r.local.bag (spare_items items o ++ items left)) (sym e)
        (IsPermutation-trans _ _ _ (carried_whole e) s);
    folded = H.folded;
    counted = H.counted;
    counters_are = H.counters_are;
    bag_fits = f;
    spare_fits = H.spare_fits;
  }

  -- the part was given
  pub holds_gave : (new : Record I) (part : B) (rest : List I) (counts : Counters) → spare
      ≡ Some part
      → IsPermutation r.local.bag (items part ++ rest) → new.local.bag ≡ rest → new.local.done
      ≡ r.local.done
      → new.local.count.items ≡ r.local.count.items → counts ≡ counters_of new.local.count
      → Holds items fits value unit combine q new bag None sum counts
  holds_gave new part rest counts e s same done number counted =
      let c = subst (λ o. IsPermutation r.local.bag (spare_items items o ++ items bag))
      e H.carried in record {
        carried = subst (λ xs. IsPermutation xs (items bag)) (sym same)
            (cancels (items part) rest (items bag)
            (IsPermutation-trans _ _ _ (IsPermutation-sym _ _ s) c));
        folded = H.folded ∙ ap (combined (value q) combine unit) (sym done);
        counted = number ∙ H.counted ∙ ap length (sym done);
        counters_are = counted;
        bag_fits = H.bag_fits;
        spare_fits = tt;
      }

  -- the part that is split off, and what is left beside it
  pub give_rest : (part : B) → spare ≡ Some part → 0 < length (items bag)
      → (rest : List I) × IsPermutation r.local.bag (items part ++ rest) × (0 < length rest)
  give_rest part e l = (
    items bag,
    subst (λ o. IsPermutation r.local.bag (spare_items items o ++ items bag))
        e H.carried,
    l,
  )

  -- how many items are left when the part is given
  pub give_long : (part : B) (rest : List I) → spare ≡ Some part
      → IsPermutation r.local.bag (items part ++ rest)
      → length rest ≡ length (items bag)
  give_long part rest e s =
      let c = subst (λ o. IsPermutation r.local.bag (spare_items items o ++ items bag))
      e H.carried in
      let a = length_permutation _ _ s in
      let b = length_permutation _ _ c in
      omega (arith, length-append (items part) rest, length-append (items part) (items bag))

  -- a part was taken in
  pub holds_took : (new : Record I) (part : List I) (both : B) (counts : Counters) → spare ≡ None
      → IsPermutation (items bag ++ part) (items both) → fits both q
      → new.local.bag ≡ part ++ r.local.bag → new.local.done ≡ r.local.done
      → new.local.count.items ≡ r.local.count.items → counts ≡ counters_of new.local.count
      → Holds items fits value unit combine q new both spare sum counts
  holds_took new part both counts e s f same done number counted = record {
    carried = subst (λ o. IsPermutation new.local.bag (spare_items items o ++ items both)) (sym e)
        (subst (λ xs. IsPermutation xs (items both)) (sym same)
        (IsPermutation-trans _ _ _ (IsPermutation-append_right part _ _ (carried_whole e))
        (IsPermutation-trans _ _ _ (IsPermutation-append_comm part (items bag)) s)));
    folded = H.folded ∙ ap (combined (value q) combine unit) (sym done);
    counted = number ∙ H.counted ∙ ap length (sym done);
    counters_are = counted;
    bag_fits = f;
    spare_fits = H.spare_fits;
  }

  -- how many items there are then
  pub take_long : (part : List I) (both : B) → spare ≡ None
      → IsPermutation (items bag ++ part) (items both)
      → length (items both) ≡ length (part ++ r.local.bag)
  take_long part both e s =
      let a = length_permutation _ _ s in
      let b = length_permutation _ _ (carried_whole e) in
      omega (arith, length-append (items bag) part, length-append part r.local.bag)

  -- a part that could not be taken in is kept beside the bag
  pub holds_beside : (new : Record I) (part both : B) (counts : Counters) → spare ≡ None
      → items both ≡ items bag → fits both q → fits part q
      → new.local.bag ≡ items part ++ r.local.bag → new.local.done ≡ r.local.done
      → new.local.count.items ≡ r.local.count.items → counts ≡ counters_of new.local.count
      → Holds items fits value unit combine q new both (Some part) sum counts
  holds_beside new part both counts e s f g same done number counted = record {
    carried = subst (λ xs. IsPermutation xs (items part ++ items both)) (sym same)
        (subst (λ ys. IsPermutation (items part ++ r.local.bag) (items part ++ ys)) (sym s)
        (IsPermutation-append_right (items part) _ _ (carried_whole e)));
    folded = H.folded ∙ ap (combined (value q) combine unit) (sym done);
    counted = number ∙ H.counted ∙ ap length (sym done);
    counters_are = counted;
    bag_fits = f;
    spare_fits = g;
  }

  -- what was expanded from the bag was expanded from the record's items
  pub batch_moves : spare ≡ None → (children : I → List I) (start gain : V) (k : ℕ) (left : List I)
      → Expands children (value q) combine (items bag) start k left gain
      → Expands children (value q) combine r.local.bag start k left gain
  batch_moves e children start gain k left x = record {
    taken = x.taken;
    number = x.number;
    moves = moves_before children r.local.bag (items bag) x.taken left (carried_whole e) x.moves;
    value_is = x.value_is;
  }

  -- a bag that is to be expanded is not empty
  pub batch_some : spare ≡ None → r.local.phase ≡ phase.Working
      → PhaseFits r.local.phase r.local.credit (length r.local.bag) → items bag ≢ []
  batch_some e works f none =
      let n = (subst (λ y. PhaseFits y r.local.credit (length r.local.bag)) works f).0 in
      let l = length_permutation _ _ (carried_whole e) in
      let k = ap length none in
      omega arith

  -- a batch was settled
  pub holds_settled : {IsProper : V → Type 0} → MonoidLaws IsProper unit combine
      → ((x : I) → IsProper (value q x)) → spare ≡ None
      → (children : I → List I) (done : ℕ) (left : B) (gain : V)
      (total : ℕ) (new : Record I) (counts : Counters)
      → Settles children (value q) unit combine done (items left) gain total r new → fits left q
      → counts ≡ counters_of (record (r.local.count) { items = r.local.count.items + done })
      → Holds items fits value unit combine q new left spare (combine sum gain) counts
  holds_settled laws proper e children done left gain total new counts x f counted =
      let taken = x.0 in
      subst (λ n. Holds items fits value unit combine q n left spare (combine sum gain) counts)
      (sym x.4) (record {
        carried = subst (λ o. IsPermutation (items left) (spare_items items o ++ items left))
            (sym e)
            (IsPermutation-refl (items left));
        folded =
            let p = combined_proper laws (value q) proper taken unit laws.unit_proper in
            let d = combined_proper laws (value q) proper r.local.done unit laws.unit_proper in
            ap (combine sum) x.3
            ∙ ap (λ v. combine v (combined (value q) combine unit taken)) H.folded
            ∙ combined_after laws (value q) proper taken _ d
            ∙ sym (combined-append children (value q) combine r.local.done taken unit);
        counted = let c = H.counted in omega (arith, length-append r.local.done taken);
        counters_are = counted
            ∙ ap (λ n. counters_of (record (r.local.count) { items = r.local.count.items + n }))
            (sym x.1);
        bag_fits = f;
        spare_fits = H.spare_fits;
      })

-- a credit is One or Minted, and not both
pub one_not_minted : (c : Credit) → c ≡ credit.One → c ≢ credit.Minted
one_not_minted c e m = let d : credit.One ≡ credit.Minted = sym e ∙ m in cc

-- a place holds what it does, whether it has ended or not
pub holds_of_place : {B F V I Q : Type 0} (items : B → List I) (fits : B → Q → Type 0)
    (value : Q → I → V) (unit : V) (combine : V → V → V) (program : F → Q) (kept : F → Record I)
    (ended : Option Ended) (h : Holding B F V)
    → IsPlace items fits value unit combine program kept ended h
    → HoldsAt items fits value unit combine program kept h
holds_of_place items fits value unit combine program kept None h stands = stands.holds
holds_of_place items fits value unit combine program kept (Some e) h left = left.0
