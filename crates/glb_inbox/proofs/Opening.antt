-- The table that is made meets its rule, and seats are dealt from its first seat.
use Rattle.std.proofs.Common.{◌≡◌, ℕ, zero, suc, ◌+◌, List, [], ◌∷◌, ◌++◌, map, get_or, length}
use Rattle.std.proofs.Common.{refl, sym, ap, subst, ◌∙◌, arith, append-nil, IsPermutation, sum_by}
use Rattle.std.proofs.Common.{length-append}
use Rattle.std.proofs.lemmas.List.Sums.{sum_by-cons}
use Rattle.std.proofs.lemmas.List.Sorted.{IsPermutation-append_comm, IsPermutation-append_left}
use Rattle.std.proofs.lemmas.List.Sorted.{IsPermutation-refl}
use Rattle.std.specs.declared.snapshot.Snapshot.{Snapshot}
use Rattle.atomic_table.specs.Table.{opening, Splits}
use Rattle.glb_cube.specs.Lines.{IsCube}
use Rattle.glb_laws.specs.Sums.{sum_to}
use Rattle.glb_rules.specs.Joins.{join_to}
use Rattle.glb_rules.specs.World.{credit_count}
use Rattle.glb_rules.specs.Setups.{IsWithinLimits, has_items}
use Rattle.glb_rules.specs.History.{first_credit}
use Rattle.glb_core.proofs.Lifelines.Setups.{proper}
use Rattle.glb_inbox.specs.declared.rule.Start.{Start}
use Rattle.glb_inbox.specs.declared.view.Member.{Member}
use Rattle.glb_inbox.specs.declared.view.Member.TheVariants.{Place}
use Rattle.glb_inbox.specs.inner.Members.{total, credits}
use Rattle.glb_inbox.specs.inner.Views.{first_of, rest_of}
use Rattle.glb_inbox.specs.inner.Rule.{Job, IsGoodJob, Ruled, Holds}
use Rattle.glb_inbox.specs.Viewing.{bag_lists}
use Rattle.glb_inbox.specs.inner.Begins.{job_of, bags_of, first_members, first_seat}
use Rattle.glb_inbox.specs.inner.Begins.{live_of}
use Rattle.glb_inbox.proofs.Tabled.{split_step}
use Rattle.glb_inbox.proofs.Exchange.{ruled_permutation}
use Rattle.glb_inbox.proofs.Starting.{start_ruled, total_join}

-- the first term of a sum
sum_front : (n : ℕ) (f : ℕ → ℕ) → sum_to (suc n) f ≡ f 0 + sum_to n (λ p. f (suc p))
sum_front zero f = omega arith
sum_front (suc n) f = let e = sum_front n f in omega arith

live_worth : {I : Type 0} (xs : List I) → credit_count (first_credit (has_items xs)) ≡ live_of xs
live_worth [] = refl
live_worth (x ∷ xs) = refl

live_sum : {B I : Type 0} (items : B → List I) (bs : List B) → sum_by (λ b. live_of (items b)) bs
    ≡ sum_to (length bs) (λ p. credit_count (first_credit (has_items (get_or (map items bs) p []))))
live_sum items [] = refl
live_sum items (b ∷ bs) =
    let e = live_sum items bs in
    let c : sum_by (λ b. live_of (items b)) (b ∷ bs) ≡ live_of (items b) + sum_by
    (λ b. live_of (items b)) bs = sum_by-cons (λ b. live_of (items b)) b bs in
    let f = sum_front (length bs)
    (λ p. credit_count (first_credit (has_items (get_or (map items (b ∷ bs)) p [])))) in
    let w = live_worth (items b) in
    omega arith

map_map : {A B C : Type 0} (f : A → B) (g : B → C) (xs : List A) → map g (map f xs)
    ≡ map (λ x. g (f x)) xs
map_map f g [] = refl
map_map f g (x ∷ xs) = ap (λ l. g (f x) ∷ l) (map_map f g xs)

pub length_members : {A : Type 0} (n : ℕ) (g : ℕ → A) → length (join_to n (λ p. g p ∷ [])) ≡ n
length_members zero g = refl
length_members (suc n) g = let e =
    length_members n g in omega (arith, length-append (join_to n (λ p. g p ∷ [])) (g n ∷ []))

module _ {P B I : Type 0} (children : P → I → List I) (items : B → List I) (key : Start P B) where
  pub lists_are : (bs : List B) → map (λ (s : Snapshot B). s.value) key.bags.items ≡ bs
      → bag_lists items key.bags.items ≡ map items bs
  lists_are bs are = sym (map_map (λ (s : Snapshot B). s.value) items key.bags.items)
      ∙ ap (map items) are

  pub opens : (bs : List B) → map (λ (s : Snapshot B). s.value) key.bags.items ≡ bs
      → IsWithinLimits key.params → key.lines.value.places ≡ key.params.places
      → IsCube key.lines.value → length bs ≡ key.params.places
      → Holds (job_of children items key)
      (opening (sum_by (λ b. live_of (items b)) bs ∷ 0 ∷ 0 ∷ []) []
      (first_members children items key))
  opens bs are L places cube many =
      let j = job_of children items key in
      let good : IsGoodJob j = record {
        limits = L;
        places = places;
        proper = proper key.lines.value key.params j.awake cube (sym places)
            (let b = L.batch.0 in omega arith);
      } in
      let R = start_ruled j (bags_of children items key) (λ p. refl) good refl in
      record {
        live = sum_by (λ b. live_of (items b)) bs;
        items = 0;
        stop = 0;
        words = refl;
        ruled = rw (append-nil (first_members children items key))
            (subst (λ n. Ruled j n 0 0 (first_members children items key)) (sym live_is) R);
      }
    where
      lists : bag_lists items key.bags.items ≡ map items bs
      lists = sym (map_map (λ (s : Snapshot B). s.value) items key.bags.items) ∙ ap (map items) are

      live_is : sum_by (λ b. live_of (items b)) bs ≡ total credits
          (first_members children items key)
      live_is =
          live_sum items bs
          ∙ ap (λ l. sum_to (length bs)
          (λ p. credit_count (first_credit (has_items (get_or l p []))))) (sym lists)
          ∙ ap (λ n. sum_to n (λ p.
          credit_count (first_credit (has_items (bags_of children items key p)))))
          (many ∙ sym places)
          ∙ sym (total_join credits
          (λ p. Place (first_seat (job_of children items key) (bags_of children items key) p))
          key.lines.value.places)

module _ {I : Type 0} (j : Job I) where
  pub may_deal : (id : ℕ) (v : List (Member I))
      → Splits {S = ℕ} (Holds j) id v (rest_of v) (first_of v)
  may_deal id v = split_step j id v (rest_of v) (first_of v)
      (λ live items stop rest R. ruled_permutation j live items stop _ _ (flip v rest) R)
    where
      flip : (v rest : List (Member I))
          → IsPermutation (v ++ rest) ((rest_of v ++ first_of v) ++ rest)
      flip [] rest = IsPermutation-append_left rest [] [] (IsPermutation-refl [])
      flip (m ∷ v) rest = IsPermutation-append_left rest (m ∷ v) (v ++ m ∷ [])
          (IsPermutation-append_comm (m ∷ []) v)
