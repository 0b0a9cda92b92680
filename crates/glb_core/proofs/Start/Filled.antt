-- Lists that are changed member by member.
use Rattle.std.proofs.Common.{◌≡◌, ◌≢◌, ℕ, suc, ◌+◌, ◌<◌, ◌≤◌, List, [], ◌∷◌, ◌++◌, length, get_or}
use Rattle.std.proofs.Common.{set, map, refl, sym, ap, ◌∙◌, ⊎_elim, arith, length-set}
use Rattle.std.proofs.Common.{get_or-set_same, get_or-set_other, length-append}
use Rattle.std.proofs.lemmas.Bool.{cases_eq}
use Rattle.std.proofs.lemmas.List.{get_or_append_left, get_or_push}
use Rattle.glb_core.specs.declared.world.rows.PlaceRow.{PlaceRow}
use Rattle.glb_core.specs.inner.Start.{with_bag}
use Rattle.glb_core.proofs.Tables.EdgeRows.{get_or-any}

pub map_pointwise : {A C : Type 0} (f : A → C) (xs : List A) (ys : List C) → length ys ≡ length xs
    → ((i : ℕ) (d : C) (e : A) → i < length xs → get_or ys i d ≡ f (get_or xs i e)) → ys ≡ map f xs
map_pointwise f [] [] n h = refl
map_pointwise f [] (y ∷ ys) n h = absurd (omega arith)
map_pointwise f (x ∷ xs) [] n h = absurd (omega arith)
map_pointwise f (x ∷ xs) (y ∷ ys) n h =
    let rest : ys ≡ map f xs =
    map_pointwise f xs ys (omega arith) (λ i d e l. h (suc i) d e (omega arith)) in
    let here : y ≡ f x = h 0 y x (omega arith) in
    ap (λ z. z ∷ ys) here ∙ ap (λ zs. f x ∷ zs) rest

-- what holds of each member below the index holds of each member up to the one just set
pub pointwise_more : {A C : Type 0} (f : A → C) (xs : List A) (ys ys2 : List C) (i j : ℕ) (z : C)
    → j ≡ i + 1 → i < length ys → ys2 ≡ set ys i z → ((e : A) → z ≡ f (get_or xs i e))
    → ((k : ℕ) (d : C) (e : A) → k < i → get_or ys k d ≡ f (get_or xs k e))
    → (k : ℕ) (d : C) (e : A)
    → k < j → get_or ys2 k d ≡ f (get_or xs k e)
pointwise_more f xs ys ys2 i j z hj l hs here h k d e m = ⊎_elim
    (λ (o : k ≡ i). ap (λ q. get_or q k d) hs ∙ ap (λ q. get_or (set ys i z) q d) o
    ∙ get_or-set_same ys i z d l ∙ here e ∙ ap (λ q. f (get_or xs q e)) (sym o))
    (λ (o : k ≢ i). ap (λ q. get_or q k d) hs ∙ get_or-set_other ys i k z d o ∙ h k d e (omega arith))
    (cases_eq k i)

-- the members from the next index on stay
pub rest_stays : {A : Type 0} (xs ys ys2 : List A) (i j : ℕ) (z : A) → j ≡ i + 1 → ys2 ≡ set ys i z
    → ((k : ℕ) (d : A) → i ≤ k → get_or ys k d ≡ get_or xs k d) → (k : ℕ) (d : A) → j ≤ k
    → get_or ys2 k d ≡ get_or xs k d
rest_stays xs ys ys2 i j z hj hs h k d m = ap (λ q. get_or q k d) hs
    ∙ get_or-set_other ys i k z d (λ o. let p = o in omega arith) ∙ h k d (omega arith)

-- the bags that are left are laid into the rows from the last place on
pub record Filled {B I : Type 0} (items : B → List I) (all : List B) (first : List (PlaceRow B))
    (left : List B) (place_rows : List (PlaceRow B)) : Type 0 where
  pub number : length place_rows ≡ length first
  pub some : length left ≤ length all
  pub bags : (i : ℕ) (e : B) → i < length left → get_or left i e ≡ get_or all i e
  pub done : (i : ℕ) (d : PlaceRow B) (e : B) → length left ≤ i → i < length all
      → get_or place_rows i d ≡ with_bag items (get_or all i e) (get_or first i d)
  pub rest : (i : ℕ) (d : PlaceRow B) → i < length left → get_or place_rows i d ≡ get_or first i d

pub fill_round : {B I : Type 0} (items : B → List I) (all left left2 : List B)
    (first place_rows seats2 : List (PlaceRow B)) (b : B) (r r2 : PlaceRow B) (n : ℕ)
    → Filled items all first left place_rows → length first ≡ length all → left ≡ left2 ++ b ∷ []
    → n ≡ length left2 → r ≡ get_or place_rows n r → r2 ≡ with_bag items b r → seats2
    ≡ set place_rows n r2
    → Filled items all first left2 seats2
fill_round {B = B} items all left left2 first place_rows seats2 b r r2 n F same hl hn hr h2 hs =
    let long : length left ≡ length left2 + 1 = ap length hl ∙ length-append left2 (b ∷ []) in
    let below : n < length place_rows = let a = F.number in let c = F.some in omega arith in
    let last : (e : B) → b ≡ get_or all n e = λ e.
    sym (ap (λ q. get_or q n e) hl ∙ get_or_push left2 b e n (sym hn)) ∙ F.bags n e (omega arith) in
    let old : (d : PlaceRow B) → r ≡ get_or first n d = λ d. hr ∙ get_or-any place_rows n r d below
    ∙ F.rest n d (omega arith) in
    record {
      number = ap length hs ∙ length-set place_rows n r2 ∙ F.number;
      some = (let c = F.some in omega arith);
      bags = λ i e l. sym (ap (λ q. get_or q i e) hl ∙ get_or_append_left left2 (b ∷ []) e i l)
          ∙ F.bags i e (omega arith);
      done = λ i d e m l. ⊎_elim
          (λ (o : i ≡ n). ap (λ q. get_or q i d) hs ∙ ap (λ q. get_or (set place_rows n r2) q d) o
          ∙ get_or-set_same place_rows n r2 d below ∙ h2 ∙ ap (λ y. with_bag items y r) (last e)
          ∙ ap (with_bag items (get_or all n e)) (old d)
          ∙ ap (λ q. with_bag items (get_or all q e) (get_or first q d)) (sym o))
          (λ (o : i ≢ n). ap (λ q. get_or q i d) hs ∙ get_or-set_other place_rows n i r2 d o
          ∙ F.done i d e (omega arith) l)
          (cases_eq i n);
      rest = λ i d l. ap (λ q. get_or q i d) hs
          ∙ get_or-set_other place_rows n i r2 d (λ o. let p = o in omega arith) ∙ F.rest i d (omega arith);
    }
