-- Items that are dealt out to places.
use Rattle.std.proofs.Common.{◌≡◌, ◌≢◌, ℕ, zero, suc, ◌+◌, ◌%◌, ◌<◌, List, [], ◌∷◌, ◌++◌, length}
use Rattle.std.proofs.Common.{get_or, set, refl, sym, ap, subst, ◌∙◌, arith, append_assoc, append-nil}
use Rattle.std.proofs.Common.{⊎_elim}
use Rattle.std.specs.List.Sorted.{IsPermutation}
use Rattle.std.proofs.lemmas.Bool.{cases_eq, eq-eqb, ne_eqb}
use Rattle.std.proofs.lemmas.List.{get_or-set_same, get_or-set_other}
use Rattle.std.proofs.lemmas.List.Sorted.{IsPermutation-refl, IsPermutation-trans, IsPermutation-cons}
use Rattle.std.proofs.lemmas.List.Sorted.{IsPermutation-sym}
use Rattle.std.proofs.lemmas.Nat.{mod_below}
use Rattle.glb_laws.specs.Joins.{join_to}
use Rattle.glb_laws.proofs.Joins.{join_split}
use Rattle.glb_tree.specs.Spread.{dealt, dealt_from}

module _ {X : Type 0} where
  -- the next item is for the place
  dealt_here : (places p n : ℕ) (x : X) (rest : List X) → n % places ≡ p
      → dealt_from places p n (x ∷ rest) ≡ x ∷ dealt_from places p (n + 1) rest
  dealt_here places p n x rest e = rw (eq-eqb (n % places) p e) refl

  -- the next item is for another place
  dealt_there : (places p n : ℕ) (x : X) (rest : List X) → n % places ≢ p
      → dealt_from places p n (x ∷ rest) ≡ dealt_from places p (n + 1) rest
  dealt_there places p n x rest e = rw (ne_eqb (n % places) p e) refl

  -- the next item was put behind those of its place
  pub put_behind : (places p n i : ℕ) (lists : List (List X)) (x : X) (rest whole grown : List X)
      → n % places ≡ i → i < length lists → grown ≡ get_or lists i [] ++ x ∷ []
      → get_or lists p [] ++ dealt_from places p n (x ∷ rest) ≡ whole
      → get_or (set lists i grown) p [] ++ dealt_from places p (n + 1) rest ≡ whole
  put_behind places p n i lists x rest whole grown here low e so_far =
      let later : List X = dealt_from places p (n + 1) rest in
      ⊎_elim
      (λ (same : p ≡ i).
      let first : get_or (set lists i grown) p [] ≡ get_or lists p [] ++ x ∷ [] =
      rw same (get_or-set_same lists i grown [] low ∙ e) in
      ap (λ l. l ++ later) first ∙ append_assoc (get_or lists p []) (x ∷ []) later
      ∙ ap (λ l. get_or lists p [] ++ l) (sym (dealt_here places p n x rest (here ∙ sym same)))
      ∙ so_far)
      (λ (other : p ≢ i).
      ap (λ l. l ++ later) (get_or-set_other lists i p grown [] other)
      ∙ ap (λ l. get_or lists p [] ++ l)
      (sym (dealt_there places p n x rest (λ h. other (sym h ∙ here)))) ∙ so_far)
      (cases_eq p i)

  -- no item was put anywhere yet
  pub at_first : (places p : ℕ) (mine items rest : List X) → mine ≡ [] → items ≡ rest
      → mine ++ dealt_from places p 0 rest ≡ dealt places items p
  at_first places p mine items rest none e =
      ap (λ l. l ++ dealt_from places p 0 rest) none ∙ ap (dealt_from places p 0) (sym e)

  -- no item is left
  pub at_last : (places p n : ℕ) (mine rest whole : List X) → length rest ≡ 0
      → mine ++ dealt_from places p n rest ≡ whole → mine ≡ whole
  at_last places p n mine [] whole none e = sym (append-nil mine) ∙ e
  at_last places p n mine (x ∷ rest) whole none e = absurd (omega arith)

  -- nothing is dealt out of no items
  none_joined : (places n k : ℕ) → join_to k (λ p. dealt_from {X = X} places p n []) ≡ []
  none_joined places n zero = refl
  none_joined places n (suc k) = ap (λ l. l ++ []) (none_joined places n k)

  -- what is dealt out, joined, is the items
  joined_from : (places n : ℕ) → 0 < places → (xs : List X)
      → IsPermutation (join_to places (λ p. dealt_from places p n xs)) xs
  joined_from places n some [] = rw (none_joined places n places) (IsPermutation-refl [])
  joined_from places n some (x ∷ xs) =
      let i : ℕ = n % places in
      let f : ℕ → List X = λ p. dealt_from places p n (x ∷ xs) in
      let g : ℕ → List X = λ p. dealt_from places p (n + 1) xs in
      let r = join_split places i f g (mod_below n places some)
      (λ j low other. sym (dealt_there places j n x xs (λ h. other (sym h)))) in
      let head : f i ++ r.0 ≡ x ∷ (g i ++ r.0) = ap (λ l. l ++ r.0) (dealt_here places i n x xs refl) in
      let first = subst (IsPermutation (join_to places f)) head r.1 in
      let rest = IsPermutation-trans _ _ _ (IsPermutation-sym _ _ r.2) (joined_from places (n + 1) some xs) in
      IsPermutation-trans _ _ _ first (IsPermutation-cons x _ _ rest)

  -- the lists of all places, joined, are the items
  pub joined_dealt : (places : ℕ) → 0 < places → (xs : List X)
      → IsPermutation (join_to places (dealt places xs)) xs
  joined_dealt places some xs = joined_from places 0 some xs
