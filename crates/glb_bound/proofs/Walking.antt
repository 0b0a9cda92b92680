-- Walks that leave out what cannot be better.
use Rattle.std.proofs.Common.{◌≡◌, ℕ, ◌+◌, ◌<◌, ◌≤◌, List, [], ◌∷◌, ◌++◌, length}
use Rattle.std.proofs.Common.{refl, sym, subst, ap, ◌∙◌, arith, length-append, append_assoc}
use Rattle.std.specs.Prelude.{All, IsPermutation}
use Rattle.std.proofs.lemmas.List.Elements.{All-append, All-cons, All-nil, All-contains}
use Rattle.std.proofs.lemmas.List.Elements.{Contains-append_left, Contains-append_right}
use Rattle.std.proofs.lemmas.List.Sorted.{IsPermutation-refl}
use Rattle.std.proofs.lemmas.List.Sorted.{IsPermutation-append_left}
use Rattle.std.proofs.lemmas.List.Sorted.{IsPermutation-append_comm}
use Rattle.glb_laws.specs.Expansion.{Expansion}
use Rattle.glb_laws.proofs.Expansions.{expansion_start, expansion_order, expansion_more, moves_first}
use Rattle.glb_tree.proofs.Sizes.{never_more}
use Rattle.glb_tree.specs.Runs.{IsTooMany}
use Rattle.glb_bound.specs.Best.{IsNode, IsBest}
use Rattle.glb_bound.specs.inner.Walks.{Visits, IsWalked, TakesBest}
use Rattle.glb_bound.specs.inner.Places.{Passes}
use Rattle.glb_bound.proofs.Members.{left_are_nodes, root_is_node, either}
use Rattle.glb_bound.proofs.Covers.{expansion_covers, all_covered_by_cap}

module _ {X : Type 0} where
  -- the last of some items, before others, comes first
  last_first : (before others : List X) (x : X)
      → IsPermutation ((before ++ x ∷ []) ++ others) (x ∷ before ++ others)
  last_first before others x =
      IsPermutation-append_left others _ _ (IsPermutation-append_comm before (x ∷ []))

  -- new items go behind those before
  behind : (new before others : List X)
      → IsPermutation (new ++ (before ++ others)) ((before ++ new) ++ others)
  behind new before others =
      subst (λ l. IsPermutation l ((before ++ new) ++ others)) (append_assoc new before others)
      (IsPermutation-append_left others _ _ (IsPermutation-append_comm new before))

  -- or among the others
  among : (new before others : List X)
      → IsPermutation (new ++ (before ++ others)) (before ++ (new ++ others))
  among new before others =
      subst (IsPermutation (new ++ (before ++ others))) (append_assoc before new others)
      (behind new before others)

  -- what is not above a number is not above a greater one
  pub All-raise : (f : X → ℕ) (a b : ℕ) (xs : List X) → a ≤ b → All (λ x. f x ≤ a) xs
      → All (λ x. f x ≤ b) xs
  All-raise f a b xs le h = λ k d lt. omega (arith, h k d lt)

module _ {X : Type 0} (children : X → List X) (worth cap : X → ℕ) where
  -- a walk before its first visit
  pub walk_begins : (root : X) (most : ℕ)
      → IsWalked children worth cap (root ∷ []) 0 (root ∷ []) most
  walk_begins root most = record {
    done = [];
    skipped = [];
    number = refl;
    expansion = expansion_start children (root ∷ []);
    bounded = All-nil (λ x. worth x ≤ most);
    covered = All-nil (λ x. cap x ≤ most);
  }

  -- a visit takes the walk on, where others raise the best too
  pub walk_passes : ((x : X) → All (λ c. cap c ≤ cap x) (children x))
      → (roots : List X) (visited : ℕ) (before after : List X) (x : X) (old new : ℕ)
      → IsWalked children worth cap roots visited (before ++ x ∷ []) old
      → Passes children worth cap x before after old new
      → IsWalked children worth cap roots (visited + 1) after new
  walk_passes caps_children roots visited before after x old new w v =
      let Walked : List X → Type 0 =
      λ l. IsWalked children worth cap roots (visited + 1) l new in
      let first = expansion_order children roots w.done w.done _ _ (IsPermutation-refl w.done)
      (last_first before w.skipped x) w.expansion in
      let next : Expansion children roots (w.done ++ x ∷ []) (children x ++ (before ++ w.skipped)) =
      expansion_more children roots w.done (x ∷ before ++ w.skipped) (x ∷ []) _ first
      (moves_first children x (before ++ w.skipped)) in
      let number : length (w.done ++ x ∷ []) ≡ visited + 1 =
      omega (arith, w.number, length-append w.done (x ∷ [])) in
      let bounded : All (λ y. worth y ≤ new) (w.done ++ x ∷ []) =
      All-append (λ y. worth y ≤ new) w.done (x ∷ [])
      (All-raise worth old new w.done v.least w.bounded)
      (All-cons (λ y. worth y ≤ new) x [] v.own (All-nil (λ y. worth y ≤ new))) in
      let covered : All (λ y. cap y ≤ new) w.skipped =
      All-raise cap old new w.skipped v.least w.covered in
      let kept : after ≡ before ++ children x → Walked after =
      λ e. subst Walked (sym e) (record {
        done = w.done ++ x ∷ [];
        skipped = w.skipped;
        number = number;
        expansion = expansion_order children roots _ _ _ _ (IsPermutation-refl (w.done ++ x ∷ []))
            (behind (children x) before w.skipped) next;
        bounded = bounded;
        covered = covered;
      }) in
      let left_out : (after ≡ before) × (cap x ≤ new) → Walked after =
      λ h. subst Walked (sym h.0) (record {
        done = w.done ++ x ∷ [];
        skipped = children x ++ w.skipped;
        number = number;
        expansion = expansion_order children roots _ _ _ _ (IsPermutation-refl (w.done ++ x ∷ []))
            (among (children x) before w.skipped) next;
        bounded = bounded;
        covered = All-append (λ y. cap y ≤ new) (children x) w.skipped
            (All-raise cap (cap x) new (children x) h.1 (caps_children x)) covered;
      }) in
      either kept left_out v.waiting

  -- a visit takes the walk on
  pub walk_on : ((x : X) → All (λ c. cap c ≤ cap x) (children x))
      → (roots : List X) (visited : ℕ) (before after : List X) (x : X) (old new : ℕ)
      → IsWalked children worth cap roots visited (before ++ x ∷ []) old
      → Visits children worth cap x before after old new
      → IsWalked children worth cap roots (visited + 1) after new
  walk_on caps_children roots visited before after x old new w v =
      walk_passes caps_children roots visited before after x old new w (record {
        waiting = v.waiting;
        least = omega (arith, v.raised);
        own = omega (arith, v.raised);
      })

  -- what waits in a walk of a root's tree is nodes
  pub last_is_node : (root : X) (visited : ℕ) (before : List X) (x : X) (most : ℕ)
      → IsWalked children worth cap (root ∷ []) visited (before ++ x ∷ []) most
      → IsNode children root x
  last_is_node root visited before x most w =
      All-contains (IsNode children root) _ x
      (left_are_nodes children root w.done _ w.expansion)
      (Contains-append_left (before ++ x ∷ []) w.skipped x
      (Contains-append_right before (x ∷ []) x (0, omega arith, refl)))

  -- the best stays a node that is worth it
  pub best_stays : (root x old_item new_item : X) (old new : ℕ)
      → IsNode children root x → IsNode children root old_item → worth old_item ≡ old
      → TakesBest worth x old_item old new_item new
      → IsNode children root new_item × (worth new_item ≡ new)
  best_stays root x old_item new_item old new n o e t =
      let Stays : Type 0 = IsNode children root new_item × (worth new_item ≡ new) in
      let same : (new_item ≡ old_item) × (new ≡ old) → Stays =
      λ h. (subst (IsNode children root) (sym h.0) o, ap worth h.0 ∙ e ∙ sym h.1) in
      let other : (new_item ≡ x) × (new ≡ worth x) → Stays =
      λ h. (subst (IsNode children root) (sym h.0) n, ap worth h.0 ∙ sym h.1) in
      either same other t

  -- the first visit finds that the root is worth the best
  pub first_best : (root item : X) (after : List X) (new : ℕ)
      → Visits children worth cap root [] after 0 new
      → TakesBest worth root root 0 item new
      → IsNode children root item × (worth item ≡ new)
  first_best root item after new v t =
      let First : Type 0 = IsNode children root item × (worth item ≡ new) in
      let node : item ≡ root → IsNode children root item =
      λ e. subst (IsNode children root) (sym e) (root_is_node children root) in
      let same : (item ≡ root) × (new ≡ 0) → First =
      λ h. (node h.0, omega (arith, ap worth h.0, h.1, v.raised)) in
      let other : (item ≡ root) × (new ≡ worth root) → First =
      λ h. (node h.0, ap worth h.0 ∙ sym h.1) in
      either same other t

  -- a walk to the end has found the best
  pub walk_ends : ((x : X) → worth x ≤ cap x)
      → ((x : X) → All (λ c. cap c ≤ cap x) (children x))
      → (root : X) (visited : ℕ) (item : X) (most : ℕ)
      → IsWalked children worth cap (root ∷ []) visited [] most
      → IsNode children root item → worth item ≡ most
      → IsBest children worth root most
  walk_ends caps_value caps_children root visited item most w node e = record {
    bound = expansion_covers children worth cap most (root ∷ []) w.done w.skipped w.expansion
        w.bounded (all_covered_by_cap children worth cap caps_value caps_children most w.skipped
        w.covered) 0 root (omega arith);
    attained = (node.0, item, node.1, e);
  }

  -- a walk that has visited more than the limit was through a tree with more nodes
  pub walk_exceeds : (roots : List X) (visited : ℕ) (waiting : List X) (most limit : ℕ)
      → IsWalked children worth cap roots visited waiting most → limit < visited
      → IsTooMany children roots limit visited
  walk_exceeds roots visited waiting most limit w above = record {
    above = above;
    large = λ small. omega (
      arith,
      w.number,
      never_more children roots w.done _ limit w.expansion small,
    );
    expanded = (w.done, waiting ++ w.skipped, w.expansion, w.number);
  }
