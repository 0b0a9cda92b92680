-- How the frontier is opened.
use Rattle.std.proofs.Common.{◌≡◌, ℕ, ◌+◌, ◌<◌, ◌≤◌, ◌⊎◌, List, [], ◌∷◌, ◌++◌}
use Rattle.std.proofs.Common.{sym, subst, arith, inl, ⊎_elim}
use Rattle.std.specs.Prelude.{All}
use Rattle.std.proofs.lemmas.List.Sorted.{IsPermutation-append_comm}
use Rattle.glb_bound.specs.Best.{IsNode}
use Rattle.glb_bound.specs.declared.search.Best.{Best}
use Rattle.glb_bound.specs.inner.Walks.{IsWalked, IsOpened}
use Rattle.glb_bound.proofs.Members.{root_is_node}
use Rattle.glb_bound.proofs.Walking.{walk_passes, walk_begins, last_is_node}
use Rattle.glb_bound.proofs.WalksBeside.{walk_waiting}

module _ {X : Type 0} (children : X → List X) (worth cap : X → ℕ) where
  -- the root is visited first
  pub opened_first : ((x : X) → All (λ c. cap c ≤ cap x) (children x)) → (root : X)
      (items : List X) (n : ℕ) → items ≡ children root → n ≡ worth root
      → IsOpened children worth cap root 1 items (record { worth = n; item = root })
  opened_first below root items n e v = record {
    walked = subst (λ m. IsWalked children worth cap (root ∷ []) m items n) one
        (walk_passes children worth cap below (root ∷ []) 0 [] items root 0 n
        (walk_begins children worth cap root 0)
        (record { waiting = inl e; least = omega arith; own = omega arith }));
    node = root_is_node children root;
    worth_is = sym v;
  }
    where
      one : 0 + 1 ≡ 1
      one = omega arith

  -- the first that waits is visited next, and its children wait behind the others
  pub opened_on : ((x : X) → All (λ c. cap c ≤ cap x) (children x)) → (root : X) (visited : ℕ)
      (items rest after : List X) (x : X) (n : ℕ) (old new : Best X) → items ≡ x ∷ rest
      → after ≡ rest ++ children x → n ≡ worth x
      → ((n ≤ old.worth) × (new ≡ old)) ⊎ ((old.worth < n) × (new ≡ record { worth = n; item = x }))
      → IsOpened children worth cap root visited items old
      → IsOpened children worth cap root (visited + 1) after new
  opened_on below root visited items rest after x n old new e f v t o = ⊎_elim
      (λ h. subst (IsOpened children worth cap root (visited + 1) after) (sym h.1)
      (record {
        walked = on old.worth (omega arith) (omega (arith, h.0));
        node = o.node;
        worth_is = o.worth_is;
      }))
      (λ h. subst (IsOpened children worth cap root (visited + 1) after) (sym h.1)
      (record {
        walked = on n (omega (arith, h.0)) (omega arith);
        node = x_node;
        worth_is = sym v;
      }))
      t
    where
      walked : IsWalked children worth cap (root ∷ []) visited (rest ++ x ∷ []) old.worth
      walked = walk_waiting children worth cap (root ∷ []) visited (x ∷ rest) (rest ++ x ∷ [])
          old.worth
          (IsPermutation-append_comm (x ∷ []) rest)
          (subst (λ l. IsWalked children worth cap (root ∷ []) visited l old.worth) e o.walked)

      x_node : IsNode children root x
      x_node = last_is_node children worth cap root visited rest x old.worth walked

      on : (new : ℕ) → old.worth ≤ new → n ≤ new
          → IsWalked children worth cap (root ∷ []) (visited + 1) after new
      on new least own = walk_passes children worth cap below (root ∷ []) visited rest after x
          old.worth new walked (record { waiting = inl f; least = least; own = omega (arith, v) })
