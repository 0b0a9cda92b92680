-- Walks side by side and one after the other.
use Rattle.std.proofs.Common.{ℕ, ◌+◌, ◌≤◌, List, [], ◌++◌, max}
use Rattle.std.proofs.Common.{refl, sym, subst, arith, append_assoc, append-nil, length-append}
use Rattle.std.specs.Prelude.{IsPermutation}
use Rattle.std.proofs.lemmas.List.Sorted.{IsPermutation-append, IsPermutation-append_comm}
use Rattle.std.proofs.lemmas.List.Sorted.{IsPermutation-append_left, IsPermutation-append_right}
use Rattle.std.proofs.lemmas.List.Sorted.{IsPermutation-refl}
use Rattle.std.proofs.lemmas.List.Elements.{All-append, All-nil}
use Rattle.glb_laws.specs.Expansion.{Expansion}
use Rattle.glb_laws.proofs.Expansions.{moves_before, moves_after, moves_append, moves_beside}
use Rattle.glb_laws.proofs.Expansions.{expansion_order, expansion_more, expansion_start}
use Rattle.glb_bound.specs.inner.Walks.{IsWalked}
use Rattle.glb_bound.proofs.ViewSums.{flip_first, then}
use Rattle.glb_bound.proofs.Walking.{All-raise}

module _ {X : Type 0} where
  -- what waits and what is left out in two walks
  side_by_side : (w s x y : List X)
      → IsPermutation ((x ++ y) ++ (w ++ s)) ((w ++ x) ++ (s ++ y))
  side_by_side w s x y =
      let flipped : IsPermutation (w ++ (s ++ (x ++ y))) (w ++ (x ++ (s ++ y))) =
      IsPermutation-append_right w _ _ (flip_first s x y) in
      then (IsPermutation-append_comm (x ++ y) (w ++ s))
      (subst (λ l. IsPermutation l ((w ++ x) ++ (s ++ y))) (sym (append_assoc w s (x ++ y)))
      (subst (IsPermutation (w ++ (s ++ (x ++ y)))) (sym (append_assoc w x (s ++ y))) flipped))

module _ {X : Type 0} (children : X → List X) (worth cap : X → ℕ) where
  -- a walk that has not begun
  pub walk_not_begun : (A : List X) (m : ℕ) → IsWalked children worth cap A 0 A m
  walk_not_begun A m = record {
    done = [];
    skipped = [];
    number = refl;
    expansion = subst (Expansion children A []) (sym (append-nil A)) (expansion_start children A);
    bounded = All-nil (λ x. worth x ≤ m);
    covered = All-nil (λ x. cap x ≤ m);
  }

  -- what is not worth more than a number is not worth more than a greater one
  pub walk_raised : (A : List X) (n : ℕ) (w : List X) (m most : ℕ) → m ≤ most
      → IsWalked children worth cap A n w m → IsWalked children worth cap A n w most
  walk_raised A n w m most le p = record {
    done = p.done;
    skipped = p.skipped;
    number = p.number;
    expansion = p.expansion;
    bounded = All-raise worth m most p.done le p.bounded;
    covered = All-raise cap m most p.skipped le p.covered;
  }

  -- two walks side by side are one
  pub walks_beside : (A B : List X) (a b : ℕ) (w x : List X) (m n : ℕ)
      → IsWalked children worth cap A a w m → IsWalked children worth cap B b x n
      → IsWalked children worth cap (A ++ B) (a + b) (w ++ x) (max m n)
  walks_beside A B a b w x m n p q = record {
    done = p.done ++ q.done;
    skipped = p.skipped ++ q.skipped;
    number = omega (arith, length-append p.done q.done, p.number, q.number);
    expansion = record {
      taken = p.expansion.taken ++ q.expansion.taken;
      order = IsPermutation-append p.expansion.taken p.done q.expansion.taken q.done
          p.expansion.order q.expansion.order;
      moves = moves_after children (A ++ B) (p.expansion.taken ++ q.expansion.taken) _ _
          (moves_append children (A ++ B) p.expansion.taken ((w ++ p.skipped) ++ B)
          q.expansion.taken _
          (moves_beside children B A p.expansion.taken (w ++ p.skipped) p.expansion.moves)
          (moves_before children ((w ++ p.skipped) ++ B) (B ++ (w ++ p.skipped))
          q.expansion.taken ((x ++ q.skipped) ++ (w ++ p.skipped))
          (IsPermutation-append_comm (w ++ p.skipped) B)
          (moves_beside children (w ++ p.skipped) B q.expansion.taken (x ++ q.skipped)
          q.expansion.moves)))
          (side_by_side w p.skipped x q.skipped);
    };
    bounded = All-append (λ y. worth y ≤ max m n) p.done q.done
        (All-raise worth m (max m n) p.done (omega arith) p.bounded)
        (All-raise worth n (max m n) q.done (omega arith) q.bounded);
    covered = All-append (λ y. cap y ≤ max m n) p.skipped q.skipped
        (All-raise cap m (max m n) p.skipped (omega arith) p.covered)
        (All-raise cap n (max m n) q.skipped (omega arith) q.covered);
  }

  -- a walk whose roots stand in another order
  pub walk_reordered : (A B : List X) (n : ℕ) (w : List X) (m : ℕ) → IsPermutation B A
      → IsWalked children worth cap A n w m → IsWalked children worth cap B n w m
  walk_reordered A B n w m s p = record {
    done = p.done;
    skipped = p.skipped;
    number = p.number;
    expansion = record {
      taken = p.expansion.taken;
      order = p.expansion.order;
      moves = moves_before children B A p.expansion.taken (w ++ p.skipped) s p.expansion.moves;
    };
    bounded = p.bounded;
    covered = p.covered;
  }

  -- a walk through the trees that were still to visit
  pub walk_further : (A B : List X) (a b : ℕ) (w : List X) (m n : ℕ)
      → IsWalked children worth cap A a B m → IsWalked children worth cap B b w n
      → IsWalked children worth cap A (a + b) w (max m n)
  walk_further A B a b w m n p q = record {
    done = p.done ++ q.done;
    skipped = q.skipped ++ p.skipped;
    number = omega (arith, length-append p.done q.done, p.number, q.number);
    expansion = expansion_order children A (p.done ++ q.expansion.taken) (p.done ++ q.done)
        ((w ++ q.skipped) ++ p.skipped) (w ++ (q.skipped ++ p.skipped))
        (IsPermutation-append_right p.done _ _ q.expansion.order)
        (subst (IsPermutation ((w ++ q.skipped) ++ p.skipped))
        (append_assoc w q.skipped p.skipped) (IsPermutation-refl _))
        (expansion_more children A p.done (B ++ p.skipped) q.expansion.taken
        ((w ++ q.skipped) ++ p.skipped) p.expansion
        (moves_beside children p.skipped B q.expansion.taken (w ++ q.skipped) q.expansion.moves));
    bounded = All-append (λ y. worth y ≤ max m n) p.done q.done
        (All-raise worth m (max m n) p.done (omega arith) p.bounded)
        (All-raise worth n (max m n) q.done (omega arith) q.bounded);
    covered = All-append (λ y. cap y ≤ max m n) q.skipped p.skipped
        (All-raise cap n (max m n) q.skipped (omega arith) q.covered)
        (All-raise cap m (max m n) p.skipped (omega arith) p.covered);
  }

  -- what waits may stand in another order
  pub walk_waiting : (A : List X) (n : ℕ) (w x : List X) (m : ℕ) → IsPermutation w x
      → IsWalked children worth cap A n w m → IsWalked children worth cap A n x m
  walk_waiting A n w x m s p = record {
    done = p.done;
    skipped = p.skipped;
    number = p.number;
    expansion = expansion_order children A p.done p.done (w ++ p.skipped) (x ++ p.skipped)
        (IsPermutation-refl p.done) (IsPermutation-append_left p.skipped w x s) p.expansion;
    bounded = p.bounded;
    covered = p.covered;
  }
