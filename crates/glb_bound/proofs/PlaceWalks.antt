-- Walks of a place that shares the best.
use Rattle.std.proofs.Common.{◌≡◌, ℕ, ◌+◌, ◌^◌, ◌<◌, ◌≤◌, List, [], ◌∷◌, ◌++◌, length, max}
use Rattle.std.proofs.Common.{refl, sym, subst, ap, ◌∙◌, arith, inl, get_or}
use Rattle.std.proofs.Common.{nat_lt, cond, true, false, Bool}
use Rattle.std.specs.Prelude.{All}
use Rattle.std.proofs.lemmas.Bool.Decides.{nat_tests}
use Rattle.std.proofs.lemmas.List.Elements.{All-append, All-cons, All-nil}
use Rattle.glb_bound.specs.Best.{IsNode}
use Rattle.glb_bound.specs.declared.search.Best.{Best}
use Rattle.glb_bound.specs.declared.view.View.{View}
use Rattle.glb_bound.specs.inner.Views.{has_claimed}
use Rattle.glb_bound.specs.inner.Walks.{IsWalked, TakesBest}
use Rattle.glb_bound.specs.inner.Places.{Passes, IsWalking, Settles, SameButBest}
use Rattle.glb_bound.specs.inner.Places.{SameClaims, HasPlayed, items_at}
use Rattle.glb_bound.proofs.Members.{children_are_nodes, either, All-left, All-right, All-first}
use Rattle.glb_bound.proofs.Walking.{walk_passes, walk_begins, best_stays}
use Rattle.glb_bound.proofs.WalksBeside.{walks_beside}

-- a number of the frontier was claimed
pub claimed_some : (n : ℕ) (v : View) → n < v.frontier
    → has_claimed n v ≡ record v { claimed = n ∷ v.claimed }
claimed_some n v lt = go (nat_lt n v.frontier) refl
  where
    go : (b : Bool) → nat_lt n v.frontier ≡ b
        → cond b (record v { claimed = n ∷ v.claimed }) (record v { ended = v.ended + 1 })
        ≡ record v { claimed = n ∷ v.claimed }
    go true e = refl
    go false e = absurd (let le : v.frontier ≤ n = grind (arith, nat_tests) in omega arith)

-- no number was left
pub claimed_none : (n : ℕ) (v : View) → v.frontier ≤ n
    → has_claimed n v ≡ record v { ended = v.ended + 1 }
claimed_none n v le = go (nat_lt n v.frontier) refl
  where
    go : (b : Bool) → nat_lt n v.frontier ≡ b
        → cond b (record v { claimed = n ∷ v.claimed }) (record v { ended = v.ended + 1 })
        ≡ record v { ended = v.ended + 1 }
    go true e = absurd (let lt : n < v.frontier = grind (arith, nat_tests) in omega arith)
    go false e = refl

module _ {X : Type 0} (children : X → List X) (worth cap : X → ℕ) where
  -- the tree of one more item is to be walked
  pub walking_claims : (root : X) (roots : List X) (visited : ℕ) (x : X) (best : Best X)
      (v w : View) → w.seen ≡ v.seen → w.raised ≡ v.raised → IsNode children root x
      → IsWalking children worth cap root roots visited [] best v
      → IsWalking children worth cap root (x ∷ roots) visited (x ∷ []) best w
  walking_claims root roots visited x best v w seen raised node i = record {
    walked = subst (λ m. IsWalked children worth cap (x ∷ roots) m (x ∷ []) w.seen) none_yet
        (subst (IsWalked children worth cap (x ∷ roots) (0 + visited) (x ∷ [])) same
        (walks_beside children worth cap (x ∷ []) roots 0 visited (x ∷ []) [] 0 v.seen
        (walk_begins children worth cap x 0) i.walked));
    nodes = All-cons (IsNode children root) x [] node (All-nil (IsNode children root));
    node = i.node;
    worth_is = i.worth_is;
    raised = omega (arith, raised, i.raised);
  }
    where
      none_yet : 0 + visited ≡ visited
      none_yet = omega arith

      same : max 0 v.seen ≡ w.seen
      same = omega (arith, seen)

  -- a visit takes the walk on
  pub walking_on : ((x : X) → All (λ c. cap c ≤ cap x) (children x))
      → (root : X) (roots : List X) (visited now : ℕ)
      (waiting before after : List X) (x : X) (old new : Best X) (v w : View)
      → visited + 1 ≡ now → waiting ≡ before ++ x ∷ []
      → IsWalking children worth cap root roots visited waiting old v
      → Passes children worth cap x before after v.seen w.seen
      → TakesBest worth x old.item old.worth new.item new.worth
      → w.raised ≤ max v.raised new.worth → old.worth ≤ new.worth
      → IsWalking children worth cap root roots now after new w
  walking_on below root roots visited now waiting before after x old new v w n e all p t raised
      least =
      let i : IsWalking children worth cap root roots visited (before ++ x ∷ []) old v =
      subst (λ l. IsWalking children worth cap root roots visited l old v) e all in
      let Node : X → Type 0 = IsNode children root in
      let first : All Node before = All-left Node before (x ∷ []) i.nodes in
      let x_node : Node x = All-first Node x [] (All-right Node before (x ∷ []) i.nodes) in
      let best = best_stays children worth cap root x old.item new.item old.worth new.worth x_node
      i.node i.worth_is t in
      record {
        walked = subst (λ m. IsWalked children worth cap roots m after w.seen) n
            (walk_passes children worth cap below roots visited before after x v.seen w.seen
            i.walked p);
        nodes = either
            (λ e. subst (All Node) (sym e)
            (All-append Node before (children x) first (children_are_nodes children root x x_node)))
            (λ e. subst (All Node) (sym e.0) first) p.waiting;
        node = best.0;
        worth_is = best.1;
        raised = omega (arith, i.raised, raised, least);
      }

  -- where the best is the same in another view, the walk is
  pub walking_same : (root : X) (roots : List X) (visited now : ℕ) (waiting : List X)
      (best : Best X) (v w : View) → visited ≡ now → w.seen ≡ v.seen → w.raised ≡ v.raised
      → IsWalking children worth cap root roots visited waiting best v
      → IsWalking children worth cap root roots now waiting best w
  walking_same root roots visited now waiting best v w n seen raised i = record {
    walked = subst (λ m. IsWalked children worth cap roots m waiting w.seen) n
        (subst (λ s. IsWalked children worth cap roots visited waiting s) (sym seen) i.walked);
    nodes = i.nodes;
    node = i.node;
    worth_is = i.worth_is;
    raised = omega (arith, raised, i.raised);
  }

  -- a count takes in what was visited since the last one
  pub walking_settled : (root : X) (roots : List X) (visited more : ℕ) (waiting : List X)
      (best : Best X) (u v w : View) → visited ≡ u.counted → SameButBest u v → Settles more v w
      → IsWalking children worth cap root roots (visited + more) waiting best v
      → IsWalking children worth cap root roots w.counted waiting best w
  walking_settled root roots visited more waiting best u v w n same s i =
      walking_same root roots (visited + more) w.counted waiting best v w
      (omega (arith, n, ap (λ (x : View). x.counted) same, ap (λ (x : View). x.counted) s.same))
      (ap (λ (x : View). x.seen) s.same) (ap (λ (x : View). x.raised) s.same) i

  -- a place that found no number left has played
  pub played_out : (frontier : List X) (limit : ℕ) (first : Best X) (visited : ℕ)
      (waiting : List X) (best : Best X) (v w : View) → w ≡ record v { ended = v.ended + 1 }
      → v.places ≡ 1 → visited ≡ v.counted → visited ≤ limit → limit ≤ 2 ^ 40 → v.code ≤ 1
      → waiting ≡ []
      → ((root : X) → All (IsNode children root) frontier → IsNode children root first.item
      → worth first.item ≡ first.worth
      → IsWalking children worth cap root (items_at frontier root v.claimed) visited [] best v)
      → HasPlayed children worth cap frontier first 1 visited waiting best w
  played_out frontier limit first visited waiting best v w e one counted within small code none_left
      walking =
      subst (HasPlayed children worth cap frontier first 1 visited waiting best) (sym e)
      (subst (λ l. HasPlayed children worth cap frontier first 1 visited l best
      (record v { ended = v.ended + 1 })) (sym none_left)
      (record {
        places_are = one;
        counted = counted;
        few = omega arith;
        code = code;
        ends = inl (omega arith, refl);
        walking = λ root all node same.
            walking_same root (items_at frontier root v.claimed) visited visited [] best v
            (record v { ended = v.ended + 1 }) refl refl refl (walking root all node same);
      }))

  -- the walk of the tree of an item that was claimed
  pub walking_tree : (frontier : List X) (first : Best X) (visited n : ℕ) (x : X)
      (waiting after : List X) (best new : Best X) (v u w : View)
      → u ≡ record v { claimed = n ∷ v.claimed } → SameClaims u w → waiting ≡ []
      → n < length frontier → ((d : X) → x ≡ get_or frontier n d) → visited ≡ v.counted
      → ((top : X) (roots : List X)
      → IsWalking children worth cap top roots u.counted (waiting ++ x ∷ []) best u
      → IsWalking children worth cap top roots w.counted after new w)
      → ((root : X) → All (IsNode children root) frontier → IsNode children root first.item
      → worth first.item ≡ first.worth
      → IsWalking children worth cap root (items_at frontier root v.claimed) visited [] best v)
      → (root : X) → All (IsNode children root) frontier → IsNode children root first.item
      → worth first.item ≡ first.worth
      → IsWalking children worth cap root (items_at frontier root w.claimed) w.counted after new w
  walking_tree frontier first visited n x waiting after best new v u w e s none_left lt at counted
      kept walking root all node same =
      let y : X = get_or frontier n root in
      let others : List X = items_at frontier root v.claimed in
      let claimed : w.claimed ≡ n ∷ v.claimed = s.claimed ∙ ap (λ (z : View). z.claimed) e in
      let started = walking_claims root others visited y best v u (ap (λ (z : View). z.seen) e)
      (ap (λ (z : View). z.raised) e) (all n root lt) (walking root all node same) in
      let number : visited ≡ u.counted = counted ∙ sym (ap (λ (z : View). z.counted) e) in
      subst
      (λ l. IsWalking children worth cap root (items_at frontier root l) w.counted after new w)
      (sym claimed)
      (kept root (y ∷ others)
      (subst (λ l. IsWalking children worth cap root (y ∷ others) u.counted (l ++ x ∷ []) best u)
      (sym none_left)
      (subst (λ z. IsWalking children worth cap root (y ∷ others) u.counted (z ∷ []) best u)
      (sym (at root))
      (subst (λ m. IsWalking children worth cap root (y ∷ others) m (y ∷ []) best u) number
      started))))
