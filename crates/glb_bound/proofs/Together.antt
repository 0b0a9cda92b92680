-- What all places have found together.
use Rattle.std.proofs.Common.{◌≡◌, ℕ, ◌+◌, ◌<◌, ◌≤◌, ◌⊎◌, List, [], ◌∷◌, ◌++◌, length, max, take}
use Rattle.std.proofs.Common.{drop}
use Rattle.std.proofs.Common.{refl, sym, subst, ap, ◌∙◌, arith, inl, inr, ⊎_elim, get_or}
use Rattle.std.specs.Prelude.{All, IsPermutation}
use Rattle.std.proofs.lemmas.List.{map-append, take-append-drop, drop_all}
use Rattle.std.proofs.lemmas.List.Sorted.{IsPermutation-sym, IsPermutation-map}
use Rattle.std.proofs.lemmas.List.Elements.{All-append, All-nil}
use Rattle.glb_bound.specs.Best.{IsNode}
use Rattle.glb_bound.specs.declared.search.Best.{Best}
use Rattle.glb_bound.specs.declared.view.View.{View}
use Rattle.glb_bound.specs.declared.rule.Start.{Start}
use Rattle.glb_bound.specs.inner.Views.{fresh, joined}
use Rattle.glb_bound.specs.inner.Rule.{below, Ends}
use Rattle.glb_bound.specs.inner.Walks.{IsWalked, IsOpened}
use Rattle.glb_bound.specs.inner.Places.{IsWalking, HasPlayed, HasSearched, items_at}
use Rattle.glb_bound.proofs.Members.{All-left, left_are_nodes}
use Rattle.glb_bound.proofs.ViewSums.{then}
use Rattle.glb_bound.proofs.Walking.{walk_exceeds, walk_ends}
use Rattle.glb_bound.proofs.ListFacts.{items_below}
use Rattle.glb_bound.proofs.WalksBeside.{walk_not_begun, walk_raised, walks_beside}
use Rattle.glb_bound.proofs.WalksBeside.{walk_reordered, walk_further}

module _ {X : Type 0} (children : X → List X) (worth cap : X → ℕ) where
  -- the greater of two is worth no less than the first
  pub greater_least : (least : ℕ) (p q best : Best X)
      → ((q.worth ≤ p.worth) × (best ≡ p)) ⊎ ((p.worth < q.worth) × (best ≡ q))
      → least ≤ p.worth → least ≤ best.worth
  greater_least least p q best greater le = ⊎_elim
      (λ h. subst (λ (z : Best X). least ≤ z.worth) (sym h.1) le)
      (λ h. subst (λ (z : Best X). least ≤ z.worth) (sym h.1) (omega (arith, h.0))) greater

  -- before any place has played
  pub none_played : (frontier : List X) (first : Best X) (most : ℕ)
      → HasPlayed children worth cap frontier first 0 0 [] first (fresh 0 most)
  none_played frontier first most = record {
    places_are = refl;
    counted = refl;
    few = omega arith;
    code = omega arith;
    ends = inl (omega arith, refl);
    walking = λ root all node same. record {
      walked = walk_not_begun children worth cap [] 0;
      nodes = All-nil (IsNode children root);
      node = node;
      worth_is = same;
      raised = omega arith;
    };
  }

  -- some places and others together
  pub played_together : (frontier : List X) (first : Best X) (a b m n : ℕ) (x y : List X)
      (p q best : Best X) (v w : View)
      → ((q.worth ≤ p.worth) × (best ≡ p)) ⊎ ((p.worth < q.worth) × (best ≡ q))
      → HasPlayed children worth cap frontier first a m x p v
      → HasPlayed children worth cap frontier first b n y q w
      → HasPlayed children worth cap frontier first (a + b) (m + n) (x ++ y) best (joined v w)
  played_together frontier first a b m n x y p q best v w greater h i = record {
    places_are = omega (arith, h.places_are, i.places_are);
    counted = omega (arith, h.counted, i.counted);
    few = omega (arith, h.few, i.few);
    code = omega (arith, h.code, i.code);
    ends = ⊎_elim
        (λ e. ⊎_elim
        (λ f. inl (omega (arith, e.0, f.0), ap (λ l. l ++ y) e.1 ∙ f.1))
        (λ f. inr (omega (arith, f))) i.ends)
        (λ e. inr (omega (arith, e))) h.ends;
    walking = λ root all node same.
        let r = h.walking root all node same in
        let s = i.walking root all node same in
        let u = taken root r s in
        record {
          walked = subst (λ l. IsWalked children worth cap l (m + n) (x ++ y) (max v.seen w.seen))
              (sym (map-append (λ k. get_or frontier k root) v.claimed w.claimed))
              (walks_beside children worth cap (items_at frontier root v.claimed)
              (items_at frontier root w.claimed) m n x y v.seen w.seen r.walked s.walked);
          nodes = All-append (IsNode children root) x y r.nodes s.nodes;
          node = u.0;
          worth_is = u.1;
          raised = omega (arith, r.raised, s.raised, u.2, u.3);
        };
  }
    where
      taken : (root : X)
          → IsWalking children worth cap root (items_at frontier root v.claimed) m x p v
          → IsWalking children worth cap root (items_at frontier root w.claimed) n y q w
          → IsNode children root best.item × (worth best.item ≡ best.worth)
          × (p.worth ≤ best.worth) × (q.worth ≤ best.worth)
      taken root r s = ⊎_elim
          (λ g. subst (λ (z : Best X). IsNode children root z.item × (worth z.item ≡ z.worth)
          × (p.worth ≤ z.worth) × (q.worth ≤ z.worth)) (sym g.1)
          (r.node, r.worth_is, omega arith, g.0))
          (λ g. subst (λ (z : Best X). IsNode children root z.item × (worth z.item ≡ z.worth)
          × (p.worth ≤ z.worth) × (q.worth ≤ z.worth)) (sym g.1)
          (s.node, s.worth_is, omega (arith, g.0), omega arith))
          greater

  -- all places together have searched the tree
  pub all_searched : ((x : X) → worth x ≤ cap x) → ((x : X) → All (λ c. cap c ≤ cap x) (children x))
      → (root : X) (frontier : List X) (first : Best X) (before limit places n : ℕ)
      (waiting : List X) (best : Best X) (k : Start) (v : View)
      → IsOpened children worth cap root before frontier first
      → HasPlayed children worth cap frontier first places n waiting best v → Ends k v
      → k.frontier ≡ length frontier → k.best ≡ first.worth → k.items ≡ before → k.limit ≡ limit
      → 1 ≤ places → first.worth ≤ best.worth
      → HasSearched children worth cap root limit (before + n) best
  all_searched caps_value caps_children root frontier first before limit places n waiting best k v
      opened played e wide k_best k_items k_limit some_place least = record {
        exceeds = λ above. walk_exceeds children worth cap (root ∷ []) (before + n)
            (waiting ++ drop e.number frontier) most limit whole above;
        is_best = λ within. walk_ends children worth cap caps_value caps_children root (before + n)
            best.item best.worth
            (walk_raised children worth cap (root ∷ []) (before + n) [] most best.worth (omega (
              arith,
              least,
              k_best,
              e.best_seen,
              i.raised,
            ))
            (subst (λ l. IsWalked children worth cap (root ∷ []) (before + n) l most)
            (none_left within) whole)) i.node i.worth_is;
        node = i.node;
        worth_is = i.worth_is;
      }
    where
      nodes : All (IsNode children root) frontier
      nodes = All-left (IsNode children root) frontier opened.walked.skipped
          (left_are_nodes children root opened.walked.done (frontier ++ opened.walked.skipped)
          opened.walked.expansion)

      i : IsWalking children worth cap root (items_at frontier root v.claimed) n waiting best v
      i = played.walking root nodes opened.node opened.worth_is

      most : ℕ
      most = max first.worth (max v.seen 0)

      roots : IsPermutation (take e.number frontier) (items_at frontier root v.claimed)
      roots = IsPermutation-sym _ _
          (then (IsPermutation-map (λ k. get_or frontier k root) v.claimed (below e.number)
          e.claims_are) (items_below frontier root e.number (omega (arith, e.within, wide))))

      whole : IsWalked children worth cap (root ∷ []) (before + n)
          (waiting ++ drop e.number frontier) most
      whole = walk_further children worth cap (root ∷ []) frontier before n
          (waiting ++ drop e.number frontier)
          first.worth (max v.seen 0) opened.walked
          (subst (λ l. IsWalked children worth cap l n (waiting ++ drop e.number frontier)
          (max v.seen 0)) (take-append-drop e.number frontier)
          (subst (λ m. IsWalked children worth cap
          (take e.number frontier ++ drop e.number frontier) m
          (waiting ++ drop e.number frontier) (max v.seen 0)) no_more
          (walks_beside children worth cap (take e.number frontier) (drop e.number frontier) n 0
          waiting
          (drop e.number frontier) v.seen 0
          (walk_reordered children worth cap (items_at frontier root v.claimed)
          (take e.number frontier) n waiting
          v.seen roots i.walked)
          (walk_not_begun children worth cap (drop e.number frontier) 0))))
        where
          no_more : n + 0 ≡ n
          no_more = omega arith

      none_left : before + n ≤ limit → waiting ++ drop e.number frontier ≡ []
      none_left within = ⊎_elim
          (λ f. ap (λ l. l ++ drop e.number frontier) f.1
          ∙ drop_all e.number frontier (omega (arith, wide, e.all_claimed (omega (arith, f.0)))))
          (λ f. absurd (⊎_elim (λ two. omega (arith, played.code))
          (λ over. omega (arith, k_items, k_limit, played.counted)) (e.cause f))) played.ends
