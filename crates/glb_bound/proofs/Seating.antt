-- The table at the start, seats that are dealt and gathered, and the end of a run.
use mathlib.Core.Option.{some, some-injective, some-ne-none}
use lib.ListN.{get_elem?}
use Rattle.std.proofs.Common.{◌≡◌, ◌≢◌, ℕ, zero, suc, ◌+◌, ◌-◌, ◌<◌, ◌≤◌, ◌⊎◌, inl, inr, ⊎_elim}
use Rattle.std.proofs.Common.{List, [], ◌∷◌, ◌++◌, set, refl, sym, max, min}
use Rattle.std.proofs.Common.{ap, subst, ◌∙◌, arith, append-nil, IsPermutation}
use Rattle.std.proofs.lemmas.List.Sorted.{IsPermutation-refl, IsPermutation-sym}
use Rattle.atomic_table.proofs.Lists.{at_set, set_else, at_snoc}
use Rattle.atomic_table.specs.Table.{State, Splits, Joins, opening, Final, Seen}
use Rattle.glb_bound.specs.declared.view.View.{View}
use Rattle.glb_bound.specs.declared.rule.Start.{Start}
use Rattle.glb_bound.specs.inner.Rule.{claims, below, IsGood, Fits, Holds, Ends}
use Rattle.glb_bound.specs.inner.Views.{fresh, one_less, joined, next_of}
use Rattle.glb_bound.proofs.ViewSums.{total_set, total_push, greatest_set, greatest_push}
use Rattle.glb_bound.proofs.ViewSums.{greatest_join, then, claims_set, claims_push, claims_join}
use Rattle.glb_bound.proofs.ViewSums.{IsIdle, alone}

module _ (k : Start) where
  -- a fresh view meets all words
  fresh_fits : (places : ℕ) (b c i t : ℕ) (frontier : ℕ) → frontier ≤ k.frontier
      → (1 ≤ places → k.frontier ≤ frontier) → Fits k b c i t (fresh places frontier)
  fresh_fits places b c i t frontier le knows = record {
    idle = λ e. (refl, refl, refl);
    frontier = le;
    knows = knows;
    seen = omega arith;
    claimed = omega arith;
    once = omega arith;
    ended = λ e. absurd (omega arith);
    counted = omega arith;
    seen_total = omega arith;
    halted = omega arith;
    cause = λ e. absurd (omega arith);
  }

  -- the first view is in the table at the start
  pub opens : IsGood k → Holds k
      (opening (k.best ∷ 0 ∷ k.items ∷ 0 ∷ []) [] (fresh k.places k.frontier))
  opens good = record {
    good = good;
    best = k.best;
    claim = 0;
    items = k.items;
    stop = 0;
    words = refl;
    all_places = omega arith;
    all_claims = subst (λ n. IsPermutation [] (below n)) (sym none_yet) (IsPermutation-refl []);
    claim_is = omega arith;
    best_is = omega arith;
    items_are = omega arith;
    stop_is = refl;
    each = each;
  }
    where
      none_yet : min 0 k.frontier ≡ 0
      none_yet = omega arith

      each : (i : ℕ) (v : View) → get_elem? (fresh k.places k.frontier ∷ []) i ≡ some v
          → Fits k k.best 0 k.items 0 v
      each zero v e = subst (Fits k k.best 0 k.items 0)
          (some-injective (fresh k.places k.frontier) v e)
          (fresh_fits k.places k.best 0 k.items 0 k.frontier (omega arith) (λ h. omega arith))
      each (suc i) v e = absurd (some-ne-none v (sym e))

  deal_fresh : (id n frontier : ℕ)
      → Splits {S = ℕ} (Holds k) id (fresh (n + 1) frontier) (fresh n frontier) (fresh 1 frontier)
  deal_fresh id n frontier s h at =
      let v : View = fresh (n + 1) frontier in
      let left : View = fresh n frontier in
      let right : View = fresh 1 frontier in
      let rest : List View = set s.views id left in
      let f = h.each id v at in
      let knows : k.frontier ≤ frontier = f.knows (omega arith) in
      let m = claims_set s.views id v at in
      record {
        good = h.good;
        best = h.best;
        claim = h.claim;
        items = h.items;
        stop = h.stop;
        words = h.words;
        all_places = omega (
          arith,
          total_push (λ x. x.places) rest right,
          total_set (λ x. x.places) s.views id v left at,
          h.all_places,
        );
        all_claims = subst (λ l. IsPermutation l (below (min h.claim k.frontier)))
            (sym (claims_push rest right ∙ append-nil (claims rest)))
            (then (m.2 left) (then (IsPermutation-sym _ _ m.1) h.all_claims));
        claim_is = omega (
          arith,
          total_push (λ x. x.ended) rest right,
          total_set (λ x. x.ended) s.views id v left at,
          h.claim_is,
        );
        best_is = omega (
          arith,
          greatest_push (λ x. x.raised) rest right,
          greatest_set (λ x. x.raised) s.views id v left 0 at refl,
          h.best_is,
        );
        items_are = omega (
          arith,
          total_push (λ x. x.counted) rest right,
          total_set (λ x. x.counted) s.views id v left at,
          h.items_are,
        );
        stop_is = omega (
          arith,
          greatest_push (λ x. x.code) rest right,
          greatest_set (λ x. x.code) s.views id v left 0 at refl,
          h.stop_is,
        );
        each = λ j x e. ⊎_elim
            (λ g. ⊎_elim
            (λ p. subst (Fits k h.best h.claim h.items h.stop) p.1
            (fresh_fits n h.best h.claim h.items h.stop frontier f.frontier (λ o. knows)))
            (λ p. h.each j x p.1)
            (at_set s.views id j left x g))
            (λ p. subst (Fits k h.best h.claim h.items h.stop) p
            (fresh_fits 1 h.best h.claim h.items h.stop frontier f.frontier (λ o. knows)))
            (at_snoc rest right x j e);
      }

  pub may_deal : (id : ℕ) (v : View) → (n : ℕ) (frontier : ℕ) → v ≡ fresh (n + 1) frontier
      → Splits {S = ℕ} (Holds k) id v (one_less v) (fresh 1 v.frontier)
  may_deal id v n frontier e =
      let same : n + 1 - 1 ≡ n = omega arith in
      subst (λ (u : View). Splits {S = ℕ} (Holds k) id u (one_less u) (fresh 1 u.frontier)) (sym e)
      (subst (λ (m : ℕ). Splits {S = ℕ} (Holds k) id (fresh (n + 1) frontier) (fresh m frontier)
      (fresh 1 frontier)) (sym same) (deal_fresh id n frontier))

  pub may_gather : (id other : ℕ) (v w : View)
      → Joins {S = ℕ} (Holds k) id v other w (joined v w) (fresh 0 0)
  may_gather id other v w s h at differ there =
      let both : View = joined v w in
      let spent : View = fresh 0 0 in
      let first : List View = set s.views id both in
      let was : get_elem? s.views other ≡ some w =
      sym (set_else s.views id other both differ) ∙ there in
      let f = h.each id v at in
      let g = h.each other w was in
      let apart : id ≢ other = λ e. differ (sym e) in
      record {
        good = h.good;
        best = h.best;
        claim = h.claim;
        items = h.items;
        stop = h.stop;
        words = h.words;
        all_places = omega (
          arith,
          total_set (λ x. x.places) s.views id v both at,
          total_set (λ x. x.places) first other w spent there,
          h.all_places,
        );
        all_claims = then
            (claims_join s.views id other v w both spent apart at was refl refl) h.all_claims;
        claim_is = omega (
          arith,
          total_set (λ x. x.ended) s.views id v both at,
          total_set (λ x. x.ended) first other w spent there,
          h.claim_is,
        );
        best_is = h.best_is
            ∙ ap (max k.best) (sym (greatest_join (λ x. x.raised) s.views id other v w both spent
            apart at was refl refl));
        items_are = omega (
          arith,
          total_set (λ x. x.counted) s.views id v both at,
          total_set (λ x. x.counted) first other w spent there,
          h.items_are,
        );
        stop_is = h.stop_is
            ∙ sym (greatest_join (λ x. x.code) s.views id other v w both spent
            apart at was refl refl);
        each = λ j x e. ⊎_elim
            (λ p. subst (Fits k h.best h.claim h.items h.stop) p.1
            (fresh_fits 0 h.best h.claim h.items h.stop 0 (omega arith)
            (λ o. absurd (omega arith))))
            (λ q. ⊎_elim
            (λ p. subst (Fits k h.best h.claim h.items h.stop) p.1
            (both_fit h.best h.claim h.items h.stop f g))
            (λ p. h.each j x p.1)
            (at_set s.views id j both x q.1))
            (at_set first other j spent x e);
      }
    where
      both_fit : (b c i t : ℕ) → Fits k b c i t v → Fits k b c i t w → Fits k b c i t (joined v w)
      both_fit b c i t f g = record {
        idle = λ e.
            let p = f.idle (omega arith) in
            let q = g.idle (omega arith) in
            (ap (λ l. l ++ w.claimed) p.0 ∙ q.0, omega (arith, p.1, q.1), omega (arith, p.2, q.2));
        frontier = omega (arith, f.frontier, g.frontier);
        knows = λ e. knows_both f g e;
        seen = omega (arith, f.seen, g.seen);
        claimed = next v.claimed f.claimed;
        once = omega (arith, f.once, g.once);
        ended = λ e. ended_both f g e;
        counted = omega (arith, f.counted, g.counted);
        seen_total = omega (arith, f.seen_total, g.seen_total);
        halted = omega (arith, f.halted, g.halted);
        cause = λ e. cause_both f g e;
      }
        where
          some_of : (a b : ℕ) → 1 ≤ a + b → (1 ≤ a) ⊎ (1 ≤ b)
          some_of zero b h = inr (omega arith)
          some_of (suc a) b h = inl (omega arith)

          knows_both : Fits k b c i t v → Fits k b c i t w → 1 ≤ v.places + w.places
              → k.frontier ≤ max v.frontier w.frontier
          knows_both f g e = ⊎_elim (λ p. omega (arith, f.knows p)) (λ p. omega (arith, g.knows p))
              (some_of v.places w.places e)

          ended_both : Fits k b c i t v → Fits k b c i t w → 1 ≤ v.ended + w.ended → k.frontier ≤ c
          ended_both f g e = ⊎_elim f.ended g.ended (some_of v.ended w.ended e)

          one_of : (a b : ℕ) → max a b ≡ 1 → (a ≡ 1) ⊎ (b ≡ 1)
          one_of zero b h = inr (omega arith)
          one_of (suc a) b h = inl (omega arith)

          cause_both : Fits k b c i t v → Fits k b c i t w → max v.code w.code ≡ 1 → k.limit < i
          cause_both f g e = ⊎_elim f.cause g.cause (one_of v.code w.code e)

          next : (l : List ℕ) → next_of l ≤ c → next_of (l ++ w.claimed) ≤ c
          next [] h = g.claimed
          next (n ∷ l) h = h

  -- what the last state of the table tells
  pub ends : (id : ℕ) (v : View) → v.places ≡ k.places → (ws xs : List ℕ)
      → Final (Seen (Holds k) id v) ws xs → Ends k v
  ends id v all ws xs final =
      let s = final.0 in
      let h = final.1.0 in
      let at = final.1.1 in
      let f = h.each id v at in
      let a = alone s.views id v (λ i u e. idle h i u e) at (h.all_places ∙ sym all) in
      record {
        number = min h.claim k.frontier;
        within = omega arith;
        claims_are = subst (λ l. IsPermutation l (below (min h.claim k.frontier))) a.0 h.all_claims;
        all_claimed = λ e. omega (arith, f.ended e);
        best_seen = omega (arith, f.seen, h.best_is, a.1);
        cause = λ some_halted.
            cause h.items h.stop f.halted some_halted (h.stop_is ∙ a.2)
            (omega (arith, h.items_are, a.3)) f.cause;
      }
    where
      idle : {s : State ℕ View} (h : Holds k s) (i : ℕ) (u : View) → get_elem? s.views i ≡ some u
          → u.places ≡ 0 → IsIdle u
      idle h i u e zero_places =
          let g = h.each i u e in
          let p = g.idle zero_places in
          (p.0, p.1, p.2, omega (arith, g.counted))

      cause : (items stop : ℕ) → v.halted ≤ stop → 1 ≤ v.halted → stop ≡ v.code
          → items ≡ k.items + v.counted → (v.code ≡ 1 → k.limit < items)
          → (2 ≤ v.code) ⊎ (k.limit < k.items + v.counted)
      cause items stop le one is are c = go v.code refl
        where
          go : (n : ℕ) → n ≡ v.code → (2 ≤ v.code) ⊎ (k.limit < k.items + v.counted)
          go zero e = absurd (omega arith)
          go (suc zero) e = inr (omega (arith, c (sym e), are))
          go (suc (suc n)) e = inl (omega arith)
