-- Each step of a seat keeps the rule of the table.
use mathlib.Core.Option.{none, some, some-injective, some-ne-none}
use lib.ListN.{get_elem?}
use Rattle.std.proofs.Common.{◌≡◌, ℕ, zero, suc, ◌+◌, ◌*◌, ◌%◌, ◌^◌, ◌<◌, ◌≤◌, ◌⊎◌, inl, inr}
use Rattle.std.proofs.Common.{⊎_elim}
use Rattle.std.proofs.Common.{Bool, true, false, cond, nat_lt, List, [], ◌∷◌, ◌++◌, set, refl, sym}
use Rattle.std.proofs.Common.{max, min}
use Rattle.std.proofs.Common.{ap, subst, ◌∙◌, arith, append_assoc, IsPermutation}
use Rattle.std.proofs.Math.Nat.{mod-eq_of_lt}
use Rattle.std.proofs.lemmas.Bool.Decides.{nat_tests}
use Rattle.std.proofs.lemmas.List.Sorted.{IsPermutation-append_right}
use Rattle.std.proofs.lemmas.List.Sorted.{IsPermutation-sym}
use Rattle.std.specs.Prelude.{slice_index, slice_set}
use Rattle.atomic_table.proofs.Lists.{at_set}
use Rattle.atomic_table.specs.Table.{State, Me, Allows, step, keeps}
use Rattle.glb_bound.specs.declared.view.View.{View}
use Rattle.glb_bound.specs.declared.rule.Start.{Start}
use Rattle.glb_bound.specs.inner.Rule.{total, claims, below, Fits, Holds}
use Rattle.glb_bound.specs.inner.Views.{has_read, has_raised, has_claimed}
use Rattle.glb_bound.specs.inner.Views.{has_counted, has_halted, has_looked}
use Rattle.glb_bound.specs.inner.Views.{Reads, Raises, Claims, Counts, Halts, Looks}
use Rattle.glb_bound.proofs.ViewSums.{total_set, total_at, greatest_set}
use Rattle.glb_bound.proofs.ViewSums.{then, claims_set}

abbrev pub four : ℕ → ℕ → ℕ → ℕ → List ℕ
four best claim items stop = best ∷ claim ∷ items ∷ stop ∷ []

module _ (k : Start) where
  -- a view meets greater words too
  fits_on : (b c i t b2 c2 i2 t2 : ℕ) (v : View) → b ≤ b2 → c ≤ c2 → i ≤ i2 → t ≤ t2
      → Fits k b c i t v → Fits k b2 c2 i2 t2 v
  fits_on b c i t b2 c2 i2 t2 v hb hc hi ht f = record {
    idle = f.idle;
    frontier = f.frontier;
    knows = f.knows;
    seen = omega (arith, f.seen);
    claimed = omega (arith, f.claimed);
    once = f.once;
    ended = λ e. omega (arith, f.ended e);
    counted = f.counted;
    seen_total = omega (arith, f.seen_total);
    halted = omega (arith, f.halted);
    cause = λ e. omega (arith, f.cause e);
  }

  -- what a step owes: how much the view gains, and that it meets the new words
  record Gains (b c i t : ℕ) (v w : View) (b2 c2 i2 t2 : ℕ) : Type 0 where
    pub new : List ℕ
    pub value : ℕ
    pub over : ℕ
    pub more : ℕ
    pub code : ℕ
    pub places : w.places ≡ v.places
    pub claimed : w.claimed ≡ new ++ v.claimed
    pub claims_are : below (min c2 k.frontier) ≡ new ++ below (min c k.frontier)
    pub ended : w.ended ≡ v.ended + over
    pub claim : (c ≤ c2) × ((c2 ≤ k.frontier) ⊎ (c2 ≤ c + over))
    pub raised : w.raised ≡ max v.raised value
    pub best : b2 ≡ max b value
    pub counted : w.counted ≡ v.counted + more
    pub items : i2 ≡ i + more
    pub halts : w.code ≡ max v.code code
    pub stop : t2 ≡ max t code
    pub fits : Fits k b2 c2 i2 t2 w

  -- such a step keeps the rule
  stepped_holds : (s : State ℕ View) (h : Holds k s) (id : ℕ) (v w : View)
      → get_elem? s.views id ≡ some v → (b2 c2 i2 t2 : ℕ)
      → Gains h.best h.claim h.items h.stop v w b2 c2 i2 t2
      → (ws : List ℕ) → ws ≡ b2 ∷ c2 ∷ i2 ∷ t2 ∷ []
      → Holds k (record { words = ws; homes = s.homes; views = set s.views id w })
  stepped_holds s h id v w at b2 c2 i2 t2 g ws are = record {
    good = h.good;
    best = b2;
    claim = c2;
    items = i2;
    stop = t2;
    words = are;
    all_places = omega (arith, total_set (λ x. x.places) s.views id v w at, g.places, h.all_places);
    all_claims = claims_are;
    claim_is = claim_is;
    best_is =
        let e = greatest_set (λ x. x.raised) s.views id v w g.value at g.raised in
        omega (arith, e, g.best, h.best_is);
    items_are =
        let e = total_set (λ x. x.counted) s.views id v w at in
        omega (arith, e, g.counted, g.items, h.items_are);
    stop_is =
        let e = greatest_set (λ x. x.code) s.views id v w g.code at g.halts in
        omega (arith, e, g.stop, h.stop_is);
    each = each;
  }
    where
      claims_are : IsPermutation (claims (set s.views id w)) (below (min c2 k.frontier))
      claims_are =
          let n = claims_set s.views id v at in
          let old : IsPermutation (v.claimed ++ n.0) (below (min h.claim k.frontier)) =
          then (IsPermutation-sym _ _ n.1) h.all_claims in
          subst (IsPermutation (claims (set s.views id w))) (sym g.claims_are)
          (then (n.2 w)
          (subst (λ l. IsPermutation (l ++ n.0) (g.new ++ below (min h.claim k.frontier)))
          (sym g.claimed)
          (subst (λ l. IsPermutation l (g.new ++ below (min h.claim k.frontier)))
          (sym (append_assoc g.new v.claimed n.0)) (IsPermutation-append_right g.new _ _ old))))

      claim_is : c2 ≤ k.frontier + total (λ x. x.ended) (set s.views id w)
      claim_is =
          let e = total_set (λ x. x.ended) s.views id v w at in
          ⊎_elim (λ le. omega arith) (λ le. omega (arith, e, g.ended, h.claim_is)) g.claim.1

      each : (j : ℕ) (x : View) → get_elem? (set s.views id w) j ≡ some x → Fits k b2 c2 i2 t2 x
      each j x e =
          ⊎_elim (λ p. subst (Fits k b2 c2 i2 t2) p.1 g.fits)
          (λ p. fits_on h.best h.claim h.items h.stop b2 c2 i2 t2 x (omega (arith, g.best))
          g.claim.0 (omega (arith, g.items)) (omega (arith, g.stop)) (h.each j x p.1))
          (at_set s.views id j w x e)

  -- a step on one word, from what the word becomes
  lift : (slots id word : ℕ) (f : ℕ → ℕ) (me : Me ℕ View) (T : ℕ → Me ℕ View → Type 0)
      → ((s : State ℕ View) (h : Holds k s) → get_elem? s.views id ≡ some me.0
      → (w : View) × (b2 : ℕ) × (c2 : ℕ) × (i2 : ℕ) × (t2 : ℕ)
      × Gains h.best h.claim h.items h.stop me.0 w b2 c2 i2 t2
      × (slice_set (four h.best h.claim h.items h.stop) word
      (f (slice_index (four h.best h.claim h.items h.stop) word)) ≡ four b2 c2 i2 t2)
      × T (slice_index (four h.best h.claim h.items h.stop) word) (w, me.1))
      → Allows (Holds k) slots id me word f T
  lift slots id word f me T go s h many at small =
      let g = go s h at in (
        g.0,
        keeps,
        tt,
        stepped_holds s h id me.0 g.0 at g.1 g.2 g.3 g.4 g.5 _
            (subst (λ ws. slice_set ws word (f (slice_index ws word)) ≡ four g.1 g.2 g.3 g.4)
            (sym h.words) g.6),
        subst (λ ws. T (slice_index ws word) (g.0, me.1)) (sym h.words) g.7,
      )

  pub may_read : (slots id : ℕ) (me : Me ℕ View)
      → Allows (Holds k) slots id me 0 (λ n. n) (Reads (step slots 0 0 0 none) me)
  may_read slots id me = lift slots id 0 (λ n. n) me (Reads (step slots 0 0 0 none) me) (λ s h at.
      let f = h.each id me.0 at in (
        has_read h.best me.0,
        h.best,
        h.claim,
        h.items,
        h.stop,
        record {
          new = [];
          value = 0;
          over = 0;
          more = 0;
          code = 0;
          places = refl;
          claimed = refl;
          claims_are = refl;
          ended = omega arith;
          claim = (omega arith, inr (omega arith));
          raised = omega arith;
          best = omega arith;
          counted = omega arith;
          items = omega arith;
          halts = omega arith;
          stop = omega arith;
          fits = record {
            idle = f.idle;
            frontier = f.frontier;
            knows = f.knows;
            seen = omega (arith, f.seen);
            claimed = f.claimed;
            once = f.once;
            ended = f.ended;
            counted = f.counted;
            seen_total = f.seen_total;
            halted = f.halted;
            cause = f.cause;
          };
        },
        refl,
        refl,
      ))

  pub may_look : (slots id : ℕ) (me : Me ℕ View)
      → Allows (Holds k) slots id me 3 (λ n. n) (Looks (step slots 3 0 0 none) me)
  may_look slots id me = lift slots id 3 (λ n. n) me (Looks (step slots 3 0 0 none) me) (λ s h at.
      let f = h.each id me.0 at in (
        has_looked h.stop me.0,
        h.best,
        h.claim,
        h.items,
        h.stop,
        record {
          new = [];
          value = 0;
          over = 0;
          more = 0;
          code = 0;
          places = refl;
          claimed = refl;
          claims_are = refl;
          ended = omega arith;
          claim = (omega arith, inr (omega arith));
          raised = omega arith;
          best = omega arith;
          counted = omega arith;
          items = omega arith;
          halts = omega arith;
          stop = omega arith;
          fits = record {
            idle = f.idle;
            frontier = f.frontier;
            knows = f.knows;
            seen = f.seen;
            claimed = f.claimed;
            once = f.once;
            ended = f.ended;
            counted = f.counted;
            seen_total = f.seen_total;
            halted = omega (arith, f.halted);
            cause = f.cause;
          };
        },
        refl,
        refl,
      ))

  pub may_raise : (slots id value : ℕ) (me : Me ℕ View) → me.0.places ≡ 1
      → Allows (Holds k) slots id me 0 (λ n. max n value) (Raises (step slots 0 value 0 none) me)
  may_raise slots id value me one =
      lift slots id 0 (λ n. max n value) me (Raises (step slots 0 value 0 none) me) (λ s h at.
      let f = h.each id me.0 at in (
        has_raised value h.best me.0,
        max h.best value,
        h.claim,
        h.items,
        h.stop,
        record {
          new = [];
          value = value;
          over = 0;
          more = 0;
          code = 0;
          places = refl;
          claimed = refl;
          claims_are = refl;
          ended = omega arith;
          claim = (omega arith, inr (omega arith));
          raised = refl;
          best = refl;
          counted = omega arith;
          items = omega arith;
          halts = omega arith;
          stop = omega arith;
          fits = record {
            idle = λ e. absurd (omega arith);
            frontier = f.frontier;
            knows = f.knows;
            seen = omega (arith, f.seen);
            claimed = f.claimed;
            once = f.once;
            ended = f.ended;
            counted = f.counted;
            seen_total = f.seen_total;
            halted = f.halted;
            cause = f.cause;
          };
        },
        refl,
        refl,
      ))

  pub may_count : (slots id more : ℕ) (me : Me ℕ View) → me.0.places ≡ 1
      → me.0.counted + more ≤ 2 ^ 41
      → Allows (Holds k) slots id me 2 (λ n. (n + more) % 18446744073709551616)
      (Counts (step slots 2 more 0 none) me)
  may_count slots id more me one few =
      lift slots id 2 (λ n. (n + more) % 18446744073709551616) me
      (Counts (step slots 2 more 0 none) me) (λ s h at.
      let f = h.each id me.0 at in
      let all = counted_all s h in
      let own = total_at (λ x. x.counted) s.views id me.0 at in
      let fit : h.items + more < 18446744073709551616 =
      omega (arith, h.items_are, h.all_places, h.good.places, h.good.items, all, few) in (
        has_counted more h.items me.0,
        h.best,
        h.claim,
        h.items + more,
        h.stop,
        record {
          new = [];
          value = 0;
          over = 0;
          more = more;
          code = 0;
          places = refl;
          claimed = refl;
          claims_are = refl;
          ended = omega arith;
          claim = (omega arith, inr (omega arith));
          raised = omega arith;
          best = omega arith;
          counted = refl;
          items = refl;
          halts = omega arith;
          stop = omega arith;
          fits = record {
            idle = λ e. absurd (omega arith);
            frontier = f.frontier;
            knows = f.knows;
            seen = f.seen;
            claimed = f.claimed;
            once = f.once;
            ended = f.ended;
            counted = omega (arith, one, few);
            seen_total = omega arith;
            halted = f.halted;
            cause = λ e. omega (arith, f.cause e);
          };
        },
        ap (λ n. four h.best h.claim n h.stop) (mod-eq_of_lt fit),
        (refl, omega (arith, own, h.items_are), fit),
      ))
    where
      -- no more were counted than the views may count
      counted_all : (s : State ℕ View) (h : Holds k s)
          → total (λ x. x.counted) s.views ≤ total (λ x. x.places) s.views * 2 ^ 41
      counted_all s h = go s.views (λ i v e. (h.each i v e).counted)
        where
          go : (vs : List View) → ((i : ℕ) (v : View) → get_elem? vs i ≡ some v
              → v.counted ≤ v.places * 2 ^ 41)
              → total (λ x. x.counted) vs ≤ total (λ x. x.places) vs * 2 ^ 41
          go [] f = omega arith
          go (v ∷ vs) f =
              let a = f 0 v refl in
              let b = go vs (λ i w e. f (suc i) w e) in
              omega arith

  pub may_halt : (slots id code : ℕ) (me : Me ℕ View) → me.0.places ≡ 1
      → (2 ≤ code) ⊎ (k.limit < me.0.total)
      → Allows (Holds k) slots id me 3 (λ n. max n code) (Halts (step slots 3 code 0 none) me)
  may_halt slots id code me one cause =
      lift slots id 3 (λ n. max n code) me (Halts (step slots 3 code 0 none) me) (λ s h at.
      let f = h.each id me.0 at in (
        has_halted code h.stop me.0,
        h.best,
        h.claim,
        h.items,
        max h.stop code,
        record {
          new = [];
          value = 0;
          over = 0;
          more = 0;
          code = code;
          places = refl;
          claimed = refl;
          claims_are = refl;
          ended = omega arith;
          claim = (omega arith, inr (omega arith));
          raised = omega arith;
          best = omega arith;
          counted = omega arith;
          items = omega arith;
          halts = refl;
          stop = refl;
          fits = record {
            idle = λ e. absurd (omega arith);
            frontier = f.frontier;
            knows = f.knows;
            seen = f.seen;
            claimed = f.claimed;
            once = f.once;
            ended = f.ended;
            counted = f.counted;
            seen_total = f.seen_total;
            halted = omega (arith, f.halted);
            cause = λ e. ⊎_elim (λ two. absurd (omega arith)) (λ lt. omega (arith, f.seen_total))
                cause;
          };
        },
        refl,
        refl,
      ))

  pub may_claim : (slots id : ℕ) (me : Me ℕ View) → me.0.places ≡ 1 → me.0.ended ≡ 0
      → Allows (Holds k) slots id me 1 (λ n. (n + 1) % 18446744073709551616)
      (Claims (step slots 1 1 0 none) me)
  may_claim slots id me one none_yet =
      lift slots id 1 (λ n. (n + 1) % 18446744073709551616) me
      (Claims (step slots 1 1 0 none) me) (λ s h at.
      let f = h.each id me.0 at in
      let all = ended_all s.views (λ i v e. (h.each i v e).once) id me.0 at one none_yet in
      let fit : h.claim + 1 < 18446744073709551616 =
      omega (arith, h.claim_is, h.all_places, h.good.places, h.good.frontier, all) in
      let same : me.0.frontier ≡ k.frontier = omega (arith, f.frontier, f.knows (omega arith)) in (
        has_claimed h.claim me.0,
        h.best,
        h.claim + 1,
        h.items,
        h.stop,
        gained h.best h.claim h.items h.stop f same (nat_lt h.claim me.0.frontier) refl,
        ap (λ n. four h.best n h.items h.stop) (mod-eq_of_lt fit),
        (refl, f.claimed),
      ))
    where
      -- fewer found none left than there are places, where one has not
      ended_all : (vs : List View) → ((i : ℕ) (v : View) → get_elem? vs i ≡ some v
          → v.ended ≤ v.places) → (i : ℕ) (v : View) → get_elem? vs i ≡ some v → v.places ≡ 1
          → v.ended ≡ 0 → total (λ x. x.ended) vs + 1 ≤ total (λ x. x.places) vs
      ended_all [] f i v e one none_yet = absurd (some-ne-none v (sym e))
      ended_all (x ∷ vs) f zero v e one none_yet =
          let p : x.places ≡ v.places = ap (λ (y : View). y.places) (some-injective x v e) in
          let q : x.ended ≡ v.ended = ap (λ (y : View). y.ended) (some-injective x v e) in
          let others = ended_le vs (λ i w e. f (suc i) w e) in
          omega arith
        where
          ended_le : (vs : List View) → ((i : ℕ) (v : View) → get_elem? vs i ≡ some v
              → v.ended ≤ v.places) → total (λ x. x.ended) vs ≤ total (λ x. x.places) vs
          ended_le [] f = omega arith
          ended_le (v ∷ vs) f =
              let a = f 0 v refl in
              let b = ended_le vs (λ i w e. f (suc i) w e) in
              omega arith
      ended_all (x ∷ vs) f (suc i) v e one none_yet =
          let a = f 0 x refl in
          let b = ended_all vs (λ i w e. f (suc i) w e) i v e one none_yet in
          omega arith

      gained : (b c i t : ℕ) → Fits k b c i t me.0 → me.0.frontier ≡ k.frontier
          → (m : Bool) → nat_lt c me.0.frontier ≡ m
          → Gains b c i t me.0
          (cond m (record me.0 { claimed = c ∷ me.0.claimed })
          (record me.0 { ended = me.0.ended + 1 })) b (c + 1) i t
      gained b c i t f same true is =
          let lt : c < me.0.frontier = grind (arith, nat_tests) in
          let low : min c k.frontier ≡ c = omega arith in
          let next : min (c + 1) k.frontier ≡ suc c = omega arith in
          record {
            new = c ∷ [];
            value = 0;
            over = 0;
            more = 0;
            code = 0;
            places = refl;
            claimed = refl;
            claims_are = ap below next ∙ sym (ap (λ n. c ∷ below n) low);
            ended = omega arith;
            claim = (omega arith, inl (omega arith));
            raised = omega arith;
            best = omega arith;
            counted = omega arith;
            items = omega arith;
            halts = omega arith;
            stop = omega arith;
            fits = record {
              idle = λ e. absurd (omega arith);
              frontier = f.frontier;
              knows = f.knows;
              seen = f.seen;
              claimed = omega arith;
              once = f.once;
              ended = λ e. omega (arith, f.ended e);
              counted = f.counted;
              seen_total = f.seen_total;
              halted = f.halted;
              cause = f.cause;
            };
          }
      gained b c i t f same false is =
          let ge : me.0.frontier ≤ c = grind (arith, nat_tests) in
          let high : min (c + 1) k.frontier ≡ min c k.frontier = omega arith in
          record {
            new = [];
            value = 0;
            over = 1;
            more = 0;
            code = 0;
            places = refl;
            claimed = refl;
            claims_are = ap below high;
            ended = refl;
            claim = (omega arith, inr (omega arith));
            raised = omega arith;
            best = omega arith;
            counted = omega arith;
            items = omega arith;
            halts = omega arith;
            stop = omega arith;
            fits = record {
              idle = λ e. absurd (omega arith);
              frontier = f.frontier;
              knows = f.knows;
              seen = f.seen;
              claimed = omega (arith, f.claimed);
              once = omega arith;
              ended = λ e. omega arith;
              counted = f.counted;
              seen_total = f.seen_total;
              halted = f.halted;
              cause = f.cause;
            };
          }
