-- The rule holds at the start.
use Rattle.std.proofs.Common.{◌≡◌, ◌≢◌, ℕ, zero, suc, ◌<◌, ◌⊎◌, Bool, true, false, cond, List, []}
use Rattle.std.proofs.Common.{◌∷◌, ◌++◌, refl, sym, ap, subst, ◌∙◌, inl, inr, ⊎_elim, arith}
use Rattle.std.proofs.Common.{append-nil}
use Rattle.std.proofs.lemmas.Bool.{cases_eq}
use Rattle.std.specs.List.{flat_map}
use Rattle.std.proofs.lemmas.Grind.{flat_map-append}
use Rattle.glb_laws.proofs.Expansions.{expansion_start}
use Rattle.glb_laws.specs.Sums.{sum_to}
use Rattle.glb_rules.specs.Joins.{join_to}
use Rattle.glb_rules.specs.World.{busy_count, idle_count, has_line, has_edge, state_of}
use Rattle.glb_rules.specs.Setups.{bit, degree, has_items}
use Rattle.glb_rules.specs.Lawful.{Inner, Counted, IsLawful, armed_at_start, sum_of_own_edges}
use Rattle.glb_rules.specs.Lawful.{idle_lines_of}
use Rattle.glb_rules.specs.History.{first_edge, first_line, first_phase, first_credit, start}
use Rattle.glb_rules.specs.declared.kinds.Kind.{Kind}
use Rattle.glb_rules.specs.declared.kinds.Kind.TheVariants as kind
use Rattle.glb_rules.specs.declared.kinds.Edge.{Edge}
use Rattle.glb_rules.specs.declared.kinds.Edge.TheVariants as seen
use Rattle.glb_rules.specs.declared.kinds.Phase.TheVariants as phase
use Rattle.glb_rules.specs.declared.kinds.Credit.TheVariants as credit
use Rattle.glb_rules.proofs.CallerLemmas.{start_lawful}
use Rattle.glb_rules.proofs.CallerLemmas.{sum_same, sum_zero, sum_plus}
use Rattle.glb_place.specs.declared.record.KnownEdge.{KnownEdge}
use Rattle.glb_place.specs.declared.record.Record.{Record}
use Rattle.glb_place.specs.Records.{known_at, IsFirst}
use Rattle.glb_inbox.specs.declared.view.Member.{Member}
use Rattle.glb_inbox.specs.declared.view.Member.TheVariants.{Place}
use Rattle.glb_inbox.specs.inner.Members.{total, Each, wanted, busy_when, idle_when, held, tally}
use Rattle.glb_inbox.specs.inner.Members.{places_in, requests, refusals, parcels, units_in, credits}
use Rattle.glb_inbox.specs.inner.Members.{by_place, done_in, left_in}
use Rattle.glb_inbox.specs.inner.Rule.{Job, IsGoodJob, Sound, Fine, Ruled, own_busy, own_free}
use Rattle.glb_inbox.specs.inner.Rule.{setup, IsArmedWhen}
use Rattle.glb_inbox.specs.inner.Begins.{known_lines, known_below, first_record, first_seat}
use Rattle.glb_inbox.proofs.Totals.{total_append, each_append}
use Rattle.glb_inbox.proofs.Knowing.{hit, miss}

-- a sum over places and their edges, taken the other way round
pub sum_swap : (n m : ℕ) (f : ℕ → ℕ → ℕ) → sum_to n (λ p. sum_to m (λ v. f p v))
    ≡ sum_to m (λ v. sum_to n (λ p. f p v))
sum_swap zero m f = sym (sum_zero m (λ v. 0) (λ k l. refl))
sum_swap (suc n) m f =
    let e = sum_swap n m f in
    let q = sum_plus m (λ v. sum_to n (λ p. f p v)) (λ v. f n v) in
    omega arith

module _ {A : Type 0} where
  pub total_join : (f : A → ℕ) (g : ℕ → A) (n : ℕ) → total f (join_to n (λ p. g p ∷ []))
      ≡ sum_to n (λ p. f (g p))
  total_join f g zero = refl
  total_join f g (suc n) = let e = total_join f g n in let a = total_append f
      (join_to n (λ p. g p ∷ [])) (g n ∷ []) in omega arith

  each_join : (F : A → Type 0) (g : ℕ → A) (n : ℕ) → ((p : ℕ) → p < n → F (g p))
      → Each F (join_to n (λ p. g p ∷ []))
  each_join F g zero h = tt
  each_join F g (suc n) h = each_append F (join_to n (λ p. g p ∷ [])) (g n ∷ [])
      (each_join F g n (λ p l. h p (omega arith))) (h n (omega arith), tt)

  join_join : {B : Type 0} (f : A → List B) (g : ℕ → A) (n : ℕ)
      → flat_map f (join_to n (λ p. g p ∷ [])) ≡ join_to n (λ p. f (g p))
  join_join f g zero = refl
  join_join f g (suc n) =
      flat_map-append f (join_to n (λ p. g p ∷ [])) (g n ∷ [])
      ∙ (λ i. join_join f g n i ++ append-nil (f (g n)) i)

join_none : {B : Type 0} (n : ℕ) → join_to {I = B} n (λ p. []) ≡ []
join_none zero = refl
join_none (suc n) = append-nil (join_to n (λ p. [])) ∙ join_none n

sum_ones : (n : ℕ) → sum_to n (λ p. 1) ≡ n
sum_ones zero = refl
sum_ones (suc n) = let e = sum_ones n in omega arith

module _ {I : Type 0} (j : Job I) (bags : ℕ → List I) (awake_is : (p : ℕ)
    → j.awake p ≡ has_items (bags p)) where
  abbrev edge_at : ℕ → ℕ → Edge
  edge_at t v = state_of (first_edge {I = I} (setup j) kind.Line t v)

  lines_here : (t n v : ℕ) (rest : List KnownEdge) → v < n
      → known_at (known_lines j t n rest) kind.Line t v ≡ edge_at t v
  lines_here t zero v rest l = absurd (omega arith)
  lines_here t (suc n) v rest l = ⊎_elim
      (λ (e : v ≡ n). rw e (hit (known_lines j t n rest) kind.Line t n (edge_at t n)))
      (λ (e : v ≢ n). miss (known_lines j t n rest) kind.Line t n (edge_at t n) kind.Line t v
      (inr (inr e)) ∙ lines_here t n v rest (omega arith))
      (cases_eq v n)

  lines_else : (t n : ℕ) (k : Kind) (u v : ℕ) (rest : List KnownEdge) → (k ≢ kind.Line) ⊎ (u ≢ t)
      → known_at (known_lines j t n rest) k u v ≡ known_at rest k u v
  lines_else t zero k u v rest d = refl
  lines_else t (suc n) k u v rest d =
      miss (known_lines j t n rest) kind.Line t n (edge_at t n) k u v
      (⊎_elim (λ a. inl a) (λ a. inr (inl a)) d) ∙ lines_else t n k u v rest d

  pub below_here : (m t v : ℕ) → t < m → v < j.lines.places
      → known_at (known_below j m) kind.Line t v ≡ edge_at t v
  below_here zero t v l b = absurd (omega arith)
  below_here (suc m) t v l b = ⊎_elim
      (λ (e : t ≡ m). rw e (lines_here m j.lines.places v (known_below j m) b))
      (λ (e : t ≢ m). lines_else m j.lines.places kind.Line t v (known_below j m) (inr e)
      ∙ below_here m t v (omega arith) b)
      (cases_eq t m)

  pub below_steal : (m t v : ℕ) → known_at (known_below j m) kind.Steal t v ≡ seen.Idle
  below_steal zero t v = refl
  below_steal (suc m) t v = lines_else m j.lines.places kind.Steal t v (known_below j m)
      (inl (λ e. cc)) ∙ below_steal m t v

  abbrev first : ℕ → Record I
  first p = first_record j bags p

  lawful : IsLawful (setup j) (start (setup j) bags)
  lawful = start_lawful (setup j) bags (λ p l. awake_is p)

  busy_like : (a b : Bool) → busy_when (state_of (first_line {I = I} a b))
      ≡ busy_count (first_line {I = I} a b)
  busy_like true b = refl
  busy_like false true = refl
  busy_like false false = refl

  idle_like : (a b : Bool) → idle_when (state_of (first_line {I = I} a b))
      ≡ idle_count (first_line {I = I} a b)
  idle_like true b = refl
  idle_like false true = refl
  idle_like false false = refl

  steal_busy : (p : ℕ) → own_busy kind.Steal (first p) ≡ sum_of_own_edges (setup j)
      (start (setup j) bags) kind.Steal p busy_count
  steal_busy p = sum_same j.lines.places _ _ (λ v l. rw (below_steal j.lines.places p v) refl)

  line_busy : (p : ℕ) → p < j.lines.places → own_busy kind.Line (first p)
      ≡ sum_of_own_edges (setup j) (start (setup j) bags) kind.Line p busy_count
  line_busy p b = sum_same j.lines.places _ _
      (λ v l. ap busy_when (below_here j.lines.places p v b l) ∙ busy_like (j.awake p)
      (has_line (setup j) p v))

  line_free : (p : ℕ) → p < j.lines.places → own_free j.awake (first p)
      ≡ idle_lines_of (setup j) (start (setup j) bags) p
  line_free p b = sum_same j.lines.places _ _
      (λ v l. ap (λ x. cond (has_line (setup j) p v) x 0)
      (ap idle_when (below_here j.lines.places p v b l) ∙ idle_like (j.awake p)
      (has_line (setup j) p v)))

  absent_line : (a b : Bool) → b ≡ false → state_of (first_line {I = I} a b) ≡ seen.Idle
  absent_line true b e = refl
  absent_line false true e = absurd (cc)
  absent_line false false e = refl

  armed_line : (a b : Bool) → first_credit a ≡ credit.Zero → b ≡ true
      → IsArmedWhen (state_of (first_line {I = I} a b))
  armed_line true b z e = absurd (cc)
  armed_line false true z e = tt
  armed_line false false z e = absurd (cc)

  not_gone : (a : Bool) → first_phase a ≡ phase.Gone → ⊥
  not_gone true e = cc
  not_gone false e = cc

  part_is : (p : ℕ) → (start (setup j) bags).place p ≡ (first p).local
  part_is p = ap (λ (b : Bool).
      record ((first p).local) { phase = first_phase b; credit = first_credit b }) (awake_is p)

  first_sound : (p : ℕ) → p < j.lines.places → Sound j.awake (first p)
  first_sound p l = record {
    near = l;
    inner = subst (λ a. Inner (setup j) p a) (part_is p) (lawful.inner p l);
    counted = rw (steal_busy p, line_busy p l, line_free p l)
        (subst (λ a. Counted (setup j) p a
        (sum_of_own_edges (setup j) (start (setup j) bags) kind.Steal p busy_count)
        (sum_of_own_edges (setup j) (start (setup j) bags) kind.Line p busy_count)
        (idle_lines_of (setup j) (start (setup j) bags) p)) (part_is p) (lawful.counted p l));
    lone = (let e = sum_zero j.lines.places
        (λ v. busy_when (known_at (known_below j j.lines.places) kind.Steal p v))
        (λ v b. rw (below_steal j.lines.places p v) refl) in omega arith);
    there = λ k v b e. absent k v b e;
    steal = λ v b n w. below_steal j.lines.places p v;
    armed = λ v b z e. rw (below_here j.lines.places p v l b)
        (armed_line (j.awake p) (has_line (setup j) p v) (rw (← awake_is p) at z) e);
    quiet = λ v b z. below_steal j.lines.places p v;
    gone = λ g. absurd (not_gone (has_items (bags p)) g);
  }
    where
      absent : (k : Kind) (v : ℕ) → v < j.lines.places → has_edge (setup j) k p v ≡ false
          → known_at (known_below j j.lines.places) k p v ≡ seen.Idle
      absent kind.Steal v b e = below_steal j.lines.places p v
      absent kind.Line v b e = below_here j.lines.places p v l b ∙ absent_line (j.awake p)
          (has_line (setup j) p v) e

  abbrev pub firsts : List (Member I)
  firsts = join_to j.lines.places (λ p. Place (first_seat j bags p) ∷ [])

  none_of : (f : Member I → ℕ) → ((p : ℕ) → f (Place (first_seat j bags p)) ≡ 0)
      → total f firsts ≡ 0
  none_of f z = total_join f (λ p. Place (first_seat j bags p)) j.lines.places
      ∙ sum_zero j.lines.places (λ p. f (Place (first_seat j bags p))) (λ p l. z p)

  -- each line of a sleeper is a request that its victim holds
  armed_held : total (by_place (armed_at_start (setup j))) firsts
      ≡ total (requests kind.Line) firsts
  armed_held =
      let n = j.lines.places in
      let a = total_join (by_place (armed_at_start (setup j))) (λ p. Place (first_seat j bags p))
      n in
      let b = total_join (requests kind.Line) (λ p. Place (first_seat j bags p)) n in
      let w : ℕ → ℕ → ℕ = λ t v. wanted kind.Line (edge_at t v) in
      let c : sum_to n (λ p. armed_at_start (setup j) p) ≡ sum_to n (λ p. sum_to n (λ v. w p v)) =
      sym (sum_same n (λ p. armed_at_start (setup j) p) (λ p. sum_to n (λ v. w p v))
      (λ p l. armed p (j.awake p))) in
      let d : sum_to n (λ v. held kind.Line (first v)) ≡ sum_to n (λ v. sum_to n (λ p. w p v)) =
      sum_same n (λ v. sum_to n (λ p. w p v)) (λ v. held kind.Line (first v))
      (λ v l. sum_same n (λ p. w p v)
      (λ p. wanted kind.Line (known_at (known_below j n) kind.Line p v))
      (λ p b. ap (wanted kind.Line) (below_here n p v b l))) in
      let s = sum_swap n n w in
      omega arith
    where
      weight : (b : Bool) → wanted kind.Line (state_of (first_line {I = I} false b)) ≡ bit b
      weight true = refl
      weight false = refl

      armed : (p : ℕ) (a : Bool)
          → sum_to j.lines.places (λ v.
          wanted kind.Line (state_of (first_line {I = I} a (has_line (setup j) p v))))
          ≡ cond a 0 (degree (setup j) p)
      armed p true = sum_zero j.lines.places (λ v. 0) (λ v l. refl)
      armed p false = sum_same j.lines.places (λ v. bit (has_line (setup j) p v))
          (λ v. wanted kind.Line (state_of (first_line {I = I} false (has_line (setup j) p v))))
          (λ v l. weight (has_line (setup j) p v))

  no_steals : (p : ℕ) → held kind.Steal (first p) ≡ 0
  no_steals p = sum_zero j.lines.places
      (λ t. wanted kind.Steal (known_at (known_below j j.lines.places) kind.Steal t p))
      (λ t l. rw (below_steal j.lines.places t p) refl)

  -- the rule holds of all places at the start
  pub start_ruled : IsGoodJob j → j.roots ≡ join_to j.lines.places bags
      → Ruled j (total credits firsts) 0 0 firsts
  start_ruled G roots_are =
      let n = j.lines.places in
      let z : (f : _) → ((p : ℕ) → tally f (Place (first_seat j bags p)) ≡ 0)
      → total (tally f) firsts ≡ 0 = λ f h. none_of (tally f) h in
      record {
        good = G;
        sums = record {
          places = total_join places_in (λ p. Place (first_seat j bags p)) n ∙ sum_ones n;
          asks = omega (
            arith,
            z (λ c. c.asks) (λ p. refl),
            z (λ c. c.denied) (λ p. refl),
            z (λ c. c.given) (λ p. refl),
            none_of (requests kind.Steal) no_steals,
          );
          lines = omega (
            arith,
            armed_held,
            z (λ c. c.line_asks) (λ p. refl),
            z (λ c. c.line_given) (λ p. refl),
          );
          denied = omega (
            arith,
            z (λ c. c.denied) (λ p. refl),
            none_of refusals (λ p. refl),
            z (λ c. c.shrugs) (λ p. refl),
          );
          given = omega (
            arith,
            z (λ c. c.given) (λ p. refl),
            none_of (parcels kind.Steal) (λ p. refl),
            z (λ c. c.got) (λ p. refl),
          );
          line_given = omega (
            arith,
            z (λ c. c.line_given) (λ p. refl),
            none_of (parcels kind.Line) (λ p. refl),
            z (λ c. c.line_got) (λ p. refl),
          );
          units = omega (
            arith,
            z (λ c. c.sent_units) (λ p. refl),
            none_of units_in (λ p. refl),
            z (λ c. c.got_units) (λ p. refl),
          );
          live_is = refl;
          items_are = sym (z (λ c. c.items) (λ p. refl));
        };
        each = each_join (Fine j (total credits firsts) 0 0) (λ p. Place (first_seat j bags p)) n
            (λ p l. (
              record {
                params_are = refl;
                lines_are = refl;
                sound = first_sound p l;
                meets = record { over = λ e. absurd (cc); code = omega arith; last = omega arith };
              },
              tt,
            ));
        expansion =
            rw (
              join_join done_in (λ p. Place (first_seat j bags p)) n,
              join_join left_in (λ p. Place (first_seat j bags p)) n,
              ← roots_are,
              join_none {B = I} n,
            )
            (expansion_start j.children j.roots);
        small = omega arith;
        cause = λ e. absurd (omega arith);
        codes = omega arith;
      }

  -- each record is its place's at the start
  pub first_is : (p : ℕ) → IsFirst j.lines j.params p (bags p) (first p)
  first_is p = record {
    place = refl;
    params_are = refl;
    lines_are = refl;
    local = refl;
    awake = j.awake;
    own_awake = awake_is p;
    known = λ k t v l m d. known_first k t v l m;
    last = refl;
    over = refl;
    code = refl;
  }
    where
      known_first : (k : Kind) (t v : ℕ) → t < j.lines.places → v < j.lines.places
          → known_at (known_below j j.lines.places) k t v ≡ state_of {I = I}
          (first_edge (setup j) k t v)
      known_first kind.Steal t v l m = below_steal j.lines.places t v
      known_first kind.Line t v l m = below_here j.lines.places t v l m
