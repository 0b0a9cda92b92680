-- Lanes in a list: one of them is replaced, and what the place knows changes at one edge.
use Rattle.std.proofs.Common.{◌≡◌, ◌≢◌, ℕ, ◌*◌, ◌<◌, ◌⊎◌, true, false, List, length, get_or, set}
use Rattle.std.proofs.Common.{Option, Some, None, get_or-set_same, get_or-set_other, refl, sym, ap}
use Rattle.std.proofs.Common.{subst, ◌∙◌, inl, inr, ⊎_elim, arith}
use Rattle.std.specs.Prelude.{IfSome}
use Rattle.std.proofs.Math.ListN.{length-set}
use Rattle.std.proofs.lemmas.Bool.{cases_eq}
use Rattle.atomic_table.specs.Seated.{TableId}
use Rattle.glb_rules.specs.Events.{name_of}
use Rattle.glb_rules.specs.World.{has_edge}
use Rattle.glb_rules.specs.declared.kinds.Kind.{Kind}
use Rattle.glb_rules.specs.declared.kinds.Kind.TheVariants as kind
use Rattle.glb_rules.specs.declared.kinds.Edge.{Edge}
use Rattle.glb_rules.specs.declared.kinds.Side.{Side}
use Rattle.glb_rules.specs.declared.kinds.Side.TheVariants as side
use Rattle.glb_rules.proofs.CallerLemmas.{kind_cases}
use Rattle.glb_core.proofs.CallerLemmas.{get_or-any}
use Rattle.glb_place.specs.declared.record.Record.{Record}
use Rattle.glb_place.specs.Records.{setup_in}
use Rattle.glb_place.specs.Calls.{IsOwn}
use Rattle.glb_place.specs.Rows.{known_row}
use Rattle.glb_inbox.specs.declared.lane.Lane.{Lane}
use Rattle.glb_inbox.specs.Keeping.{lane_at}
use Rattle.glb_inbox.specs.inner.Lanes.{IsLane, AreLanes, Mirrors, LanesStay, KnowsAsBefore}
use Rattle.glb_inbox.specs.inner.Lanes.{SetsInward, SetsOutward}
use Rattle.glb_inbox.proofs.Knowing.{hit, miss}

pub lane_below : (n : ℕ) (k : Kind) (o : ℕ) → o < n → lane_at n k o < 2 * n
lane_below n kind.Steal o l = omega arith
lane_below n kind.Line o l = omega arith

pub lanes_differ : (n : ℕ) (k : Kind) (o : ℕ) (j : Kind) (w : ℕ) → o < n → w < n → (j ≢ k) ⊎ (w ≢ o)
    → lane_at n j w ≢ lane_at n k o
lanes_differ n kind.Steal o kind.Steal w l m d e = ⊎_elim (λ a. a refl) (λ b. b e) d
lanes_differ n kind.Steal o kind.Line w l m d e = omega arith
lanes_differ n kind.Line o kind.Steal w l m d e = omega arith
lanes_differ n kind.Line o kind.Line w l m d e = ⊎_elim (λ a. a refl) (λ b. b (omega arith)) d

either : (k : Kind) (o : ℕ) (j : Kind) (w : ℕ) → ((j ≡ k) × (w ≡ o)) ⊎ ((j ≢ k) ⊎ (w ≢ o))
either k o j w = ⊎_elim
    (λ (a : j ≡ k). ⊎_elim (λ (b : w ≡ o). inl (a, b)) (λ (b : w ≢ o). inr (inr b)) (cases_eq w o))
    (λ (a : j ≢ k). inr (inl a))
    (kind_cases j k)

module _ {B I : Type 0} where
  -- one lane is replaced
  put_here : (lanes : List (Lane B I)) (at : ℕ) (a d : Lane B I) → at < length lanes
      → get_or (set lanes at a) at d ≡ a
  put_here lanes at a d l = get_or-set_same lanes at a d l

  put_else : (lanes : List (Lane B I)) (at i : ℕ) (a d : Lane B I) → i ≢ at
      → get_or (set lanes at a) i d ≡ get_or lanes i d
  put_else lanes at i a d n = get_or-set_other lanes at i a d n

  any : (lanes : List (Lane B I)) (i : ℕ) (d e : Lane B I) → i < length lanes
      → get_or lanes i d ≡ get_or lanes i e
  any lanes i d e l = get_or-any lanes i d e l

  -- where a field of the lane stays, it stays of all lanes
  stays_all : {A : Type 0} (f : Lane B I → A) (lanes : List (Lane B I)) (at : ℕ) (a was : Lane B I)
      → at < length lanes
      → was ≡ get_or lanes at was → f a ≡ f was → (i : ℕ) (d : Lane B I)
      → f (get_or (set lanes at a) i d) ≡ f (get_or lanes i d)
  stays_all f lanes at a was l is same i d = ⊎_elim
      (λ (e : i ≡ at). rw e (ap f (put_here lanes at a d l) ∙ same
      ∙ ap f (is ∙ any lanes at was d l)))
      (λ (e : i ≢ at). ap f (put_else lanes at i a d e))
      (cases_eq i at)

  pub lane_field : {A : Type 0} (f : Lane B I → A) (lanes : List (Lane B I)) (at at' : ℕ)
      (was d : Lane B I) → at < length lanes → at ≡ at'
      → was ≡ get_or lanes at was → f was ≡ f (get_or lanes at' d)
  lane_field f lanes at at' was d l same is = ap f (is ∙ any lanes at was d l)
      ∙ ap (λ i. f (get_or lanes i d)) same

  pub lanes_stay : (lanes : List (Lane B I)) (at : ℕ) (a was : Lane B I) → at < length lanes
      → was ≡ get_or lanes at was
      → a.inward_looks ≡ was.inward_looks → a.outward_looks ≡ was.outward_looks
      → LanesStay lanes (set lanes at a)
  lanes_stay lanes at a was l is p q i d = record {
    inward_looks = stays_all (λ x. x.inward_looks) lanes at a was l is p i d;
    outward_looks = stays_all (λ x. x.outward_looks) lanes at a was l is q i d;
  }

  pub knows_as_before : (lanes : List (Lane B I)) (at : ℕ) (a was : Lane B I) → at < length lanes
      → was ≡ get_or lanes at was
      → a.inward ≡ was.inward → a.outward ≡ was.outward → KnowsAsBefore lanes (set lanes at a)
  knows_as_before lanes at a was l is p q = record {
    inward = stays_all (λ x. x.inward) lanes at a was l is p;
    outward = stays_all (λ x. x.outward) lanes at a was l is q;
  }

  pub knows_itself : (lanes : List (Lane B I)) → KnowsAsBefore lanes lanes
  knows_itself lanes = record {
    inward = λ i d. refl;
    outward = λ i d. refl;
  }

  pub sets_outward : (lanes : List (Lane B I)) (at : ℕ) (a was : Lane B I) (x : Edge)
      → at < length lanes → was ≡ get_or lanes at was
      → a.outward ≡ x → a.inward ≡ was.inward → SetsOutward at x lanes (set lanes at a)
  sets_outward lanes at a was x l is e same = record {
    here = λ d. ap (λ y. y.outward) (put_here lanes at a d l) ∙ e;
    others = λ i d n. ap (λ y. y.outward) (put_else lanes at i a d n);
    inward = stays_all (λ y. y.inward) lanes at a was l is same;
  }

  pub sets_inward : (lanes : List (Lane B I)) (at : ℕ) (a was : Lane B I) (x : Edge)
      → at < length lanes → was ≡ get_or lanes at was
      → a.inward ≡ x → a.outward ≡ was.outward → SetsInward at x lanes (set lanes at a)
  sets_inward lanes at a was x l is e same = record {
    here = λ d. ap (λ y. y.inward) (put_here lanes at a d l) ∙ e;
    others = λ i d n. ap (λ y. y.inward) (put_else lanes at i a d n);
    outward = stays_all (λ y. y.outward) lanes at a was l is same;
  }

  pub lane_is : {P : Type 0} {items : B → List I} {fits : B → P → Type 0} {id : TableId} {q : P}
      (n : ℕ) (lanes : List (Lane B I))
      → AreLanes items fits id q n lanes → (k : Kind) (o at : ℕ) (was : Lane B I) → o < n
      → at ≡ lane_at n k o → was ≡ get_or lanes at was
      → IsLane items fits id q k was
  lane_is {items = items} {fits = fits} {id = id} {q = q} n lanes L k o at was l e is =
      let here : was ≡ get_or lanes (lane_at n k o) was = is ∙ ap (λ i. get_or lanes i was) e in
      subst (IsLane items fits id q k) (sym here) (L.each k o was l)

  pub lanes_set : {P : Type 0} {items : B → List I} {fits : B → P → Type 0} {id : TableId} {q : P}
      (n : ℕ) (lanes : List (Lane B I))
      → AreLanes items fits id q n lanes → (k : Kind) (o at : ℕ) (a : Lane B I) → o < n
      → at ≡ lane_at n k o → IsLane items fits id q k a
      → AreLanes items fits id q n (set lanes at a)
  lanes_set {items = items} {fits = fits} {id = id} {q = q} n lanes L k o at a l is A =
      subst (λ i. AreLanes items fits id q n (set lanes i a)) (sym is) (record {
        wide = length-set lanes (lane_at n k o) a ∙ L.wide;
        each = λ j w d m. ⊎_elim
            (λ (same : (j ≡ k) × (w ≡ o)).
            let at : lane_at n k o < length lanes =
            (let b = lane_below n k o l in let c = L.wide in omega arith) in
            rw (same.0, same.1) (subst (IsLane items fits id q k)
            (sym (put_here lanes (lane_at n k o) a d at)) A))
            (λ (differ : (j ≢ k) ⊎ (w ≢ o)).
            subst (IsLane items fits id q j)
            (sym (put_else lanes (lane_at n k o) (lane_at n j w) a d
            (lanes_differ n k o j w l m differ))) (L.each j w d m))
            (either k o j w);
      })

  -- an own edge leads to another place
  pub own_apart : (lanes : List (Lane B I)) (r : Record I) → Mirrors lanes r
      → (o : ℕ) (k : Kind) (s : Side) → IsOwn r o k s → o ≢ r.place
  own_apart lanes r M o k side.Inward own e =
      let t : has_edge (setup_in r) k r.place r.place ≡ true = subst
      (λ i. has_edge (setup_in r) k i r.place ≡ true) e own.1 in
      let f : false ≡ true = sym (M.alone k) ∙ t in cc
  own_apart lanes r M o k side.Outward own e =
      let t : has_edge (setup_in r) k r.place r.place ≡ true = subst
      (λ i. has_edge (setup_in r) k r.place i ≡ true) e own.1 in
      let f : false ≡ true = sym (M.alone k) ∙ t in cc

  pub mirrors_same : (old new : List (Lane B I)) (r : Record I) → KnowsAsBefore old new
      → Mirrors old r → Mirrors new r
  mirrors_same old new r K M = record {
    inward = λ k o d l. K.inward _ d ∙ M.inward k o d l;
    outward = λ k o d l. K.outward _ d ∙ M.outward k o d l;
    itself = M.itself;
    alone = M.alone;
  }

  pub mirrors_out : (old new : List (Lane B I)) (r : Record I) (k : Kind) (v : ℕ) (x : Edge)
      → Mirrors old r
      → SetsOutward (lane_at r.lines.places k v) x old new → v < r.lines.places → v ≢ r.place
      → Mirrors new (known_row (name_of k r.place v) x r)
  mirrors_out old new r k v x M S l apart = record {
    inward = λ j o d m. S.inward _ d ∙ M.inward j o d m
        ∙ sym (miss r.known k r.place v x j o r.place (other j o));
    outward = λ j o d m. ⊎_elim
        (λ (same : (j ≡ k) × (o ≡ v)).
        rw (same.0, same.1) (S.here d ∙ sym (hit r.known k r.place v x)))
        (λ (differ : (j ≢ k) ⊎ (o ≢ v)).
        S.others _ d (lanes_differ r.lines.places k v j o l m differ) ∙ M.outward j o d m
        ∙ sym (miss r.known k r.place v x j r.place o
        (⊎_elim (λ a. inl a) (λ b. inr (inr b)) differ)))
        (either k v j o);
    itself = λ j. miss r.known k r.place v x j r.place r.place (inr (inr (λ e. apart (sym e))))
        ∙ M.itself j;
    alone = M.alone;
  }
    where
      other : (j : Kind) (o : ℕ) → (j ≢ k) ⊎ (o ≢ r.place) ⊎ (r.place ≢ v)
      other j o = inr (inr (λ e. apart (sym e)))

  pub mirrors_in : (old new : List (Lane B I)) (r : Record I) (k : Kind) (t : ℕ) (x : Edge)
      → Mirrors old r
      → SetsInward (lane_at r.lines.places k t) x old new → t < r.lines.places → t ≢ r.place
      → Mirrors new (known_row (name_of k t r.place) x r)
  mirrors_in old new r k t x M S l apart = record {
    outward = λ j o d m. S.outward _ d ∙ M.outward j o d m
        ∙ sym (miss r.known k t r.place x j r.place o (inr (inl (λ e. apart (sym e)))));
    inward = λ j o d m. ⊎_elim
        (λ (same : (j ≡ k) × (o ≡ t)).
        rw (same.0, same.1) (S.here d ∙ sym (hit r.known k t r.place x)))
        (λ (differ : (j ≢ k) ⊎ (o ≢ t)).
        S.others _ d (lanes_differ r.lines.places k t j o l m differ) ∙ M.inward j o d m
        ∙ sym (miss r.known k t r.place x j o r.place
        (⊎_elim (λ a. inl a) (λ b. inr (inl b)) differ)))
        (either k t j o);
    itself = λ j. miss r.known k t r.place x j r.place r.place (inr (inl (λ e. apart (sym e))))
        ∙ M.itself j;
    alone = M.alone;
  }

-- a fact of what is there, if it is, gives another
pub if_some : {S : Type 0} (F G : S → Type 0) → ((s : S) → F s → G s) → (o : Option S) → IfSome o F
    → IfSome o G
if_some F G f None h = h
if_some F G f (Some s) h = f s h
