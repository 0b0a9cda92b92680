-- Every step keeps the expansion of the items done and left.
use Rattle.std.proofs.Common.{Bool, true, false, ◌≡◌, ◌≢◌, ℕ, zero, suc, ◌<◌, List, [], ◌∷◌, ◌++◌}
use Rattle.std.proofs.Common.{refl, sym, ap, ◌∙◌, subst, inl, inr, ⊎_elim, append_assoc}
use Rattle.std.proofs.Common.{IsPermutation}
use Rattle.std.proofs.lemmas.List.{append-nil}
use Rattle.std.proofs.lemmas.List.Sorted.{IsPermutation-refl, IsPermutation-sym}
use Rattle.std.proofs.lemmas.List.Sorted.{IsPermutation-trans, IsPermutation-append}
use Rattle.std.proofs.lemmas.List.Sorted.{IsPermutation-append_comm, IsPermutation-append_left}
use Rattle.std.proofs.lemmas.List.Sorted.{IsPermutation-append_right}
use Rattle.glb_laws.specs.Expansion.{Expansion, Moves}
use Rattle.glb_laws.proofs.Expansions.{expansion_start, expansion_order, moves_append, moves_beside}
use Rattle.glb_rules.specs.Joins.{join_to}
use Rattle.glb_rules.specs.World.{Asked, Refused, Setup, World, WorldEdge, has_line, loot_of}
use Rattle.glb_rules.specs.Effects.{Change, after_shrug}
use Rattle.glb_rules.specs.Steps.{Becomes, Step}
use Rattle.glb_rules.specs.Lawful.{all_done, all_left, travelling}
use Rattle.glb_rules.specs.History.{Run, first_line, start}
use Rattle.glb_rules.proofs.Invariant.Frames.{kind_cases}
use Rattle.glb_laws.proofs.Joins.{join_same, join_split}
use Rattle.glb_rules.specs.declared.kinds.Kind.{Kind}
use Rattle.glb_rules.specs.declared.kinds.Kind.TheVariants as kind
use Rattle.glb_rules.specs.declared.local.EdgeName.{EdgeName}
use Rattle.glb_rules.specs.declared.local.Local.{Local}
use Rattle.glb_rules.specs.declared.event.Event.{Event}
use Rattle.glb_rules.specs.declared.event.Event.TheVariants as event

module _ {I : Type 0} where
  then : {xs ys zs : List I} → IsPermutation xs ys → IsPermutation ys zs → IsPermutation xs zs
  then {xs = xs} {ys = ys} {zs = zs} p q = IsPermutation-trans xs ys zs p q

  back : {xs ys : List I} → IsPermutation xs ys → IsPermutation ys xs
  back {xs = xs} {ys = ys} p = IsPermutation-sym xs ys p

  both : {xs ys us vs : List I} → IsPermutation xs ys → IsPermutation us vs
      → IsPermutation (xs ++ us) (ys ++ vs)
  both {xs = xs} {ys = ys} {us = us} {vs = vs} p q = IsPermutation-append xs ys us vs p q

  four : (a b c d : List I) → IsPermutation ((a ++ b) ++ (c ++ d)) ((a ++ c) ++ (b ++ d))
  four a b c d =
      rw (append_assoc a b (c ++ d), append_assoc a c (b ++ d), ← append_assoc b c d, ← append_assoc c b d)
      (IsPermutation-append_right a ((b ++ c) ++ d) ((c ++ b) ++ d)
      (IsPermutation-append_left d (b ++ c) (c ++ b) (IsPermutation-append_comm b c)))

  -- an expansion of lists in another order
  pub reordered : (children : I → List I) (roots done work done2 work2 : List I)
      → Expansion children roots done work → IsPermutation done done2 → IsPermutation work work2
      → Expansion children roots done2 work2
  reordered children roots done work done2 work2 e d w =
      expansion_order children roots done done2 work work2 d w e

  -- moves on a part are moves on the whole
  pub moved : (children : I → List I) (roots taken bag new done rest : List I)
      → Moves children bag taken new → Expansion children roots done (bag ++ rest)
      → Expansion children roots (taken ++ done) (new ++ rest)
  moved children roots taken bag new done rest m e = record {
    taken = e.taken ++ taken;
    order = then (both e.order (IsPermutation-refl taken)) (IsPermutation-append_comm done taken);
    moves = moves_append children roots e.taken (bag ++ rest) taken (new ++ rest) e.moves
        (moves_beside children rest bag taken new m);
  }

module _ {I : Type 0} (s : Setup) (old new : World I) (p : ℕ) (c : EdgeName) (b : Change I)
    (h : Becomes old new p c b)
    (pl : p < s.places) (tl : c.thief < s.places) (vl : c.victim < s.places) where
  travelling_else : (k : Kind) → k ≢ c.kind → travelling s new k ≡ travelling s old k
  travelling_else k d =
      join_same s.places (λ t. join_to s.places (λ v. loot_of (old.edge k t v)))
      (λ t. join_to s.places (λ v. loot_of (new.edge k t v)))
      (λ t l. join_same s.places (λ v. loot_of (old.edge k t v)) (λ v. loot_of (new.edge k t v))
      (λ v m. ap loot_of (h.other_edges k t v (inl d))))

  travelling_named : (rest : List I)
      × IsPermutation (travelling s old c.kind) (loot_of (old.edge c.kind c.thief c.victim) ++ rest)
      × IsPermutation (travelling s new c.kind) (loot_of b.edge ++ rest)
  travelling_named =
      let f : ℕ → List I = λ t. join_to s.places (λ v. loot_of (old.edge c.kind t v)) in
      let g : ℕ → List I = λ t. join_to s.places (λ v. loot_of (new.edge c.kind t v)) in
      let o = join_split s.places c.thief f g tl
      (λ t l d. join_same s.places (λ v. loot_of (old.edge c.kind t v))
      (λ v. loot_of (new.edge c.kind t v))
      (λ v m. ap loot_of (h.other_edges c.kind t v (inr (inl d))))) in
      let i = join_split s.places c.victim (λ v. loot_of (old.edge c.kind c.thief v))
      (λ v. loot_of (new.edge c.kind c.thief v)) vl
      (λ v m d. ap loot_of (h.other_edges c.kind c.thief v (inr (inr d)))) in
      let q : IsPermutation (g c.thief) (loot_of b.edge ++ i.0) = rw h.edge at i.2 in (
        i.0 ++ o.0,
        then o.1 (rw (← append_assoc (loot_of (old.edge c.kind c.thief c.victim)) i.0 o.0)
            (IsPermutation-append_left o.0 (f c.thief) (loot_of (old.edge c.kind c.thief c.victim) ++ i.0)
            i.1)),
        then o.2 (rw (← append_assoc (loot_of b.edge) i.0 o.0)
            (IsPermutation-append_left o.0 (g c.thief) (loot_of b.edge ++ i.0) q)),
      )

  travelling_both : (rest : List I)
      × IsPermutation (travelling s old kind.Steal ++ travelling s old kind.Line)
      (loot_of (old.edge c.kind c.thief c.victim) ++ rest)
      × IsPermutation (travelling s new kind.Steal ++ travelling s new kind.Line) (loot_of b.edge ++ rest)
  travelling_both =
      let u = travelling_named in
      ⊎_elim
      (λ (e : kind.Steal ≡ c.kind).
      let d : travelling s new kind.Line ≡ travelling s old kind.Line =
      travelling_else kind.Line (λ x. cc) in
      let u1 : IsPermutation (travelling s old kind.Steal)
      (loot_of (old.edge c.kind c.thief c.victim) ++ u.0) =
      subst (λ k. IsPermutation (travelling s old k)
      (loot_of (old.edge c.kind c.thief c.victim) ++ u.0)) (sym e) u.1 in
      let u2 : IsPermutation (travelling s new kind.Steal) (loot_of b.edge ++ u.0) =
      subst (λ k. IsPermutation (travelling s new k) (loot_of b.edge ++ u.0)) (sym e) u.2 in (
        u.0 ++ travelling s old kind.Line,
        rw (← append_assoc (loot_of (old.edge c.kind c.thief c.victim)) u.0 (travelling s old kind.Line))
            (IsPermutation-append_left (travelling s old kind.Line) _ _ u1),
        rw (d, ← append_assoc (loot_of b.edge) u.0 (travelling s old kind.Line))
            (IsPermutation-append_left (travelling s old kind.Line) _ _ u2),
      ))
      (λ (n : kind.Steal ≢ c.kind).
      let e : kind.Line ≡ c.kind = line c.kind n in
      let d : travelling s new kind.Steal ≡ travelling s old kind.Steal = travelling_else kind.Steal n in
      let u1 : IsPermutation (travelling s old kind.Line)
      (loot_of (old.edge c.kind c.thief c.victim) ++ u.0) =
      subst (λ k. IsPermutation (travelling s old k)
      (loot_of (old.edge c.kind c.thief c.victim) ++ u.0)) (sym e) u.1 in
      let u2 : IsPermutation (travelling s new kind.Line) (loot_of b.edge ++ u.0) =
      subst (λ k. IsPermutation (travelling s new k) (loot_of b.edge ++ u.0)) (sym e) u.2 in
      let o = travelling s old kind.Steal in (
        u.0 ++ o,
        then (IsPermutation-append_comm o (travelling s old kind.Line))
            (rw (← append_assoc (loot_of (old.edge c.kind c.thief c.victim)) u.0 o)
            (IsPermutation-append_left o _ _ u1)),
        rw d (then (IsPermutation-append_comm o (travelling s new kind.Line))
            (rw (← append_assoc (loot_of b.edge) u.0 o) (IsPermutation-append_left o _ _ u2))),
      ))
      (kind_cases kind.Steal c.kind)
    where
      line : (k : Kind) → kind.Steal ≢ k → kind.Line ≡ k
      line kind.Steal n = absurd (n refl)
      line kind.Line n = refl

  -- the work is that of the part, and a rest
  pub left_split : (rest : List I)
      × IsPermutation (all_left s old)
      (((old.place p).bag ++ loot_of (old.edge c.kind c.thief c.victim)) ++ rest)
      × IsPermutation (all_left s new) ((b.place.bag ++ loot_of b.edge) ++ rest)
  left_split =
      let u = travelling_both in
      let j = join_split s.places p (λ q. (old.place q).bag) (λ q. (new.place q).bag) pl
      (λ q l d. ap (λ (x : Local I). x.bag) (h.other_places q d)) in
      let q : IsPermutation (join_to s.places (λ q. (new.place q).bag)) (b.place.bag ++ j.0) =
      subst (λ (x : Local I). IsPermutation (join_to s.places (λ q. (new.place q).bag)) (x.bag ++ j.0))
      h.place j.2 in (
        j.0 ++ u.0,
        then (both j.1 u.1) (four (old.place p).bag j.0 (loot_of (old.edge c.kind c.thief c.victim)) u.0),
        then (both q u.2) (four b.place.bag j.0 (loot_of b.edge) u.0),
      )

  pub done_split : (rest : List I) × IsPermutation (all_done s old) ((old.place p).done ++ rest)
      × IsPermutation (all_done s new) (b.place.done ++ rest)
  done_split =
      let j = join_split s.places p (λ q. (old.place q).done) (λ q. (new.place q).done) pl
      (λ q l d. ap (λ (x : Local I). x.done) (h.other_places q d)) in
      (j.0, j.1, subst (λ (x : Local I). IsPermutation (all_done s new) (x.done ++ j.0)) h.place j.2)

  -- an event that only hands items over
  pub handed : (children : I → List I) (roots : List I) → b.place.done ≡ (old.place p).done →
      IsPermutation ((old.place p).bag ++ loot_of (old.edge c.kind c.thief c.victim))
      (b.place.bag ++ loot_of b.edge) →
      Expansion children roots (all_done s old) (all_left s old)
      → Expansion children roots (all_done s new) (all_left s new)
  handed children roots d m e =
      let w = left_split in
      let o = done_split in
      let o2 : IsPermutation (all_done s new) ((old.place p).done ++ o.0) =
      subst (λ z. IsPermutation (all_done s new) (z ++ o.0)) d o.2 in
      reordered children roots (all_done s old) (all_left s old) (all_done s new) (all_left s new) e
      (then o.1 (back o2))
      (then w.1 (then (IsPermutation-append_left w.0 _ _ m) (back w.2)))

  -- an event that expands items of the bag
  pub expanded : (children : I → List I) (roots taken : List I) → b.place.done ≡ (old.place p).done
      ++ taken → b.edge ≡ old.edge c.kind c.thief c.victim →
      Moves children (old.place p).bag taken b.place.bag →
      Expansion children roots (all_done s old) (all_left s old)
      → Expansion children roots (all_done s new) (all_left s new)
  expanded children roots taken d n m e =
      let w = left_split in
      let o = done_split in
      let o2 : IsPermutation (all_done s new) (((old.place p).done ++ taken) ++ o.0) =
      subst (λ z. IsPermutation (all_done s new) (z ++ o.0)) d o.2 in
      let l = loot_of (old.edge c.kind c.thief c.victim) in
      let w2 : IsPermutation (all_left s new) ((b.place.bag ++ l) ++ w.0) =
      subst (λ z. IsPermutation (all_left s new) ((b.place.bag ++ loot_of z) ++ w.0)) n w.2 in
      let f : Expansion children roots ((old.place p).done ++ o.0) ((old.place p).bag ++ (l ++ w.0)) =
      reordered children roots (all_done s old) (all_left s old) ((old.place p).done ++ o.0)
      ((old.place p).bag ++ (l ++ w.0)) e o.1 (rw (← append_assoc (old.place p).bag l w.0) w.1) in
      let g = moved children roots taken (old.place p).bag b.place.bag ((old.place p).done ++ o.0)
      (l ++ w.0) m f in
      reordered children roots (taken ++ ((old.place p).done ++ o.0)) (b.place.bag ++ (l ++ w.0))
      (all_done s new) (all_left s new) g
      (rw (← append_assoc taken (old.place p).done o.0)
      (then (IsPermutation-append_left o.0 (taken ++ (old.place p).done) ((old.place p).done ++ taken)
      (IsPermutation-append_comm taken (old.place p).done)) (back o2)))
      (rw (← append_assoc b.place.bag l w.0) (back w2))

-- what an event without choices does to the items
same_loot : {I : Type 0} (bag : List I) (a b : WorldEdge I) → loot_of b ≡ loot_of a
    → IsPermutation (bag ++ loot_of a) (bag ++ loot_of b)
same_loot bag a b e = rw e (IsPermutation-refl (bag ++ loot_of a))

shrug_loot : {I : Type 0} (k : Kind) (e : WorldEdge I) → e ≡ Refused → loot_of (after_shrug k e)
    ≡ loot_of e
shrug_loot kind.Steal e is = rw is refl
shrug_loot kind.Line e is = refl

pub step_expands : {I : Type 0} (children : I
    → List I) (roots : List I) (s : Setup) (old new : World I)
    (e : Event) → Step children s old e new →
    Expansion children roots (all_done s old) (all_left s old)
    → Expansion children roots (all_done s new) (all_left s new)
step_expands children roots s old new (event.Look p t k) st x =
    handed s old new p _ _ st.becomes st.in_range.0 st.in_range.1 st.in_range.2 children roots refl
    (IsPermutation-refl _) x
step_expands children roots s old new (event.Batch p) st x =
    expanded s old new p _ _ st.becomes st.in_range.0 st.in_range.1 st.in_range.2 children roots st.taken
    refl refl st.choice.2 x
step_expands children roots s old new (event.Ask p v kind.Steal) st x =
    handed s old new p _ _ st.becomes st.in_range.0 st.in_range.1 st.in_range.2 children roots refl
    (same_loot _ (old.edge kind.Steal p v) Asked (rw st.enabled.3 refl)) x
step_expands children roots s old new (event.Ask p v kind.Line) st x =
    handed s old new p _ _ st.becomes st.in_range.0 st.in_range.1 st.in_range.2 children roots refl
    (same_loot _ (old.edge kind.Line p v) Asked (rw st.enabled.3 refl)) x
step_expands children roots s old new (event.Deny p t k) st x =
    handed s old new p _ _ st.becomes st.in_range.0 st.in_range.1 st.in_range.2 children roots refl
    (same_loot _ (old.edge k t p) Refused (rw st.enabled.0 refl)) x
step_expands children roots s old new (event.Mint p) st x =
    handed s old new p _ _ st.becomes st.in_range.0 st.in_range.1 st.in_range.2 children roots refl
    (IsPermutation-refl _) x
step_expands children roots s old new (event.Give p t k) st x =
    let empty : loot_of (old.edge k t p) ≡ [] =
    ⊎_elim (λ (e : old.edge k t p ≡ Asked). rw e refl) (λ y. rw y.1 refl) st.enabled.2 in
    handed s old new p _ _ st.becomes st.in_range.0 st.in_range.1 st.in_range.2 children roots refl
    (rw (empty, append-nil (old.place p).bag)
    (IsPermutation-trans _ _ _ st.choice.2 (IsPermutation-append_comm st.taken st.rest))) x
step_expands children roots s old new (event.Take p v k) st x =
    handed s old new p _ _ st.becomes st.in_range.0 st.in_range.1 st.in_range.2 children roots refl
    (rw (st.choice.0, append-nil st.rest)
    (IsPermutation-trans _ _ _ (IsPermutation-append_comm (old.place p).bag st.taken) st.choice.1)) x
step_expands children roots s old new (event.Burn p) st x =
    handed s old new p _ _ st.becomes st.in_range.0 st.in_range.1 st.in_range.2 children roots refl
    (IsPermutation-refl _) x
step_expands children roots s old new (event.Shrug p v k) st x =
    handed s old new p _ _ st.becomes st.in_range.0 st.in_range.1 st.in_range.2 children roots refl
    (same_loot _ (old.edge k p v) (after_shrug k (old.edge k p v))
    (shrug_loot k (old.edge k p v) st.enabled.1)) x
step_expands children roots s old new (event.Sleep p) st x =
    handed s old new p _ _ st.becomes st.in_range.0 st.in_range.1 st.in_range.2 children roots refl
    (IsPermutation-refl _) x
step_expands children roots s old new (event.Leave p) st x =
    handed s old new p _ _ st.becomes st.in_range.0 st.in_range.1 st.in_range.2 children roots refl
    (IsPermutation-refl _) x
step_expands children roots s old new (event.Halt p n) st x =
    handed s old new p _ _ st.becomes st.in_range.0 st.in_range.1 st.in_range.2 children roots refl
    (IsPermutation-refl _) x

pub run_expands : {I : Type 0} (children : I → List I) (roots : List I) (s : Setup) (old : World I)
    (es : List Event) (new : World I) → Run children s old es new →
    Expansion children roots (all_done s old) (all_left s old)
    → Expansion children roots (all_done s new) (all_left s new)
run_expands children roots s old [] new r x = rw r x
run_expands children roots s old (e ∷ es) new r x =
    run_expands children roots s r.0 es new r.2 (step_expands children roots s old r.0 e r.1 x)

no_items : {I : Type 0} (n : ℕ) (f : ℕ → List I) → ((j : ℕ) → f j ≡ []) → join_to n f ≡ []
no_items zero f h = refl
no_items (suc n) f h = let a = no_items n f h in let b = h n in rw (a, b) refl

pub start_expands : {I : Type 0} (children : I → List I) (s : Setup) (bags : ℕ → List I)
    → Expansion children (join_to s.places bags) (all_done s (start s bags)) (all_left s (start s bags))
start_expands {I} children s bags =
    let d : all_done s (start s bags) ≡ [] = no_items s.places (λ p. []) (λ j. refl) in
    let u1 : travelling s (start s bags) kind.Steal ≡ [] =
    no_items s.places (λ t. join_to s.places (λ v. [])) (λ j. no_items s.places (λ v. []) (λ i. refl))
    in
    let u2 : travelling s (start s bags) kind.Line ≡ [] =
    no_items s.places (λ t.
    join_to s.places (λ v. loot_of (first_line {I = I} (s.awake t) (has_line s t v))))
    (λ t. no_items s.places (λ v. loot_of (first_line {I = I} (s.awake t) (has_line s t v)))
    (λ v. none (s.awake t) (has_line s t v))) in
    let roots = join_to s.places bags in
    let u : travelling s (start s bags) kind.Steal
    ++ travelling s (start s bags) kind.Line ≡ [] =
    ap (λ x. x ++ travelling s (start s bags) kind.Line) u1 ∙ u2 in
    let e : all_left s (start s bags) ≡ roots = ap (λ x. roots ++ x) u ∙ append-nil roots in
    subst (λ x. Expansion children roots x (all_left s (start s bags))) (sym d)
    (subst (λ x. Expansion children roots [] x) (sym e) (expansion_start children roots))
  where
    none : (a b : Bool) → loot_of (first_line {I = I} a b) ≡ []
    none true b = refl
    none false true = refl
    none false false = refl
