-- A place that looks at its in-edges: at which next, and what a look changes of what it sees.
use Rattle.std.specs.Prelude.{Some}
use Rattle.std.proofs.Common.{◌≡◌, ◌≢◌, ℕ, zero, suc, ◌+◌, ◌<◌, ◌⊎◌, Bool, true, false, not, cond}
use Rattle.std.proofs.Common.{◌==◌, ◌||◌, List, [], ◌∷◌, ◌++◌, length, map, get_or, set, refl, sym}
use Rattle.std.proofs.Common.{ap, ◌∙◌, subst, inl, inr, ⊎_elim, arith}
use Rattle.std.proofs.lemmas.Bool.{cases_eq}
use Rattle.std.proofs.lemmas.List.{get_or-map, get_or-set_same, get_or-set_other, length-map}
use Rattle.std.proofs.lemmas.List.{map-append}
use Rattle.glb_rules.specs.World.{Setup, World, has_edge, mark_at, put_mark, state_of}
use Rattle.glb_rules.specs.Effects.{mark_after_look}
use Rattle.glb_rules.specs.Steps.{Step}
use Rattle.glb_rules.specs.Decision.{decide, by_credit, by_phase, first, is_unseen, or_else}
use Rattle.glb_rules.specs.Decision.{working_action}
use Rattle.glb_rules.specs.Sight.{Sight, IsIn, each_below, sight_at, state_at, in_edge, in_edges}
use Rattle.glb_rules.specs.Sight.{out_edge, edge_waited}
use Rattle.glb_rules.specs.declared.kinds.Kind.{Kind}
use Rattle.glb_rules.specs.declared.kinds.Kind.TheVariants as kind
use Rattle.glb_rules.specs.declared.kinds.Edge.{Edge}
use Rattle.glb_rules.specs.declared.kinds.Edge.TheVariants as edge_state
use Rattle.glb_rules.specs.declared.kinds.Phase.{Phase}
use Rattle.glb_rules.specs.declared.kinds.Phase.TheVariants as phase
use Rattle.glb_rules.specs.declared.local.Local.{Local}
use Rattle.glb_rules.specs.declared.place_state.PlaceState.{PlaceState}
use Rattle.glb_rules.specs.declared.edges.InEdge.{InEdge}
use Rattle.glb_rules.specs.declared.event.Event.TheVariants as event
use Rattle.glb_rules.specs.declared.event.Action.TheVariants.{Do}
use Rattle.glb_rules.proofs.CallerLemmas.{set_mark_at, set_mark_else, kind_cases, name_cases}
use Rattle.glb_rules.proofs.CallerLemmas.{AllApart, distinct_append, distinct_join, in_join}
use Rattle.glb_core.proofs.CallerLemmas.{map_each}
use Rattle.glb_turns.specs.inner.Watches.{IsFirstUnseen, LooksAt, LooksOn, looked_at}
use Rattle.glb_turns.specs.declared.watch.Knowledge.TheVariants as knowledge

-- the first member that passes
first_is : {A : Type 0} (f : A → Bool) (xs : List A) (at : ℕ) (d : A) → at < length xs
    → ((i : ℕ) (e : A) → i < at → f (get_or xs i e) ≡ false) → f (get_or xs at d) ≡ true
    → first f xs ≡ Some (get_or xs at d)
first_is f [] at d l before here = absurd (omega arith)
first_is f (x ∷ xs) zero d l before here = ap (λ b. cond b (Some x) (first f xs)) here
first_is f (x ∷ xs) (suc at) d l before here =
    ap (λ b. cond b (Some x) (first f xs)) (before 0 d (omega arith))
    ∙ first_is f xs at d (omega arith) (λ i e m. before (suc i) e (omega arith)) here

-- a place that looks next at an in-edge decides so
pub looks_decide : (a : PlaceState) (z : Sight) (at : ℕ) (d : InEdge) → LooksAt a z at
    → decide a z ≡ Do (event.Look a.place (get_or z.ins at d).thief (get_or z.ins at d).kind)
looks_decide a z at d h =
    let leave = Do (event.Leave a.place) in
    let go = h.goes_on in
    let on = h.not_ended in
    let one = h.one in
    let works = h.works in
    let found : first is_unseen z.ins ≡ Some (get_or z.ins at d) =
    first_is is_unseen z.ins at d h.first.within h.first.before (h.first.here d)
    in
    (λ i. cond (not (go i == 0) || on i) leave (by_credit (one i) a z))
    ∙ (λ i. by_phase (works i) a z)
    ∙ ap (λ o. or_else o (λ (x : InEdge). Do (event.Look a.place x.thief x.kind)) (working_action a z)) found

map_members : {A C : Type 0} (f g : A → C) (xs : List A) → ((x : A) → IsIn x xs → g x ≡ f x)
    → map g xs ≡ map f xs
map_members f g [] h = refl
map_members f g (x ∷ xs) h = ap (λ y. y ∷ map g xs) (h x (inl refl))
    ∙ ap (λ ys. f x ∷ ys) (map_members f g xs (λ y i. h y (inr i)))

get_in : {A : Type 0} (xs : List A) (i : ℕ) (d : A) → i < length xs → IsIn (get_or xs i d) xs
get_in [] i d l = absurd (omega arith)
get_in (x ∷ xs) zero d l = inl refl
get_in (x ∷ xs) (suc i) d l = inr (get_in xs i d (omega arith))

-- where two functions differ at one member, their lists differ there
map_changed : {A C : Type 0} (f g : A → C) (xs : List A) (i : ℕ) (d : A) → AllApart xs
    → i < length xs
    → ((x : A) → x ≢ get_or xs i d → g x ≡ f x) → map g xs ≡ set (map f xs) i (g (get_or xs i d))
map_changed f g [] i d a l h = absurd (omega arith)
map_changed f g (x ∷ xs) zero d a l h = ap (λ ys. g x ∷ ys)
    (map_members f g xs (λ y m. h y (λ e. a.0 (subst (λ z. IsIn z xs) e m))))
map_changed f g (x ∷ xs) (suc i) d a l h =
    ap (λ y. y ∷ map g xs)
    (h x (λ e. a.0 (subst (λ z. IsIn z xs) (sym e) (get_in xs i d (omega arith)))))
    ∙ ap (λ ys. f x ∷ ys) (map_changed f g xs i d a.1 (omega arith) h)

apart_bit : {A : Type 0} (b : Bool) (x : A) → AllApart (cond b (x ∷ []) [])
apart_bit true x = ((λ h. h), tt)
apart_bit false x = tt

in_bit : {A : Type 0} (b : Bool) (x y : A) → IsIn y (cond b (x ∷ []) []) → y ≡ x
in_bit true x y h = ⊎_elim (λ e. e) (λ n. absurd n) h
in_bit false x y h = absurd h

-- the kind and the thief of each in-edge that a place sees
abbrev Named : Type 0
Named = Kind × ℕ

abbrev named_of : Setup → ℕ → Kind → List Named
named_of s p k = each_below s.places (λ t. has_edge s k t p) (λ t. (k, t))

abbrev named : Setup → ℕ → List Named
named s p = named_of s p kind.Steal ++ named_of s p kind.Line

in_named : (s : Setup) (p : ℕ) (k : Kind) (n : Named) → IsIn n (named_of s p k) → (j : ℕ)
    × (n ≡ (k, j))
in_named s p k n h =
    let j = in_join s.places (λ t. cond (has_edge s k t p) ((k, t) ∷ []) []) n h in
    (j.0, in_bit (has_edge s k j.0 p) (k, j.0) n j.2)

apart_of_kind : (s : Setup) (p : ℕ) (k : Kind) → AllApart (named_of s p k)
apart_of_kind s p k = distinct_join s.places (λ t. cond (has_edge s k t p) ((k, t) ∷ []) [])
    (λ t l. apart_bit (has_edge s k t p) (k, t))
    (λ t u x l m a b. ap (λ (n : Named). n.1)
    (sym (in_bit (has_edge s k t p) (k, t) x a) ∙ in_bit (has_edge s k u p) (k, u) x b))

named_apart : (s : Setup) (p : ℕ) → AllApart (named s p)
named_apart s p = distinct_append (named_of s p kind.Steal) (named_of s p kind.Line)
    (apart_of_kind s p kind.Steal) (apart_of_kind s p kind.Line)
    (λ n a b.
    let x = in_named s p kind.Steal n a in
    let y = in_named s p kind.Line n b in
    let e : kind.Steal ≡ kind.Line = ap (λ (m : Named). m.0) (sym x.1 ∙ y.1) in
    cc)

module _ {I : Type 0} (s : Setup) (w : World I) (p : ℕ) where
  abbrev tell : Named → InEdge
  tell n = in_edge w p n.0 n.1

  -- a place sees each by its name
  ins_named : map tell (named s p) ≡ in_edges s w p kind.Steal ++ in_edges s w p kind.Line
  ins_named =
      map-append tell (named_of s p kind.Steal) (named_of s p kind.Line)
      ∙ ap (λ ys. ys ++ map tell (named_of s p kind.Line))
      (map_each s.places (λ t. has_edge s kind.Steal t p) (λ t. (kind.Steal, t)) tell)
      ∙ ap (λ ys. in_edges s w p kind.Steal ++ ys)
      (map_each s.places (λ t. has_edge s kind.Line t p) (λ t. (kind.Line, t)) tell)

module _ {I : Type 0} (children : I → List I) (s : Setup) (old new : World I) (q t : ℕ) (k : Kind)
    (st : Step children s old (event.Look q t k) new) where
  edges_stay : (j : Kind) (u v : ℕ) → new.edge j u v ≡ old.edge j u v
  edges_stay j u v = ⊎_elim
      (λ same. rw (same.0, same.1, same.2) st.becomes.edge)
      (λ else. st.becomes.other_edges j u v else)
      (name_cases (record { kind = k; thief = t; victim = q }) j u v)

  -- a look changes a mark, and so nothing of the state
  pub look_state : (seed : ℕ) → state_at seed s new q ≡ state_at seed s old q
  look_state seed = ap (λ (a : Local I). state_at seed s (record new { place = λ p. a }) q) st.becomes.place

  marks_at : (j : Kind) (u : ℕ) → mark_at (new.place q).marks j u
      ≡ mark_at (put_mark (old.place q).marks k t (mark_after_look (state_of (old.edge k t q)))) j u
  marks_at j u = ap (λ (a : Local I). mark_at a.marks j u) st.becomes.place

  told_else : (n : Named) → n ≢ (k, t) → tell s new q n ≡ tell s old q n
  told_else n other =
      let apart : (n.0 ≢ k) ⊎ (n.1 ≢ t) = ⊎_elim
      (λ (e : n.0 ≡ k). ⊎_elim (λ (f : n.1 ≡ t). absurd (other (λ i. (e i, f i)))) (λ f. inr f)
      (cases_eq n.1 t))
      (λ e. inl e) (kind_cases n.0 k)
      in
      let m =
      marks_at n.0 n.1
      ∙ set_mark_else (mark_at (old.place q).marks) k t (mark_after_look (state_of (old.edge k t q))) n.0 n.1 apart
      in
      let e = edges_stay n.0 n.1 q in
      λ i. record { thief = n.1; kind = n.0; mark = m i; edge = state_of (e i) }

  told_here : tell s new q (k, t)
      ≡ record (tell s old q (k, t)) { mark = mark_after_look (state_of (old.edge k t q)) }
  told_here =
      let m =
      marks_at k t ∙ set_mark_at (mark_at (old.place q).marks) k t (mark_after_look (state_of (old.edge k t q)))
      in
      let e = edges_stay k t q in
      λ i. record { thief = t; kind = k; mark = m i; edge = state_of (e i) }

  look_ins : (at : ℕ) (x : InEdge) → at < length (sight_at s old q).ins
      → x ≡ get_or (sight_at s old q).ins at x → x.thief ≡ t → x.kind ≡ k
      → (sight_at s new q).ins
      ≡ set (sight_at s old q).ins at (record x { mark = mark_after_look x.edge })
  look_ins at x within found is_thief is_kind =
      let names : List Named = named s q in
      let before = ins_named s old q in
      let d : Named = (k, t) in
      let long : at < length names = let a = ap length before in let b = length-map names (tell s old q) in omega arith in
      let here : x ≡ tell s old q (get_or names at d) =
      found ∙ ap (λ xs. get_or xs at x) (sym before) ∙ get_or-map (tell s old q) names at d x long
      in
      let name : get_or names at d ≡ d =
      let a : k ≡ (get_or names at d).0 = sym is_kind ∙ ap (λ (y : InEdge). y.kind) here in
      let b : t ≡ (get_or names at d).1 = sym is_thief ∙ ap (λ (y : InEdge). y.thief) here in
      λ i. (sym a i, sym b i)
      in
      let is : x ≡ tell s old q d = here ∙ ap (tell s old q) name in
      let put : tell s new q (get_or names at d) ≡ record x { mark = mark_after_look x.edge } =
      ap (tell s new q) name ∙ told_here ∙ ap (λ (y : InEdge). record y { mark = mark_after_look y.edge }) (sym is)
      in
      sym (ins_named s new q)
      ∙ map_changed (tell s old q) (tell s new q) names at d (named_apart s q) long
      (λ n other. told_else n (λ e. other (e ∙ sym name)))
      ∙ ap (set (map (tell s old q) names) at) put
      ∙ ap (λ xs. set xs at (record x { mark = mark_after_look x.edge })) before

  waited_stay : (y : Phase) → edge_waited new q y ≡ edge_waited old q y
  waited_stay phase.Working = refl
  waited_stay phase.Idle = refl
  waited_stay (phase.Waiting v j) = ap state_of (edges_stay j q v)
  waited_stay phase.Asleep = refl
  waited_stay phase.Gone = refl

  outs_stay : (vs : List ℕ) → map (out_edge new q) vs ≡ map (out_edge old q) vs
  outs_stay [] = refl
  outs_stay (v ∷ vs) =
      let e = edges_stay kind.Line q v in
      let rest = outs_stay vs in
      λ i. record { victim = v; edge = state_of (e i) } ∷ rest i

  -- a look changes of what the place sees the mark of the in-edge alone
  pub look_sight : (at : ℕ) (x : InEdge) → at < length (sight_at s old q).ins
      → x ≡ get_or (sight_at s old q).ins at x → x.thief ≡ t → x.kind ≡ k
      → sight_at s new q ≡ looked_at (sight_at s old q) at x
  look_sight at x within found is_thief is_kind =
      let ins = look_ins at x within found is_thief is_kind in
      let outs = outs_stay (s.outs q) in
      let waited =
      ap (λ (a : Local I). edge_waited new q a.phase) st.becomes.place ∙ waited_stay (old.place q).phase
      in
      let live = st.becomes.live in
      let stop = st.becomes.stop in
      λ i. record { ins = ins i; outs = outs i; waited = waited i; ended = live i == 0; stop = stop i }

-- an in-edge at which the place has looked is not Unseen
seen_now : (x : InEdge) → is_unseen (record x { mark = mark_after_look x.edge }) ≡ false
seen_now x = by x.edge
  where
    by : (e : Edge) → is_unseen (record x { mark = mark_after_look e }) ≡ false
    by edge_state.Idle = refl
    by edge_state.Asked = refl
    by edge_state.Refused = refl
    by edge_state.Loot = refl

-- the in-edge after the one at which the place has looked is the first one that is Unseen, if it is
-- Unseen
next_first : (ins : List InEdge) (at i : ℕ) (x : InEdge) → IsFirstUnseen ins at → i ≡ at + 1
    → i < length (set ins at (record x { mark = mark_after_look x.edge }))
    → ((d : InEdge) → is_unseen (get_or (set ins at (record x { mark = mark_after_look x.edge })) i d) ≡ true)
    → IsFirstUnseen (set ins at (record x { mark = mark_after_look x.edge })) i
next_first ins at i x h next within here =
    let y : InEdge = record x { mark = mark_after_look x.edge } in
    record {
      within = within;
      before = λ j d l. ⊎_elim
          (λ (e : j ≡ at). ap (λ n. is_unseen (get_or (set ins at y) n d)) e
          ∙ ap is_unseen (get_or-set_same ins at y d h.within) ∙ seen_now x)
          (λ (e : j ≢ at). ap is_unseen (get_or-set_other ins at j y d e) ∙ h.before j d (omega arith))
          (cases_eq j at);
      here = here;
    }

-- so a place that looks on looks next at that one
pub looks_on : (a : PlaceState) (z : Sight) (at i : ℕ) (x : InEdge) → LooksAt a z at
    → LooksOn (looked_at z at x).ins at (knowledge.Looks i) → LooksAt a (looked_at z at x) i
looks_on a z at i x h on = record {
  works = h.works;
  one = h.one;
  goes_on = h.goes_on;
  not_ended = h.not_ended;
  first = next_first z.ins at i x h.first on.0 on.1 on.2;
}
