-- What a berth keeps beside its seat still goes with the record that a call leaves.
use Rattle.std.proofs.Common.{◌≡◌, ◌≢◌, ◌⊎◌, inl, inr, ⊎_elim, ℕ, ◌<◌, Bool, true, false, List, length, get_or, refl, sym, ap, ◌∙◌, subst, arith, true≢false}
use Rattle.std.specs.Prelude.{slice_set}
use Rattle.std.proofs.lemmas.List.{get_or-set_same, get_or-set_other, length-set}
use Rattle.glb_stats.specs.declared.counters.Counters.{Counters}
use Rattle.glb_rules.specs.World.{mark_at, has_edge}
use Rattle.glb_rules.specs.Events.{same_name, name_of}
use Rattle.glb_core.specs.Counters.{counters_of}
use Rattle.glb_rules.proofs.EdgeLemmas.Named.{same_name_self, same_name_else}
use Rattle.glb_rules.proofs.Invariant.Frames.{Else, name_cases}
use Rattle.glb_rules.specs.declared.local.EdgeName.{EdgeName}
use Rattle.glb_rules.specs.declared.place_state.PlaceState.{PlaceState}
use Rattle.glb_rules.specs.declared.kinds.Kind.{Kind}
use Rattle.glb_rules.specs.declared.kinds.Kind.TheVariants as kind
use Rattle.glb_rules.specs.declared.kinds.Mark.{Mark}
use Rattle.glb_rules.specs.declared.kinds.Side.TheVariants as side
use Rattle.glb_rules.specs.declared.kinds.Edge.{Edge}
use Rattle.glb_rules.specs.declared.kinds.Edge.TheVariants as seen
use Rattle.glb_place.specs.Calls.{CanFind}
use Rattle.glb_place.specs.Records.{known_at, setup_in}
use Rattle.glb_place.specs.Rows.{known_row}
use Rattle.glb_place.specs.declared.record.Record.{Record}
use Rattle.glb_cells.specs.Looking.{LookTable}
use Rattle.glb_cells.specs.Berths.{IsStateOf}
use Rattle.glb_cells.specs.inner.Keeping.{IsBeside, Listed, AreHeld, HasRoom, is_refused, hold_at}
use Rattle.glb_cells.proofs.BerthLemmas.Opened.{there_at}

-- a look does not change whether a line to the place is held
pub found_held : (m : Mark) (x y : Edge) → CanFind m kind.Line side.Inward x y
    → is_refused x ≡ is_refused y
found_held m seen.Idle seen.Idle h = refl
found_held m seen.Idle seen.Asked h = refl
found_held m seen.Idle seen.Refused h = absurd h
found_held m seen.Idle seen.Loot h = absurd h
found_held m seen.Asked seen.Idle h = absurd h
found_held m seen.Asked seen.Asked h = refl
found_held m seen.Asked seen.Refused h = absurd h
found_held m seen.Asked seen.Loot h = absurd h
found_held m seen.Refused seen.Idle h = absurd h
found_held m seen.Refused seen.Asked h = absurd h
found_held m seen.Refused seen.Refused h = refl
found_held m seen.Refused seen.Loot h = absurd h
found_held m seen.Loot seen.Idle h = refl
found_held m seen.Loot seen.Asked h = refl
found_held m seen.Loot seen.Refused h = absurd h
found_held m seen.Loot seen.Loot h = refl

-- a list with one member set
set_here : (xs : List Bool) (i : ℕ) (b d : Bool) → i < length xs → get_or (slice_set xs i b) i d ≡ b
set_here xs i b d l = get_or-set_same xs i b d l

set_other : (xs : List Bool) (i j : ℕ) (b d : Bool) → j ≢ i
    → get_or (slice_set xs i b) j d ≡ get_or xs j d
set_other xs i j b d n = get_or-set_other xs i j b d n

pub hold_long : (k : Kind) (t : ℕ) (b : Bool) (held : List Bool)
    → length (hold_at k t b held) ≡ length held
hold_long kind.Steal t b held = refl
hold_long kind.Line t b held = length-set held t b

module _ {I : Type 0} (r : Record I) (a : PlaceState) (c : Counters) (held : List Bool)
    (looks : LookTable)
    (o : IsBeside r a c held looks) (x : Record I) (place : x.place ≡ r.place)
    (lines : x.lines ≡ r.lines)
    (params : x.params ≡ r.params) where
  -- the same edges are there
  there_back : (k : Kind) (t v : ℕ) → has_edge (setup_in x) k t v ≡ true
      → has_edge (setup_in r) k t v ≡ true
  there_back k t v h = there_at x.lines r.lines lines x.params r.params (λ p. false) (λ p. false) k
      t v h

  there_on : (k : Kind) (t v : ℕ) → has_edge (setup_in r) k t v ≡ true
      → has_edge (setup_in x) k t v ≡ true
  there_on k t v h = there_at r.lines x.lines (sym lines) r.params x.params (λ p. false)
      (λ p. false) k t v h

  no_loop_still : has_edge (setup_in x) kind.Line x.place x.place ≡ false
  no_loop_still = by (has_edge (setup_in x) kind.Line x.place x.place) refl
    where
      by : (b : Bool) → has_edge (setup_in x) kind.Line x.place x.place ≡ b
          → has_edge (setup_in x) kind.Line x.place x.place ≡ false
      by false e = e
      by true e = absurd (true≢false (sym (there_back kind.Line r.place r.place
          (subst (λ p. has_edge (setup_in x) kind.Line p p ≡ true) place e)) ∙ o.no_loop))

  beside : (a' : PlaceState) (c' : Counters) (held' : List Bool) → IsStateOf x a'
      → c' ≡ counters_of x.local.count
      → Listed x → length held' ≡ length held → AreHeld held' x → IsBeside x a' c' held' looks
  beside a' c' held' s n l long h = record {
    state = s;
    counters = n;
    listed = l;
    no_loop = no_loop_still;
    held_long = long ∙ o.held_long ∙ ap (λ z. z.places) (sym lines);
    holds = h;
    room = subst (λ z. HasRoom z.places looks) (sym lines) o.room;
  }

  -- where nothing new is known
  pub same_beside : (a' : PlaceState) (c' : Counters) → IsStateOf x a'
      → c' ≡ counters_of x.local.count
      → x.known ≡ r.known → IsBeside x a' c' held looks
  same_beside a' c' s n known = beside a' c' held s n
      (λ k t v d. there_on k t v (o.listed k t v (λ z. d (ap (λ l. known_at l k t v) known ∙ z))))
      refl
      (λ t h.
      o.holds t (there_back kind.Line t r.place
      (subst (λ p. has_edge (setup_in x) kind.Line t p ≡ true) place h))
      ∙ ap is_refused (λ i. known_at (sym known i) kind.Line t (sym place i)))

  listed_learnt : (n : EdgeName) (y : Edge) → x.known ≡ (known_row n y r).known
      → has_edge (setup_in r) n.kind n.thief n.victim ≡ true → Listed x
  listed_learnt n y known there = λ k t v d. there_on k t v
      (by k t v (λ z. d (ap (λ l. known_at l k t v) known ∙ z)))
    where
      by : (k : Kind) (t v : ℕ) → known_at (known_row n y r).known k t v ≢ seen.Idle
          → has_edge (setup_in r) k t v ≡ true
      by k t v d = ⊎_elim
          (λ (same : (k ≡ n.kind) × (t ≡ n.thief) × (v ≡ n.victim)). rw (same.0, same.1, same.2)
          there)
          (λ (e : Else n k t v). o.listed k t v (λ z. d (rw (same_name_else n k t v e) z)))
          (name_cases n k t v)

  known_other : (n : EdgeName) (y : Edge) → x.known ≡ (known_row n y r).known → (t : ℕ)
      → Else n kind.Line t r.place
      → known_at x.known kind.Line t x.place ≡ known_at r.known kind.Line t r.place
  known_other n y known t e =
      (λ i. known_at (known i) kind.Line t (place i))
      ∙ (let f : same_name n kind.Line t r.place ≡ false = same_name_else n kind.Line t r.place e in
      rw f refl)

  -- where something is known of an edge whose thief the place is
  pub out_beside : (a' : PlaceState) (c' : Counters) → IsStateOf x a'
      → c' ≡ counters_of x.local.count
      → (n : EdgeName) (y : Edge) → x.known ≡ (known_row n y r).known → n.thief ≡ r.place
      → has_edge (setup_in r) n.kind n.thief n.victim ≡ true → IsBeside x a' c' held looks
  out_beside a' c' s c_is n y known thief there =
      beside a' c' held s c_is (listed_learnt n y known there) refl
      (λ t h. let h' = there_back kind.Line t r.place
      (subst (λ p. has_edge (setup_in x) kind.Line t p ≡ true) place h) in
      o.holds t h' ∙ ap is_refused (sym (known_other n y known t (other t h'))))
    where
      other : (t : ℕ) → has_edge (setup_in r) kind.Line t r.place ≡ true
          → Else n kind.Line t r.place
      other t h = ⊎_elim
          (λ (same : (kind.Line ≡ n.kind) × (t ≡ n.thief) × (r.place ≡ n.victim)).
          absurd (true≢false (sym (subst (λ q. has_edge (setup_in r) kind.Line q r.place ≡ true)
          (same.1 ∙ thief) h) ∙ o.no_loop)))
          (λ (e : Else n kind.Line t r.place). e)
          (name_cases n kind.Line t r.place)

  -- where something is known of an edge whose victim the place is
  in_held : (n : EdgeName) (y : Edge) → x.known ≡ (known_row n y r).known → n.victim ≡ r.place
      → (held' : List Bool)
      → (n.kind ≡ kind.Line → get_or held' n.thief false ≡ is_refused y)
      → ((t : ℕ) → (n.kind ≢ kind.Line) ⊎ (t ≢ n.thief)
      → get_or held' t false ≡ get_or held t false) → AreHeld held' x
  in_held n y known victim held' new old = λ t h.
      let h' = there_back kind.Line t r.place (subst
      (λ p. has_edge (setup_in x) kind.Line t p ≡ true) place h) in
      ⊎_elim
      (λ (same : (kind.Line ≡ n.kind) × (t ≡ n.thief) × (r.place ≡ n.victim)).
      ap (λ q. get_or held' q false) same.1 ∙ new (sym same.0)
      ∙ ap is_refused (sym ((λ i. known_at (known i) kind.Line t (place i))
      ∙ (let f : same_name n kind.Line t r.place ≡ true =
      rw (same.0, same.1, same.2) (same_name_self n) in rw f refl))))
      (λ (e : Else n kind.Line t r.place). old t (apart t e) ∙ o.holds t h'
      ∙ ap is_refused (sym (known_other n y known t e)))
      (name_cases n kind.Line t r.place)
    where
      apart : (t : ℕ) → Else n kind.Line t r.place → (n.kind ≢ kind.Line) ⊎ (t ≢ n.thief)
      apart t e = ⊎_elim
          (λ (d : kind.Line ≢ n.kind). inl (λ z. d (sym z)))
          (λ (e' : (t ≢ n.thief) ⊎ (r.place ≢ n.victim)). ⊎_elim (λ (d : t ≢ n.thief). inr d)
          (λ (d : r.place ≢ n.victim). absurd (d (sym victim))) e')
          e

  -- and its line is held from now on, or is not
  pub in_beside : (a' : PlaceState) (c' : Counters) → IsStateOf x a'
      → c' ≡ counters_of x.local.count
      → (k : Kind) (t : ℕ) (y : Edge) → x.known ≡ (known_row (name_of k t r.place) y r).known
      → has_edge (setup_in r) k t r.place ≡ true → t < r.lines.places
      → IsBeside x a' c' (hold_at k t (is_refused y) held) looks
  in_beside a' c' s c_is k t y known there l = beside a' c' (hold_at k t (is_refused y) held) s c_is
      (listed_learnt (name_of k t r.place) y known there) (hold_long k t (is_refused y) held)
      (in_held (name_of k t r.place) y known refl (hold_at k t (is_refused y) held) (new k) (old k))
    where
      new : (k : Kind) → k ≡ kind.Line → get_or (hold_at k t (is_refused y) held) t false ≡
          is_refused y
      new kind.Line e = set_here held t (is_refused y) false
          (let q = o.held_long in omega (arith, l, q))
      new kind.Steal e = absurd (cc)

      old : (k : Kind) (u : ℕ) → (k ≢ kind.Line) ⊎ (u ≢ t)
          → get_or (hold_at k t (is_refused y) held) u false ≡ get_or held u false
      old kind.Steal u d = refl
      old kind.Line u d = ⊎_elim (λ (z : kind.Line ≢ kind.Line). absurd (z refl))
          (λ (z : u ≢ t). set_other held t u (is_refused y) false z) d

  -- a look at such an edge
  pub look_beside : (a' : PlaceState) (c' : Counters) → IsStateOf x a'
      → c' ≡ counters_of x.local.count
      → (n : EdgeName) (y : Edge) → x.known ≡ (known_row n y r).known → n.victim ≡ r.place
      → has_edge (setup_in r) n.kind n.thief n.victim ≡ true
      → CanFind (mark_at r.local.marks n.kind n.thief) n.kind side.Inward
      (known_at r.known n.kind n.thief n.victim) y
      → IsBeside x a' c' held looks
  look_beside a' c' s c_is n y known victim there found =
      beside a' c' held s c_is (listed_learnt n y known there) refl
      (in_held n y known victim held new (λ t d. refl))
    where
      new : n.kind ≡ kind.Line → get_or held n.thief false ≡ is_refused y
      new e =
          let h : has_edge (setup_in r) kind.Line n.thief r.place ≡ true =
          subst (λ (z : Kind × ℕ). has_edge (setup_in r) z.0 n.thief z.1 ≡ true)
          (λ i. (e i, victim i)) there in
          let f = subst (λ (z : Kind × ℕ). CanFind (mark_at r.local.marks z.0 n.thief) z.0
          side.Inward (known_at r.known z.0 n.thief z.1) y) (λ i. (e i, victim i)) found in
          o.holds n.thief h ∙ found_held (mark_at r.local.marks kind.Line n.thief)
          (known_at r.known kind.Line n.thief r.place) y f
