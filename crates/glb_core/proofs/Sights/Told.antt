-- What the tables tell of a place is what the place sees in the world.
use Rattle.std.proofs.Common.{◌≡◌, ℕ, suc, zero, ◌<◌, List, [], ◌∷◌, ◌++◌, length, get_or, map}
use Rattle.std.proofs.Common.{refl, sym, ap, ◌∙◌, subst, arith, cond, Bool, true, false, not, ◌==◌}
use Rattle.std.proofs.lemmas.List.{map-append, get_or-map, length-map}
use Rattle.std.proofs.lemmas.List.FromFn.{get_or-map-range_with_len, length-map-range_with_len}
use Rattle.glb_core.proofs.Start.Filled.{map_pointwise}
use Rattle.glb_cube.specs.Lines.{Cube, outs_of}
use Rattle.glb_laws.specs.Numbers.{has_number}
use Rattle.glb_cube.proofs.GraphFacts.{outs_below, All-has_number}
use Rattle.glb_rules.specs.World.{Setup, World, has_edge, state_of}
use Rattle.glb_rules.specs.Events.{name_of}
use Rattle.glb_core.specs.Counters.{all_counters, counters_of}
use Rattle.glb_rules.specs.Sight.{in_edge, in_edges, out_edge, edge_waited, each_below}
use Rattle.glb_core.specs.Seen.{in_names}
use Rattle.glb_core.proofs.Lifelines.Seen.{map_each}
use Rattle.glb_core.proofs.Lifelines.Setups.{outs_are}
use Rattle.glb_rules.specs.declared.kinds.Kind.{Kind}
use Rattle.glb_rules.specs.declared.kinds.Kind.TheVariants as kind
use Rattle.glb_rules.specs.declared.kinds.Mark.TheVariants as mark
use Rattle.glb_rules.specs.declared.kinds.Phase.{Phase}
use Rattle.glb_rules.specs.declared.kinds.Phase.TheVariants as phase
use Rattle.glb_rules.specs.declared.local.EdgeName.{EdgeName}
use Rattle.glb_rules.specs.declared.edges.InEdge.{InEdge}
use Rattle.glb_rules.specs.declared.edges.OutEdge.{OutEdge}
use Rattle.glb_core.specs.declared.world.rows.PlaceRow.{PlaceRow}
use Rattle.glb_core.specs.declared.world.rows.EdgeRow.{EdgeRow}
use Rattle.glb_core.specs.declared.world.rows.EdgeRow.TheVariants as edge_row
use Rattle.glb_core.specs.Tables.{WorldView, ShowsLocal, edge_index, mark_index}
use Rattle.glb_core.specs.Standing.{Represents}
use Rattle.glb_core.specs.inner.Sights.{in_seen, out_seen, waited_seen, row_state_at, AllThieves}
use Rattle.glb_core.specs.inner.Sights.{AllVictims}
use Rattle.glb_core.proofs.Tables.PlaceRows.{face_in}
use Rattle.glb_core.proofs.Tables.Views.{places_are}
use Rattle.glb_core.proofs.Events.Conditions.{line_there}

-- it holds of each member
abbrev pub Every : {A : Type 0} → (A → Type 0) → List A → Type 0
Every P [] = Unit {0}
Every P (x ∷ xs) = P x × Every P xs

every_append : {A : Type 0} (P : A → Type 0) (xs ys : List A) → Every P xs → Every P ys
    → Every P (xs ++ ys)
every_append P [] ys a b = b
every_append P (x ∷ xs) ys a b = (a.0, every_append P xs ys a.1 b)

every_at : {A : Type 0} (P : A → Type 0) (xs : List A) → Every P xs → (i : ℕ) (d : A)
    → i < length xs
    → P (get_or xs i d)
every_at P [] a i d l = absurd (omega arith)
every_at P (x ∷ xs) a zero d l = a.0
every_at P (x ∷ xs) a (suc i) d l = every_at P xs a.1 i d (omega arith)

every_bit : {A : Type 0} (P : A → Type 0) (b : Bool) (y : A) → P y → Every P (cond b (y ∷ []) [])
every_bit P true y h = (h, tt)
every_bit P false y h = tt

every_each : {A : Type 0} (P : A → Type 0) (n : ℕ) (passes : ℕ → Bool) (f : ℕ → A)
    → ((t : ℕ) → t < n → P (f t)) → Every P (each_below n passes f)
every_each P zero passes f h = tt
every_each P (suc n) passes f h =
    every_append P (each_below n passes f) (cond (passes n) (f n ∷ []) [])
    (every_each P n passes f (λ t l. h t (omega arith))) (every_bit P (passes n) (f n) (h n (omega arith)))

-- the places that in-edges name are there
pub thieves_near : (c : Cube) (p : ℕ) (ins : List InEdge)
    → map (λ (x : InEdge). name_of x.kind x.thief p) ins ≡ in_names c p → AllThieves c.places ins
thieves_near c p ins made i d l =
    let all : Every (λ (e : EdgeName). e.thief < c.places) (in_names c p) =
    every_append (λ (e : EdgeName). e.thief < c.places)
    (each_below c.places (λ t. not (t == p)) (λ t. name_of kind.Steal t p))
    (each_below c.places (λ t. has_number p (outs_of c t)) (λ t. name_of kind.Line t p))
    (every_each (λ (e : EdgeName). e.thief < c.places) c.places (λ t. not (t == p))
    (λ t. name_of kind.Steal t p) (λ t m. m))
    (every_each (λ (e : EdgeName). e.thief < c.places) c.places (λ t. has_number p (outs_of c t))
    (λ t. name_of kind.Line t p) (λ t m. m)) in
    let named : Every (λ (e : EdgeName). e.thief < c.places)
    (map (λ (x : InEdge). name_of x.kind x.thief p) ins) =
    subst (Every (λ (e : EdgeName). e.thief < c.places)) (sym made) all in
    let at = every_at (λ (e : EdgeName). e.thief < c.places)
    (map (λ (x : InEdge). name_of x.kind x.thief p) ins) named i (name_of d.kind d.thief p)
    (let n = length-map ins (λ (x : InEdge). name_of x.kind x.thief p) in omega arith) in
    subst (λ (e : EdgeName). e.thief < c.places)
    (get_or-map (λ (x : InEdge). name_of x.kind x.thief p) ins i d (name_of d.kind d.thief p) l) at

pub victims_near : (c : Cube) (p : ℕ) (outs : List OutEdge)
    → map (λ (y : OutEdge). y.victim) outs ≡ outs_of c p → AllVictims c.places outs
victims_near c p outs made i d l =
    let n = length-map outs (λ (y : OutEdge). y.victim) in
    let m : i < length (outs_of c p) = let e = ap length made in omega arith in
    let at = All-has_number (λ q. q < c.places) (outs_of c p) (outs_below c p) i 0 m in
    subst (λ q. q < c.places)
    (ap (λ xs. get_or xs i 0) (sym made) ∙ get_or-map (λ (y : OutEdge). y.victim) outs i d 0 l) at

each_same : {A : Type 0} (n : ℕ) (passes2 passes : ℕ → Bool) (g f : ℕ → A)
    → ((t : ℕ) → t < n → passes2 t ≡ passes t) → ((t : ℕ) → t < n → g t ≡ f t)
    → each_below n passes2 g ≡ each_below n passes f
each_same zero passes2 passes g f h k = refl
each_same (suc n) passes2 passes g f h k =
    ap (λ xs. xs ++ cond (passes2 n) (g n ∷ []) [])
    (each_same n passes2 passes g f (λ t l. h t (omega arith)) (λ t l. k t (omega arith)))
    ∙ ap (λ b. each_below n passes f ++ cond b (g n ∷ []) []) (h n (omega arith))
    ∙ ap (λ y. each_below n passes f ++ cond (passes n) (y ∷ []) []) (k n (omega arith))

map_via : {A C D : Type 0} (f : A → D) (g : C → D) (name : A → C) → ((x : A) → f x ≡ g (name x))
    → (xs : List A) → map f xs ≡ map g (map name xs)
map_via f g name h [] = refl
map_via f g name h (x ∷ xs) = ap (λ y. y ∷ map f xs) (h x)
    ∙ ap (λ ys. g (name x) ∷ ys) (map_via f g name h xs)

module _ {B I V : Type 0} (items : B → List I) (s : Setup) (x : WorldView B V) (w : World I)
    (S : Represents items s x w) (p : ℕ) (below : p < x.cube.places)
    (r : PlaceRow B) (R : ShowsLocal items x.params.seed x.cube.places p r (w.place p)) where
  pub face_shown : (k : Kind) (t v : ℕ) → t < x.cube.places → v < x.cube.places
      → row_state_at x.edge_rows x.cube.places k t v ≡ state_of (w.edge k t v)
  face_shown k t v l m = face_in items (get_or x.edge_rows (edge_index x.cube.places k t v) edge_row.Idle)
      ∙ ap state_of (S.shows.edge_row k t v l m)

  -- an in-edge with what the tables tell of it, by its name
  told_in : EdgeName → InEdge
  told_in e = record {
    thief = e.thief;
    kind = e.kind;
    mark =
        get_or r.marks.items (mark_index x.cube.places e.kind e.thief) mark.Unseen;
    edge =
        row_state_at x.edge_rows x.cube.places e.kind e.thief p;
  }

  told_edge : (k : Kind) (t : ℕ) → t < x.cube.places
      → record {
        thief = t;
        kind = k;
        mark =
            get_or r.marks.items (mark_index x.cube.places k t) mark.Unseen;
        edge =
            row_state_at x.edge_rows x.cube.places k t p;
      } ≡ in_edge w p k t
  told_edge k t l = let m = R.marks k t l in let e = face_shown k t p l below
      in λ i. record { thief = t; kind = k; mark = m i; edge = e i }

  pub ins_told : (ins : List InEdge)
      → map (λ (e : InEdge). name_of e.kind e.thief p) ins ≡ in_names x.cube p
      → map (in_seen r x.edge_rows x.cube.places p) ins
      ≡ in_edges s w p kind.Steal ++ in_edges s w p kind.Line
  ins_told ins made =
      let n = x.cube.places in
      let size = places_are items s x w S.shows in
      let tell : EdgeName
      → InEdge = λ e. record {
        thief = e.thief;
        kind = e.kind;
        mark =
            get_or r.marks.items (mark_index n e.kind e.thief) mark.Unseen;
        edge =
            row_state_at x.edge_rows n e.kind e.thief p;
      } in
      let steals = each_below n (λ t. not (t == p)) (λ t. name_of kind.Steal t p) in
      let lines = each_below n (λ t. has_number p (outs_of x.cube t)) (λ t. name_of kind.Line t p) in
      map_via (in_seen r x.edge_rows n p) tell (λ (e : InEdge). name_of e.kind e.thief p) (λ y. refl) ins
      ∙ ap (map tell) made
      ∙ map-append tell steals lines
      ∙ ap (λ ys. ys ++ map tell lines) (map_each n (λ t. not (t == p)) (λ t. name_of kind.Steal t p) tell
      ∙ each_same n (λ t. not (t == p)) (λ t. has_edge s kind.Steal t p)
      (λ t. tell (name_of kind.Steal t p)) (in_edge w p kind.Steal) (λ t l. refl)
      (λ t l. told_edge kind.Steal t l)
      ∙ ap (λ m. each_below m (λ t. has_edge s kind.Steal t p) (in_edge w p kind.Steal)) (sym size))
      ∙ ap (λ ys. in_edges s w p kind.Steal ++ ys)
      (map_each n (λ t. has_number p (outs_of x.cube t)) (λ t. name_of kind.Line t p) tell
      ∙ each_same n (λ t. has_number p (outs_of x.cube t)) (λ t. has_edge s kind.Line t p)
      (λ t. tell (name_of kind.Line t p)) (in_edge w p kind.Line)
      (λ t l. sym (line_there items s x w S t p l)) (λ t l. told_edge kind.Line t l)
      ∙ ap (λ m. each_below m (λ t. has_edge s kind.Line t p) (in_edge w p kind.Line)) (sym size))

  map_told : (outs : List OutEdge) → AllVictims x.cube.places outs
      → map (out_seen x.edge_rows x.cube.places p) outs ≡ map (out_edge w p)
      (map (λ (y : OutEdge). y.victim) outs)
  map_told [] near = refl
  map_told (y ∷ ys) near =
      let e = face_shown kind.Line p y.victim below (near 0 y (omega arith)) in
      let here : out_seen x.edge_rows x.cube.places p y ≡ out_edge w p y.victim = λ i.
      record { victim = y.victim; edge = e i } in
      ap (λ z. z ∷ map (out_seen x.edge_rows x.cube.places p) ys) here
      ∙ ap (λ zs. out_edge w p y.victim ∷ zs) (map_told ys (λ i d l. near (suc i) d (omega arith)))

  pub outs_told : (outs : List OutEdge) → map (λ (y : OutEdge). y.victim) outs ≡ outs_of x.cube p
      → map (out_seen x.edge_rows x.cube.places p) outs ≡ map (out_edge w p) (s.outs p)
  outs_told outs made =
      map_told outs (victims_near x.cube p outs made)
      ∙ ap (map (out_edge w p))
      (made ∙ sym (outs_are x.cube x.params s.awake p below) ∙ ap (λ t. t.outs p) (sym S.shows.setup))

  waited_in : (y : Phase) → ((v : ℕ) (k : Kind) → y ≡ phase.Waiting v k → v < x.cube.places)
      → waited_seen x.edge_rows x.cube.places p y ≡ edge_waited w p y
  waited_in phase.Working near = refl
  waited_in phase.Idle near = refl
  waited_in (phase.Waiting v k) near = face_shown k p v below (near v k refl)
  waited_in phase.Asleep near = refl
  waited_in phase.Gone near = refl

  pub near_shown : (v : ℕ) (k : Kind) → r.phase ≡ phase.Waiting v k → v < x.cube.places
  near_shown v k e = let n = places_are items s x w S.shows in
      let l = (S.lawful.inner p (omega arith)).near v k (sym R.same_phase ∙ e) in omega arith

  pub waited_told : waited_seen x.edge_rows x.cube.places p r.phase ≡ edge_waited w p (w.place p).phase
  waited_told = waited_in r.phase near_shown ∙ ap (edge_waited w p) R.same_phase

map_named : {A C : Type 0} (f : A → A) (name : A → C) → ((y : A) → name (f y) ≡ name y)
    → (xs : List A)
    → map name (map f xs) ≡ map name xs
map_named f name h [] = refl
map_named f name h (y ∷ ys) = ap (λ z. z ∷ map name (map f ys)) (h y)
    ∙ ap (λ zs. name y ∷ zs) (map_named f name h ys)

-- looking round keeps the names of the edges
pub ins_named : {B : Type 0} (r : PlaceRow B) (edge_rows : List (EdgeRow B)) (n p : ℕ) (ins : List InEdge)
    → map (λ (e : InEdge). name_of e.kind e.thief p) (map (in_seen r edge_rows n p) ins) ≡ map
    (λ (e : InEdge). name_of e.kind e.thief p) ins
ins_named r edge_rows n p ins =
    map_named (in_seen r edge_rows n p) (λ (e : InEdge). name_of e.kind e.thief p) (λ y. refl) ins

pub outs_named : {B : Type 0} (edge_rows : List (EdgeRow B)) (n p : ℕ) (outs : List OutEdge)
    → map (λ (y : OutEdge). y.victim) (map (out_seen edge_rows n p) outs) ≡ map (λ (y : OutEdge). y.victim) outs
outs_named edge_rows n p outs = map_named (out_seen edge_rows n p) (λ (y : OutEdge). y.victim) (λ y. refl) outs

-- the counters in the rows are those of the world
pub counters_told : {B I V : Type 0} (items : B
    → List I) (s : Setup) (x : WorldView B V) (w : World I)
    → Represents items s x w → map (λ y. y.counters) x.place_rows ≡ all_counters s w
counters_told items s x w S =
    let n = places_are items s x w S.shows in
    sym (map_pointwise (λ (y : PlaceRow _). y.counters) x.place_rows (all_counters s w)
    (length-map-range_with_len (λ p. counters_of (w.place p).count) 0 s.places ∙ n ∙ sym S.shows.place_rows)
    (λ i d e l. get_or-map-range_with_len (λ p. counters_of (w.place p).count) 0 s.places i i d
    (let a = S.shows.place_rows in omega arith) (omega arith)
    ∙ sym (S.shows.place_row i e (let a = S.shows.place_rows in omega arith)).counters))
