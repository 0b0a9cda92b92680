-- A step of one seat that changes its own view, and some edges or numbers, keeps the rule.
use Rattle.std.proofs.Common.{◌≡◌, ◌≢◌, ℕ, ◌+◌, ◌⊎◌, List, [], ◌∷◌, map, set, length, Option, refl, sym, ap, ◌∙◌, subst, inl, inr, ⊎_elim, arith}
use mathlib.Core.Option.{some, some-injective, some-ne-none}
use mathlib.Core.Option as maybe
use native.Mathlib.Decide.{ℕ_discrete}
use lib.ListN.{get_elem?}
use Rattle.atomic_table.proofs.Lists.{at_set, set_else}
use Rattle.glb_rules.specs.World.{World, WorldEdge, state_of}
use Rattle.glb_rules.specs.Events.{actor, edge_of as edge_named, IsInRange}
use Rattle.glb_rules.specs.Effects.{place_after, edge_after, live_after, stop_after}
use Rattle.glb_rules.specs.Steps.{Step, IsAble, Choice}
use Rattle.glb_rules.proofs.Finish.Histories.{goes_on}
use Rattle.glb_rules.specs.declared.event.Event.{Event}
use Rattle.glb_rules.specs.declared.local.EdgeName.{EdgeName}
use Rattle.glb_cells.specs.declared.view.View.{View}
use Rattle.glb_cells.specs.Words.{Cell, word_of, slot_of, edge_of, Fitting}
use Rattle.glb_cells.specs.Shows.{part_of, Fixed, total, items_of, first, IsPast, shown, Apt, AptAt, AptOf, Told, Holds, Numbers, Shows, Table, world_of}
use Rattle.glb_cells.proofs.StepLemmas.ListFacts.{set_at, map_set, only, total_same, length_set, set_edge}
use Rattle.glb_cells.proofs.StepLemmas.Shown.{shown_same, shown_alone, steps_to, steps_alone, Steady, same_numbers}

module _ {B Q I : Type 0} (Γ : Fixed B Q I) where
  rebuilt : (s : Table Γ) (h : Shows Γ s) (id : ℕ) (r r' : View Q I)
      → get_elem? s.views id ≡ some (r ∷ []) → r'.own.place ≡ r.own.place → r'.steps ≡ r.steps + 1
      → (live stop : ℕ) (cells : List (Cell B)) → length cells ≡ length Γ.names
      → IsPast Γ (shown Γ live stop cells (set h.recs r.own.place r'))
      → ((e : ℕ) (n : EdgeName) (c : Cell B) → get_elem? Γ.names e ≡ some n
      → get_elem? cells e ≡ some c → Fitting Γ.fits Γ.program n.kind c)
      → ((q : ℕ) (u : View Q I) → q ≢ r.own.place → get_elem? h.recs q ≡ some u
      → Apt Γ live stop cells q u)
      → Apt Γ live stop cells r.own.place r'
      → Numbers Γ stop (set h.recs r.own.place r')
      → (ws : List ℕ) → ws ≡ live ∷ total items_of (set h.recs r.own.place r') ∷ stop ∷ map word_of
      cells → (hs : List (maybe.Option (Option B))) → hs ≡ map slot_of cells
      → (k : Shows Γ record { words = ws; homes = hs; views = set s.views id (r' ∷ []) })
      × (world_of Γ record { words = ws; homes = hs; views = set s.views id (r' ∷ []) } k ≡
      shown Γ live stop cells (set h.recs r.own.place r'))
  rebuilt s h id r r' at same more live stop cells wide hist fit others mine nums ws ws_are hs
      hs_are = (
        record {
          grounded = h.grounded;
          live = live;
          stop = stop;
          cells = cells;
          recs = set h.recs r.own.place r';
          words = ws_are;
          homes = hs_are;
          wide = wide;
          many = length_set h.recs r.own.place r' ∙ h.many;
          history = hist;
          fitting = fit;
          apt = λ p u e. ⊎_elim
              (λ (t : (p ≡ r.own.place) × (r' ≡ u)). subst
              (λ (x : ℕ × View Q I). Apt Γ live stop cells x.0 x.1) (λ i. (sym t.0 i, t.1 i)) mine)
              (λ (t : (p ≢ r.own.place) × (get_elem? h.recs p ≡ some u)). others p u t.0 t.1)
              (at_set h.recs r.own.place p r' u e);
          numbers = nums;
          fresh = λ none. let z : r'.steps ≡ 0 = none r.own.place r'
              (set_at h.recs r.own.place r r' here) in absurd (omega arith);
          seats = seats';
          apart = apart';
          seated = λ p u e. ⊎_elim
              (λ (t : (p ≡ r.own.place) × (r' ≡ u)).
              (id, r' ∷ [], 0, set_at s.views id (r ∷ []) (r' ∷ []) at, ap some t.1))
              (λ (t : (p ≢ r.own.place) × (get_elem? h.recs p ≡ some u)). still_seated p u t.0 t.1)
              (at_set h.recs r.own.place p r' u e);
        },
        refl,
      )
    where
      still_seated : (p : ℕ) (u : View Q I) → p ≢ r.own.place → get_elem? h.recs p ≡ some u
          → (i : ℕ) × (v : List (View Q I)) × (k : ℕ)
          × (get_elem? (set s.views id (r' ∷ [])) i ≡ some v) × (get_elem? v k ≡ some u)
      still_seated p u apart e = let o = h.seated p u e in by o (ℕ_discrete o.0 id)
        where
          by : (o : (i : ℕ) × (v : List (View Q I)) × (k : ℕ) × (get_elem? s.views i ≡ some v)
              × (get_elem? v k ≡ some u)) → Dec (o.0 ≡ id)
              → (i : ℕ) × (v : List (View Q I)) × (k : ℕ)
              × (get_elem? (set s.views id (r' ∷ [])) i ≡ some v) × (get_elem? v k ≡ some u)
          by o (no d) = (o.0, o.1, o.2, set_else s.views id o.0 (r' ∷ []) d ∙ o.3, o.4)
          by o (yes d) =
              let same : r ∷ [] ≡ o.1 = some-injective (r ∷ []) o.1 (sym at
              ∙ ap (λ j. get_elem? s.views j) (sym d) ∙ o.3) in
              let only_r : r ≡ u = (only r u o.2 (ap (λ l. get_elem? l o.2) same ∙ o.4)).1 in
              absurd (apart (sym ((h.apt p u e).placed)
              ∙ ap (λ (x : View Q I). x.own.place) (sym only_r)))

      here : get_elem? h.recs r.own.place ≡ some r
      here = h.seats id (r ∷ []) 0 r at refl

      there : get_elem? (set h.recs r.own.place r') r'.own.place ≡ some r'
      there = subst (λ (p : ℕ). get_elem? (set h.recs r.own.place r') p ≡ some r') (sym same)
          (set_at h.recs r.own.place r r' here)

      -- what a seat has afterwards, it had before at the same place in the table, with the same
      -- place number
      had : (i : ℕ) (v : List (View Q I)) (k : ℕ) (u : View Q I)
          → get_elem? (set s.views id (r' ∷ [])) i ≡ some v → get_elem? v k ≡ some u
          → ((i ≡ id) × (k ≡ 0) × (r' ≡ u)) ⊎ ((i ≢ id) × (get_elem? s.views i ≡ some v))
      had i v k u e f = ⊎_elim
          (λ (t : (i ≡ id) × (r' ∷ [] ≡ v)). let o =
          only r' u k (subst (λ (l : List (View Q I)). get_elem? l k ≡ some u) (sym t.1) f) in
          inl (t.0, o.0, o.1))
          (λ (t : (i ≢ id) × (get_elem? s.views i ≡ some v)). inr (t.0, t.1))
          (at_set s.views id i (r' ∷ []) v e)

      seats' : (i : ℕ) (v : List (View Q I)) (k : ℕ) (u : View Q I)
          → get_elem? (set s.views id (r' ∷ [])) i ≡ some v → get_elem? v k ≡ some u
          → get_elem? (set h.recs r.own.place r') u.own.place ≡ some u
      seats' i v k u e f = ⊎_elim
          (λ (t : (i ≡ id) × (k ≡ 0) × (r' ≡ u)). subst
          (λ (x : View Q I). get_elem? (set h.recs r.own.place r') x.own.place ≡ some x) t.2
          there)
          (λ (t : (i ≢ id) × (get_elem? s.views i ≡ some v)).
          set_else h.recs r.own.place u.own.place r'
          (λ q. t.0 ((h.apart i id v (r ∷ []) k 0 u r t.1 at f refl q).0))
          ∙ h.seats i v k u t.1 f)
          (had i v k u e f)

      apart' : (i j : ℕ) (v w : List (View Q I)) (k l : ℕ) (a b : View Q I)
          → get_elem? (set s.views id (r' ∷ [])) i ≡ some v
          → get_elem? (set s.views id (r' ∷ [])) j ≡ some w
          → get_elem? v k ≡ some a → get_elem? w l ≡ some b → a.own.place ≡ b.own.place → (i ≡ j)
          × (k ≡ l)
      apart' i j v w k l a b e f m n q = ⊎_elim
          (λ (t : (i ≡ id) × (k ≡ 0) × (r' ≡ a)). ⊎_elim
          (λ (x : (j ≡ id) × (l ≡ 0) × (r' ≡ b)). (t.0 ∙ sym x.0, t.1 ∙ sym x.1))
          (λ (x : (j ≢ id) × (get_elem? s.views j ≡ some w)). absurd
          (x.0 ((h.apart j id w (r ∷ []) l 0 b r x.1 at n refl (sym q
          ∙ sym (ap (λ (y : View Q I). y.own.place) t.2) ∙ same)).0)))
          (had j w l b f n))
          (λ (t : (i ≢ id) × (get_elem? s.views i ≡ some v)). ⊎_elim
          (λ (x : (j ≡ id) × (l ≡ 0) × (r' ≡ b)). absurd
          (t.0 ((h.apart i id v (r ∷ []) k 0 a r t.1 at m refl (q
          ∙ sym (ap (λ (y : View Q I). y.own.place) x.2) ∙ same)).0)))
          (λ (x : (j ≢ id) × (get_elem? s.views j ≡ some w)). h.apart i j v w k l a b t.1 x.1 m n q)
          (had j w l b f n))
          (had i v k a e m)

  -- what a step of the edge number e, which is n, owes beside the world
  pub record Turn (s : Table Γ) (h : Shows Γ s) (r r' : View Q I) (e : ℕ) (n : EdgeName)
      (c c' : Cell B) : Type 0 where
    pub steady : Steady Γ r r'
    pub name : get_elem? Γ.names e ≡ some n
    pub was : get_elem? h.cells e ≡ some c
    pub fit : Fitting Γ.fits Γ.program n.kind c'
    pub others : (q : ℕ) (u : View Q I) → q ≢ r.own.place → AptAt Γ q u e n c → AptAt Γ q u e n c'
    pub mine : (j : ℕ) (m : EdgeName) (d : Cell B) → j ≢ e → get_elem? Γ.names j ≡ some m
        → AptAt Γ r.own.place r j m d → AptAt Γ r.own.place r' j m d
    pub here : AptAt Γ r.own.place r e n c → AptAt Γ r.own.place r' e n c'
    pub holds : Holds Γ r → Holds Γ r'

  turned : (s : Table Γ) (h : Shows Γ s) (id : ℕ) (r r' : View Q I)
      → get_elem? s.views id ≡ some (r ∷ [])
      → (e : ℕ) (n : EdgeName) (c c' : Cell B) → Turn s h r r' e n c c'
      → IsPast Γ (shown Γ h.live h.stop (set h.cells e c') (set h.recs r.own.place r'))
      → (hs : List (maybe.Option (Option B))) → hs ≡ map slot_of (set h.cells e c')
      → (k : Shows Γ record {
        words = set s.words (e + 3) (word_of c');
        homes = hs;
        views =
            set s.views id (r' ∷ []);
      })
      × (world_of Γ record {
        words = set s.words (e + 3) (word_of c');
        homes = hs;
        views =
            set s.views id (r' ∷ []);
      } k ≡ shown Γ h.live h.stop (set h.cells e c')
      (set h.recs r.own.place r'))
  turned s h id r r' at e n c c' T hist hs hs_are =
      let same : Steady Γ r r' = T.steady in
      let here : get_elem? h.recs r.own.place ≡ some r = h.seats id (r ∷ []) 0 r at refl in
      let sum : total items_of (set h.recs r.own.place r') ≡ total items_of h.recs =
      total_same items_of h.recs r.own.place r r' here same.items in
      rebuilt s h id r r' at same.place same.steps h.live h.stop (set h.cells e c')
      (length_set h.cells e c' ∙ h.wide) hist
      (λ j m d g f. ⊎_elim
      (λ (t : (j ≡ e) × (c' ≡ d)). subst (λ (x : EdgeName × Cell B). Fitting Γ.fits Γ.program
      x.0.kind x.1) (λ i. (named_same j m d t g i, t.1 i)) T.fit)
      (λ (t : (j ≢ e) × (get_elem? h.cells j ≡ some d)). h.fitting j m d g t.1)
      (at_set h.cells e j c' d f))
      (λ q u apart f. let a = h.apt q u f in record {
        placed = a.placed;
        told = a.told;
        each = λ j m d g k. ⊎_elim
            (λ (t : (j ≡ e) × (c' ≡ d)). moved q u j m d t g
            (T.others q u apart (a.each e n c T.name T.was)))
            (λ (t : (j ≢ e) × (get_elem? h.cells j ≡ some d)). a.each j m d g t.1)
            (at_set h.cells e j c' d k);
        numbers = a.numbers;
        holds = a.holds;
      })
      (let a = h.apt r.own.place r here in record {
        placed = same.place;
        told = same.told a.told;
        each = λ j m d g k. ⊎_elim
            (λ (t : (j ≡ e) × (c' ≡ d)). moved r.own.place r' j m d t g
            (T.here (a.each e n c T.name T.was)))
            (λ (t : (j ≢ e) × (get_elem? h.cells j ≡ some d)). T.mine j m d t.0 g
            (a.each j m d g t.1))
            (at_set h.cells e j c' d k);
        numbers = record {
          over = λ o. a.numbers.over (sym same.over ∙ o);
          code =
              rw same.code a.numbers.code;
        };
        holds = T.holds a.holds;
      })
      (same_numbers Γ h.stop h.recs r.own.place r r' here same.items same.last h.numbers)
      (set s.words (e + 3) (word_of c'))
      (ap (λ ws. set ws (e + 3) (word_of c')) h.words
      ∙ set_edge h.live (total items_of h.recs) h.stop (map word_of h.cells) e (word_of c')
      ∙ (λ i. h.live ∷ sym sum i ∷ h.stop ∷ sym (map_set word_of h.cells e c') i))
      hs hs_are
    where
      named_same : (j : ℕ) (m : EdgeName) (d : Cell B) → (j ≡ e) × (c' ≡ d)
          → get_elem? Γ.names j ≡ some m → n ≡ m
      named_same j m d t g = some-injective n m (sym T.name
          ∙ (subst (λ z. get_elem? Γ.names z ≡ some m) t.0 g))

      moved : (q : ℕ) (u : View Q I) (j : ℕ) (m : EdgeName) (d : Cell B) → (j ≡ e) × (c' ≡ d)
          → get_elem? Γ.names j ≡ some m → AptAt Γ q u e n c' → AptAt Γ q u j m d
      moved q u j m d t g x =
          let k : n ≡ m = named_same j m d t g in
          subst (λ (z : ℕ × EdgeName × Cell B). AptAt Γ q u z.0 z.1 z.2)
          (λ i. (sym t.0 i, k i, t.1 i)) x

  -- a step of an edge that is no event
  pub edge_stays : (s : Table Γ) (h : Shows Γ s) (id : ℕ) (r r' : View Q I)
      → get_elem? s.views id ≡ some (r ∷ [])
      → (e : ℕ) (n : EdgeName) (c c' : Cell B) → Turn s h r r' e n c c'
      → part_of r' ≡ part_of r → edge_of Γ.items c' ≡ edge_of Γ.items c
      → (hs : List (maybe.Option (Option B))) → hs ≡ map slot_of (set h.cells e c')
      → (k : Shows Γ record {
        words = set s.words (e + 3) (word_of c');
        homes = hs;
        views =
            set s.views id (r' ∷ []);
      })
      × (world_of Γ record {
        words = set s.words (e + 3) (word_of c');
        homes = hs;
        views =
            set s.views id (r' ∷ []);
      } k ≡ world_of Γ s h)
  edge_stays s h id r r' at e n c c' T moved edge hs hs_are =
      let here : get_elem? h.recs r.own.place ≡ some r = h.seats id (r ∷ []) 0 r at refl in
      let same = shown_same Γ h.live h.stop h.cells h.recs r.own.place r r' e c c' here T.was moved
      edge in
      let t = turned s h id r r' at e n c c' T (subst (IsPast Γ) same h.history) hs hs_are in
      (t.0, t.1 ∙ sym same)

  -- a step of an edge that is the event of that edge
  pub edge_goes : (s : Table Γ) (h : Shows Γ s) (id : ℕ) (r r' : View Q I)
      → get_elem? s.views id ≡ some (r ∷ [])
      → (e : ℕ) (n : EdgeName) (c c' : Cell B) → Turn s h r r' e n c c'
      → (ev : Event) → edge_named ev ≡ n → actor ev ≡ r.own.place → IsInRange Γ.lines ev
      → IsAble Γ.lines (world_of Γ s h) (part_of r) ev
      → live_after ev h.live ≡ h.live → stop_after ev h.stop ≡ h.stop
      → (taken rest : List I) → Choice (Γ.children Γ.program) Γ.lines ev taken rest
      (record { place = part_of r; edge = edge_of Γ.items c; live = h.live; stop = h.stop })
      → part_of r' ≡ place_after Γ.lines.tries ev taken rest (state_of (edge_of Γ.items c))
      (part_of r) → edge_of Γ.items c' ≡ edge_after ev taken (edge_of Γ.items c)
      → (hs : List (maybe.Option (Option B))) → hs ≡ map slot_of (set h.cells e c')
      → (k : Shows Γ record {
        words = set s.words (e + 3) (word_of c');
        homes = hs;
        views =
            set s.views id (r' ∷ []);
      })
      × Step (Γ.children Γ.program) Γ.lines (world_of Γ s h) ev
      (world_of Γ record {
        words = set s.words (e + 3) (word_of c');
        homes = hs;
        views =
            set s.views id (r' ∷ []);
      } k)
  edge_goes s h id r r' at e n c c' T ev names by within able live stop taken rest choice moved edge
      hs hs_are =
      let here : get_elem? h.recs r.own.place ≡ some r = h.seats id (r ∷ []) 0 r at refl in
      let w : World I = world_of Γ s h in
      let st = steps_to Γ h.grounded.named.once ev h.live h.stop h.cells h.recs r r' e c c'
      (subst (λ p. get_elem? h.recs p ≡ some r) (sym by) here)
      (subst (λ m. get_elem? Γ.names e ≡ some m) (sym names) T.name) T.was within able taken
      rest choice moved edge in
      let to : shown Γ (live_after ev h.live) (stop_after ev h.stop) (set h.cells e c')
      (set h.recs (actor ev) r') ≡ shown Γ h.live h.stop (set h.cells e c')
      (set h.recs r.own.place r') =
      λ i. shown Γ (live i) (stop i) (set h.cells e c') (set h.recs (by i) r') in
      let step = subst (Step (Γ.children Γ.program) Γ.lines w ev) to st in
      let t = turned s h id r r' at e n c c' T
      (goes_on (Γ.children Γ.program) Γ.lines (first Γ) w _ ev h.history step) hs hs_are in
      (t.0, subst (Step (Γ.children Γ.program) Γ.lines w ev) (sym t.1) step)

  -- what a step of live, of items or of the stop code owes beside the world
  pub record Count (s : Table Γ) (h : Shows Γ s) (r r' : View Q I) (live stop : ℕ) : Type 0 where
    pub place : r'.own.place ≡ r.own.place
    pub told : Told Γ r → Told Γ r'
    pub steps : r'.steps ≡ r.steps + 1
    pub others : (u : View Q I) → AptOf Γ h.live h.stop u → AptOf Γ live stop u
    pub mine : AptOf Γ h.live h.stop r → AptOf Γ live stop r'
    pub edges : (j : ℕ) (m : EdgeName) (d : Cell B) → AptAt Γ r.own.place r j m d
        → AptAt Γ r.own.place r' j m d
    pub holds : Holds Γ r → Holds Γ r'
    pub numbers : Numbers Γ stop (set h.recs r.own.place r')

  numbered : (s : Table Γ) (h : Shows Γ s) (id : ℕ) (r r' : View Q I)
      → get_elem? s.views id ≡ some (r ∷ []) → (live stop : ℕ) → Count s h r r' live stop
      → IsPast Γ (shown Γ live stop h.cells (set h.recs r.own.place r'))
      → (ws : List ℕ) → ws ≡ live ∷ total items_of (set h.recs r.own.place r') ∷ stop ∷ map word_of
      h.cells
      → (k : Shows Γ record { words = ws; homes = s.homes; views = set s.views id (r' ∷ []) })
      × (world_of Γ record { words = ws; homes = s.homes; views = set s.views id (r' ∷ []) } k ≡
      shown Γ live stop h.cells (set h.recs r.own.place r'))
  numbered s h id r r' at live stop C hist ws ws_are =
      let a = h.apt r.own.place r (h.seats id (r ∷ []) 0 r at refl) in
      rebuilt s h id r r' at C.place C.steps live stop h.cells h.wide hist h.fitting
      (λ q u apart f. let b = h.apt q u f in record {
        placed = b.placed;
        told = b.told;
        each = b.each;
        numbers = C.others u b.numbers;
        holds =
            b.holds;
      })
      (record {
        placed = C.place;
        told = C.told a.told;
        each =
            λ j m d g k. C.edges j m d (a.each j m d g k);
        numbers = C.mine a.numbers;
        holds =
            C.holds a.holds;
      })
      C.numbers ws ws_are s.homes h.homes

  pub number_stays : (s : Table Γ) (h : Shows Γ s) (id : ℕ) (r r' : View Q I)
      → get_elem? s.views id ≡ some (r ∷ []) → Count s h r r' h.live h.stop
      → part_of r' ≡ part_of r
      → (ws : List ℕ) → ws ≡ h.live ∷ total items_of (set h.recs r.own.place r') ∷ h.stop ∷ map word_of
      h.cells
      → (k : Shows Γ record { words = ws; homes = s.homes; views = set s.views id (r' ∷ []) })
      × (world_of Γ record { words = ws; homes = s.homes; views = set s.views id (r' ∷ []) } k ≡
      world_of Γ s h)
  number_stays s h id r r' at C moved ws ws_are =
      let here : get_elem? h.recs r.own.place ≡ some r = h.seats id (r ∷ []) 0 r at refl in
      let same = shown_alone Γ h.live h.stop h.cells h.recs r.own.place r r' here moved in
      let t = numbered s h id r r' at h.live h.stop C (subst (IsPast Γ) same h.history) ws ws_are in
      (t.0, t.1 ∙ sym same)

  pub number_goes : (s : Table Γ) (h : Shows Γ s) (id : ℕ) (r r' : View Q I)
      → get_elem? s.views id ≡ some (r ∷ []) → (ev : Event)
      → Count s h r r' (live_after ev h.live) (stop_after ev h.stop)
      → actor ev ≡ r.own.place → IsInRange Γ.lines ev
      → IsAble Γ.lines (world_of Γ s h) (part_of r) ev
      → (taken rest : List I) → ((x : WorldEdge I)
      → Choice (Γ.children Γ.program) Γ.lines ev taken rest
      (record { place = part_of r; edge = x; live = h.live; stop = h.stop }))
      → ((x : WorldEdge I) → part_of r' ≡ place_after Γ.lines.tries ev taken rest (state_of x)
      (part_of r)) → ((x : WorldEdge I) → x ≡ edge_after ev taken x)
      → (ws : List ℕ) → ws ≡ live_after ev h.live ∷ total items_of (set h.recs r.own.place r') ∷
      stop_after ev h.stop ∷ map word_of h.cells
      → (k : Shows Γ record { words = ws; homes = s.homes; views = set s.views id (r' ∷ []) })
      × Step (Γ.children Γ.program) Γ.lines (world_of Γ s h) ev
      (world_of Γ record { words = ws; homes = s.homes; views = set s.views id (r' ∷ []) } k)
  number_goes s h id r r' at ev C by within able taken rest choice moved edge ws ws_are =
      let here : get_elem? h.recs r.own.place ≡ some r = h.seats id (r ∷ []) 0 r at refl in
      let w : World I = world_of Γ s h in
      let st = steps_alone Γ ev h.live h.stop h.cells h.recs r r'
      (subst (λ p. get_elem? h.recs p ≡ some r) (sym by) here) within able taken rest choice
      moved edge in
      let step = subst (λ p. Step (Γ.children Γ.program) Γ.lines w ev
      (shown Γ (live_after ev h.live) (stop_after ev h.stop) h.cells (set h.recs p r'))) by
      st in
      let t = numbered s h id r r' at (live_after ev h.live) (stop_after ev h.stop) C
      (goes_on (Γ.children Γ.program) Γ.lines (first Γ) w _ ev h.history step) ws ws_are in
      (t.0, subst (Step (Γ.children Γ.program) Γ.lines w ev) (sym t.1) step)
