-- A view that shows a world shows what an event makes of it, where the tables have the rows of its
-- place and of its edge changed.
use Rattle.std.proofs.Common.{◌≡◌, ◌≢◌, ℕ, ◌*◌, ◌<◌, ◌≤◌, List, [], get_or, set, refl, sym, ap, ◌∙◌}
use Rattle.std.proofs.Common.{subst, ⊎_elim, arith, length-set, get_or-set_same, get_or-set_other}
use Rattle.std.proofs.lemmas.Bool.{cases_eq, cases_lt}
use Rattle.glb_laws.specs.Expansion.{combined}
use Rattle.glb_rules.specs.World.{Setup, World, state_of}
use Rattle.glb_rules.specs.Events.{actor, edge_of, IsInRange}
use Rattle.glb_rules.specs.Effects.{Change, touched, after, place_after, live_after, stop_after}
use Rattle.glb_rules.specs.Steps.{IsEnabled, Step, Choice}
use Rattle.glb_rules.specs.Setups.{IsProper}
use Rattle.glb_rules.proofs.Invariant.Frames.{name_cases}
use Rattle.glb_rules.proofs.Invariant.Replaced.{replaced, becomes}
use Rattle.glb_rules.proofs.Sums.Totals.{sum_same}
use Rattle.glb_laws.proofs.Joins.{join_same}
use Rattle.glb_rules.proofs.Invariant.Steps.{step_keeps}
use Rattle.glb_rules.proofs.Finish.Histories.{live_small}
use Rattle.glb_rules.proofs.EdgeLemmas.Marks.{apart}
use Rattle.glb_rules.specs.Schedules.{IsWhole}
use Rattle.glb_rules.specs.declared.kinds.Kind.{Kind}
use Rattle.glb_rules.specs.declared.kinds.Kind.TheVariants as kind
use Rattle.glb_rules.specs.declared.local.EdgeName.{EdgeName}
use Rattle.glb_rules.specs.declared.local.Local.{Local}
use Rattle.glb_rules.specs.declared.event.Event.{Event}
use Rattle.glb_rules.specs.declared.event.Event.TheVariants as event
use Rattle.glb_core.specs.declared.world.rows.PlaceRow.{PlaceRow}
use Rattle.glb_core.specs.declared.world.rows.EdgeRow.{EdgeRow}
use Rattle.glb_core.specs.declared.world.rows.EdgeRow.TheVariants as edge_row
use Rattle.glb_core.specs.Tables.{WorldView, Shows, ShowsLocal, edge_index, edge_in}
use Rattle.glb_core.specs.Standing.{Represents, SimulatesFrom}
use Rattle.glb_rules.specs.Steps.{expanded}
use Rattle.glb_core.specs.inner.Effects.{IsSimple, AsksAnother, place_row_after, edge_row_after}
use Rattle.glb_core.specs.inner.Effects.{named_edge_index}
use Rattle.glb_rules.specs.Events.{NamesBelow}
use Rattle.glb_core.proofs.Tables.EdgeRows.{edge_index_apart, edge_index_below, of_index}
use Rattle.glb_core.proofs.Tables.PlaceRows.{local_after_effect, effect_edge}

-- the view with other rows and numbers
abbrev pub changed : {B V : Type 0} → WorldView B V → List (PlaceRow B) → List (EdgeRow B) → ℕ → ℕ
    → ℕ → V
    → WorldView B V
changed x place_rows edge_rows live stop total value =
    record x { place_rows = place_rows; edge_rows = edge_rows; live = live; stop = stop; total = total; value = value }

module _ {B I V : Type 0} (items : B → List I) (s : Setup) (x : WorldView B V) (w : World I) where
  pub places_are : Shows items s x w → s.places ≡ x.cube.places
  places_are S = ap (λ t. t.places) S.setup

  pub place_row_shown : Represents items s x w → (p i : ℕ) (r : PlaceRow B) → i ≡ p
      → p < x.cube.places
      → r ≡ get_or x.place_rows i r → ShowsLocal items x.params.seed x.cube.places p r (w.place p)
  place_row_shown S p i r e l h =
      subst (λ q. ShowsLocal items x.params.seed x.cube.places p q (w.place p))
      (sym (h ∙ ap (λ j. get_or x.place_rows j r) e)) (S.shows.place_row p r l)

  pub edge_row_shown : Represents items s x w → (k : Kind) (t v j : ℕ) (z : EdgeRow B)
      → j ≡ edge_index x.cube.places k t v → t < x.cube.places → v < x.cube.places
      → z ≡ get_or x.edge_rows j z → edge_in items z ≡ w.edge k t v
  edge_row_shown S k t v j z e l m h =
      let below = edge_index_below x.cube.places k t v l m in
      of_index (λ y. edge_in items y ≡ w.edge k t v) x.edge_rows j (edge_index x.cube.places k t v) z
      edge_row.Idle h (let a = S.shows.edge_rows in omega arith) e (S.shows.edge_row k t v l m)

  pub shown : Shows items s x w
      → (p : ℕ) (c : EdgeName) (b : Change I) (r : PlaceRow B) (z : EdgeRow B) (place_rows : List (PlaceRow B))
      (edge_rows : List (EdgeRow B)) (live stop total : ℕ) (value : V)
      → p < x.cube.places → c.thief < x.cube.places → c.victim < x.cube.places
      → place_rows ≡ set x.place_rows p r → edge_rows
      ≡ set x.edge_rows (edge_index x.cube.places c.kind c.thief c.victim) z
      → live ≡ b.live → stop ≡ b.stop
      → ShowsLocal items x.params.seed x.cube.places p r b.place → edge_in items z ≡ b.edge
      → Shows items s (changed x place_rows edge_rows live stop total value) (replaced w p c b)
  shown S p c b r z place_rows edge_rows live stop total value l m n hp hs hl hh part edge =
      let h = becomes w p c b in
      let at = edge_index x.cube.places c.kind c.thief c.victim in
      record {
        setup = S.setup;
        places = S.places;
        base = S.base;
        cube = S.cube;
        limits = S.limits;
        place_rows = rw hp (length-set x.place_rows p r ∙ S.place_rows);
        edge_rows = rw hs (length-set x.edge_rows at z ∙ S.edge_rows);
        place_row = λ q d j. ⊎_elim
            (λ (o : q ≡ p). rw (
              o,
              hp,
              h.place,
              get_or-set_same x.place_rows p r d (let a = S.place_rows in omega arith),
            ) part)
            (λ o. rw (hp, h.other_places q o, get_or-set_other x.place_rows p q r d o) (S.place_row q d j))
            (cases_eq q p);
        edge_row = λ k t v i j. ⊎_elim
            (λ same. rw (
              same.0,
              same.1,
              same.2,
              hs,
              h.edge,
              get_or-set_same x.edge_rows at z edge_row.Idle
                  (let a = S.edge_rows in let u = edge_index_below x.cube.places c.kind c.thief c.victim m n
                  in omega arith),
            ) edge)
            (λ o. rw (
              hs,
              h.other_edges k t v o,
              get_or-set_other x.edge_rows at (edge_index x.cube.places k t v) z edge_row.Idle
                  (edge_index_apart x.cube.places c k t v i m o),
            ) (S.edge_row k t v i j))
            (name_cases c k t v);
        live = hl;
        stop = hh;
      }

-- an event that moves and expands no items has no choice, and leaves the items done as they are
choice_of : {I : Type 0} (children : I → List I) (s : Setup) (e : Event) (a : Change I) → IsSimple e
    → Choice children s e [] [] a
choice_of children s (event.Look q t k) a simple = tt
choice_of children s (event.Ask p v k) a simple = tt
choice_of children s (event.Deny q t k) a simple = tt
choice_of children s (event.Mint q) a simple = tt
choice_of children s (event.Burn p) a simple = tt
choice_of children s (event.Shrug p v k) a simple = tt
choice_of children s (event.Sleep p) a simple = tt
choice_of children s (event.Leave p) a simple = tt
choice_of children s (event.Halt p c) a simple = tt
choice_of children s (event.Batch p) a simple = absurd simple
choice_of children s (event.Give q t k) a simple = absurd simple
choice_of children s (event.Take p v k) a simple = absurd simple

expanded_none : (I : Type 0) (e : Event) → IsSimple e → expanded {I = I} e [] ≡ 0
expanded_none I (event.Look q t k) simple = refl
expanded_none I (event.Ask p v k) simple = refl
expanded_none I (event.Deny q t k) simple = refl
expanded_none I (event.Mint q) simple = refl
expanded_none I (event.Burn p) simple = refl
expanded_none I (event.Shrug p v k) simple = refl
expanded_none I (event.Sleep p) simple = refl
expanded_none I (event.Leave p) simple = refl
expanded_none I (event.Halt p c) simple = refl
expanded_none I (event.Batch p) simple = absurd simple
expanded_none I (event.Give q t k) simple = absurd simple
expanded_none I (event.Take p v k) simple = absurd simple

-- the event is no batch
abbrev pub IsNoBatch : Event → Type 0
IsNoBatch (event.Batch p) = ⊥
IsNoBatch _ = Unit {0}

pub no_batch : (e : Event) → IsSimple e → IsNoBatch e
no_batch (event.Look q t k) simple = tt
no_batch (event.Ask p v k) simple = tt
no_batch (event.Deny q t k) simple = tt
no_batch (event.Mint q) simple = tt
no_batch (event.Burn p) simple = tt
no_batch (event.Shrug p v k) simple = tt
no_batch (event.Sleep p) simple = tt
no_batch (event.Leave p) simple = tt
no_batch (event.Halt p c) simple = tt
no_batch (event.Batch p) simple = absurd simple
no_batch (event.Give q t k) simple = absurd simple
no_batch (event.Take p v k) simple = absurd simple

done_stays : {I : Type 0} (most : ℕ) (e : Event) (taken rest : List I) (found : _) (a : Local I)
    → IsNoBatch e → ((place_after most e taken rest found a).done ≡ a.done)
    × ((place_after most e taken rest found a).count.items ≡ a.count.items)
done_stays most (event.Look q t k) taken rest found a simple = (refl, refl)
done_stays most (event.Ask p v k) taken rest found a simple = (refl, refl)
done_stays most (event.Deny q t k) taken rest found a simple = (refl, refl)
done_stays most (event.Mint q) taken rest found a simple = (refl, refl)
done_stays most (event.Give q t k) taken rest found a simple = (refl, refl)
done_stays most (event.Take p v k) taken rest found a simple = (refl, refl)
done_stays most (event.Burn p) taken rest found a simple = (refl, refl)
done_stays most (event.Shrug p v k) taken rest found a simple = (refl, refl)
done_stays most (event.Sleep p) taken rest found a simple = (refl, refl)
done_stays most (event.Leave p) taken rest found a simple = (refl, refl)
done_stays most (event.Halt p c) taken rest found a simple = (refl, refl)
done_stays most (event.Batch p) taken rest found a simple = absurd simple

module _ {B I V : Type 0} (items : B → List I) (children : I → List I) (value : I → V)
    (combine : V → V → V) (unit : V) (s : Setup) (x : WorldView B V) (w : World I)
    (S : Represents items s x w) where
  pub in_range : (e : Event) → NamesBelow x.cube.places e → IsInRange s e
  in_range e b = let n = places_are items s x w S.shows in let i = b.0 in let j = b.1 in let k = b.2
      in (omega arith, omega arith, omega arith)

  -- where the event is no batch, the tables with both rows changed represent the world after it
  pub stepped : (e : Event) (taken rest : List I) (r : PlaceRow B) (z : EdgeRow B) (place_rows : List (PlaceRow B))
      (edge_rows : List (EdgeRow B)) (live stop : ℕ)
      → NamesBelow x.cube.places e → IsEnabled s w e → IsNoBatch e → expanded e taken ≡ 0
      → Choice children s e taken rest (touched w e)
      → place_rows ≡ set x.place_rows (actor e) r → edge_rows
      ≡ set x.edge_rows (named_edge_index x.cube.places e) z
      → live ≡ live_after e x.live → stop ≡ stop_after e x.stop
      → ShowsLocal items x.params.seed x.cube.places (actor e) r (after s e taken rest (touched w e)).place
      → edge_in items z ≡ (after s e taken rest (touched w e)).edge
      → SimulatesFrom items children value combine unit x e 0
      (changed x place_rows edge_rows live stop x.total x.value) s w
  stepped e taken rest r z place_rows edge_rows live stop below enabled plain none choice hp hs hl hh part edge =
      let b = after s e taken rest (touched w e) in
      let new = replaced w (actor e) (edge_of e) b in
      let st : Step children s w e new =
      record {
        in_range = in_range e below;
        enabled = enabled;
        taken = taken;
        rest = rest;
        choice =
            choice;
        becomes = becomes w (actor e) (edge_of e) b;
      } in
      let h = becomes w (actor e) (edge_of e) b in
      let stay = done_stays s.tries e taken rest (state_of (touched w e).edge) (w.place (actor e)) plain in
      let done : (q : ℕ) → (new.place q).done ≡ (w.place q).done = λ q. ⊎_elim
      (λ (o : q ≡ actor e). rw (o, h.place) stay.0)
      (λ o. ap (λ a. a.done) (h.other_places q o))
      (cases_eq q (actor e)) in
      let number : (q : ℕ) → (new.place q).count.items ≡ (w.place q).count.items = λ q. ⊎_elim
      (λ (o : q ≡ actor e). rw (o, h.place) stay.1)
      (λ o. ap (λ a. a.count.items) (h.other_places q o))
      (cases_eq q (actor e)) in
      record {
        next = new;
        step = st;
        number = none;
        stands = record {
          proper = S.proper;
          lawful = step_keeps children s w new e S.proper S.lawful st;
          shows = shown items s x w S.shows (actor e) (edge_of e) b r z place_rows edge_rows live stop x.total
              x.value below.0 below.1 below.2 hp hs (hl ∙ ap (live_after e) S.shows.live)
              (hh ∙ ap (stop_after e) S.shows.stop) part edge;
          total = S.total ∙ sym
              (sum_same s.places (λ q. (w.place q).count.items) (λ q. (new.place q).count.items)
              (λ q l. number q));
        };
        fold = λ f. f ∙ ap (combined value combine unit)
            (sym (join_same s.places (λ q. (w.place q).done) (λ q. (new.place q).done) (λ q l. done q)));
      }

  pub simply_stepped : (e : Event) (r : PlaceRow B) (z : EdgeRow B) (i j : ℕ) (place_rows : List (PlaceRow B))
      (edge_rows : List (EdgeRow B)) (live stop : ℕ)
      → NamesBelow x.cube.places e → AsksAnother x.cube.places e → IsSimple e → IsEnabled s w e
      → i ≡ actor e → j ≡ named_edge_index x.cube.places e → r ≡ get_or x.place_rows i r → z
      ≡ get_or x.edge_rows j z
      → place_rows ≡ set x.place_rows i (place_row_after x.cube.places e z r) → edge_rows
      ≡ set x.edge_rows j (edge_row_after e z)
      → live ≡ live_after e x.live → stop ≡ stop_after e x.stop
      → SimulatesFrom items children value combine unit x e 0
      (changed x place_rows edge_rows live stop x.total x.value) s w
  simply_stepped e r z i j place_rows edge_rows live stop below another simple enabled hi hj hr hz hp hs hl hh =
      let part = place_row_shown items s x w S (actor e) i r hi below.0 hr in
      let edge = edge_row_shown items s x w S (edge_of e).kind (edge_of e).thief (edge_of e).victim j z hj
      below.1 below.2 hz in
      stepped e [] [] (place_row_after x.cube.places e z r) (edge_row_after e z) place_rows edge_rows live stop below
      enabled (no_batch e simple) (expanded_none I e simple)
      (choice_of children s e (touched w e) simple)
      (hp ∙ ap (λ q. set x.place_rows q (place_row_after x.cube.places e z r)) hi)
      (hs ∙ ap (λ q. set x.edge_rows q (edge_row_after e z)) hj) hl hh
      (local_after_effect items x.params.seed x.cube.places s.tries r z (w.place (actor e)) (touched w e).edge
      edge e part below another simple)
      (effect_edge items x.params.seed x.cube.places s.tries r z (w.place (actor e)) (touched w e).edge
      edge e simple)

-- the rows of an event's place and edge, as the code finds them
pub record Found {B V : Type 0} (x : WorldView B V) (e : Event) (i j : ℕ) (r : PlaceRow B) (z : EdgeRow B) : Type
    0 where
  pub below : NamesBelow x.cube.places e
  pub at_place_row : i ≡ actor e
  pub at_edge_row : j ≡ named_edge_index x.cube.places e
  pub place_row : r ≡ get_or x.place_rows i r
  pub edge_row : z ≡ get_or x.edge_rows j z

-- as the code finds them, in slices of the tables
pub found_of : {B V : Type 0} (x : WorldView B V) (e : Event) (i j places : ℕ) (r : PlaceRow B) (z : EdgeRow B)
    (place_rows : List (PlaceRow B)) (edge_rows : List (EdgeRow B)) → NamesBelow x.cube.places e
    → i ≡ actor e → j ≡ named_edge_index places e → places ≡ x.cube.places
    → r ≡ get_or place_rows i r → place_rows ≡ x.place_rows
    → z ≡ get_or edge_rows j z → edge_rows ≡ x.edge_rows → Found x e i j r z
found_of x e i j places r z place_rows edge_rows below a b n f rows g edges = record {
  below = below;
  at_place_row = a;
  at_edge_row = b ∙ ap (λ m. named_edge_index m e) n;
  place_row = f ∙ ap (λ xs. get_or xs i r) rows;
  edge_row = g ∙ ap (λ xs. get_or xs j z) edges;
}

pub local_found : {B I V : Type 0} (items : B
    → List I) (s : Setup) (x : WorldView B V) (w : World I)
    (e : Event) (i j : ℕ) (r : PlaceRow B) (z : EdgeRow B)
    → Found x e i j r z → Represents items s x w
    → ShowsLocal items x.params.seed x.cube.places (actor e) r (w.place (actor e))
local_found items s x w e i j r z f S = place_row_shown items s x w S (actor e) i r f.at_place_row f.below.0 f.place_row

pub edge_found : {B I V : Type 0} (items : B → List I) (s : Setup) (x : WorldView B V) (w : World I)
    (e : Event) (i j : ℕ) (r : PlaceRow B) (z : EdgeRow B)
    → Found x e i j r z → Represents items s x w
    → edge_in items z ≡ w.edge (edge_of e).kind (edge_of e).thief (edge_of e).victim
edge_found items s x w e i j r z f S =
    edge_row_shown items s x w S (edge_of e).kind (edge_of e).thief (edge_of e).victim j z f.at_edge_row f.below.1
    f.below.2 f.edge_row

-- what holds of the event as it was matched holds of the event
pub as_matched : {B V : Type 0} (Q : Event → Type 0) (x : WorldView B V) (e m : Event) (i j : ℕ)
    (r : PlaceRow B) (z : EdgeRow B)
    → e ≡ m → Found x e i j r z → (Found x m i j r z → Q m) → Q e
as_matched Q x e m i j r z same f h = subst Q (sym same) (h (subst (λ k. Found x k i j r z) same f))

pub whole_of : {I : Type 0} (s : Setup) (e : Event) (taken rest : List I) → IsNoBatch e
    → IsWhole s e taken rest
whole_of s (event.Look q t k) taken rest plain = tt
whole_of s (event.Ask p v k) taken rest plain = tt
whole_of s (event.Deny q t k) taken rest plain = tt
whole_of s (event.Mint q) taken rest plain = tt
whole_of s (event.Give q t k) taken rest plain = tt
whole_of s (event.Take p v k) taken rest plain = tt
whole_of s (event.Burn p) taken rest plain = tt
whole_of s (event.Shrug p v k) taken rest plain = tt
whole_of s (event.Sleep p) taken rest plain = tt
whole_of s (event.Leave p) taken rest plain = tt
whole_of s (event.Halt p c) taken rest plain = tt
whole_of s (event.Batch p) taken rest plain = absurd plain

-- who asks, asks another place
pub another : {I : Type 0} (s : Setup) (w : World I) (n : ℕ) (e : Event) → IsProper s
    → NamesBelow n e
    → IsEnabled s w e → AsksAnother n e
another s w n (event.Look q t k) P b en = tt
another s w n (event.Batch p) P b en = tt
another s w n (event.Ask p v kind.Steal) P b en = let d = apart s P kind.Steal p v en.2 in let i = b.0 in
    let j = b.2 in ⊎_elim (λ (l : p < v). omega arith)
    (λ (l : v ≤ p). ⊎_elim (λ (e : p ≡ v). absurd (d e)) (λ (e : p ≢ v). omega arith) (cases_eq p v))
    (cases_lt p v)
another s w n (event.Ask p v kind.Line) P b en = let d = apart s P kind.Line p v en.2 in let i = b.0 in
    let j = b.2 in ⊎_elim (λ (l : p < v). omega arith)
    (λ (l : v ≤ p). ⊎_elim (λ (e : p ≡ v). absurd (d e)) (λ (e : p ≢ v). omega arith) (cases_eq p v))
    (cases_lt p v)
another s w n (event.Deny q t k) P b en = tt
another s w n (event.Mint q) P b en = tt
another s w n (event.Give q t k) P b en = tt
another s w n (event.Take p v k) P b en = tt
another s w n (event.Burn p) P b en = tt
another s w n (event.Shrug p v k) P b en = tt
another s w n (event.Sleep p) P b en = tt
another s w n (event.Leave p) P b en = tt
another s w n (event.Halt p c) P b en = tt

pub live_fits : {B I V : Type 0} (items : B → List I) (s : Setup) (x : WorldView B V) (w : World I)
    → Represents items s x w → x.live ≤ 8320
live_fits items s x w S =
    let n = places_are items s x w S.shows in
    let l = S.shows.limits.places.1 in
    let p = S.shows.places in
    let m = live_small s w (omega arith) S.lawful in
    let e = S.shows.live in
    omega arith

pub named_below : (n : ℕ) (e : Event) → NamesBelow n e → named_edge_index n e < n * 2 * n
named_below n e b = edge_index_below n (edge_of e).kind (edge_of e).thief (edge_of e).victim b.1 b.2
