-- The events that give, take and expand items, on the tables and in the world.
use Rattle.std.proofs.Common.{◌≡◌, ◌≢◌, ℕ, suc, zero, ◌+◌, ◌*◌, ◌<◌, ◌≤◌, List, [], ◌∷◌, ◌++◌}
use Rattle.std.proofs.Common.{length, get_or, set, refl, sym, ap, ◌∙◌, subst, ⊎_elim, arith}
use Rattle.std.proofs.Common.{length-set, get_or-set_same, get_or-set_other, IsPermutation}
use Rattle.std.proofs.Common.{append_assoc}
use Rattle.std.specs.Prelude.{Result, Ok, Err, OnErr, OnOk}
use Rattle.std.proofs.lemmas.Bool.{cases_eq}
use Rattle.std.proofs.lemmas.List.{get_or-replicate, length-replicate}
use Rattle.std.proofs.lemmas.List.Sorted.{IsPermutation-trans, IsPermutation-sym}
use Rattle.std.proofs.lemmas.List.Sorted.{IsPermutation-append_comm, IsPermutation-append_left}
use Rattle.std.proofs.lemmas.List.Sorted.{IsPermutation-append_right, IsPermutation-refl}
use Rattle.glb_laws.specs.Monoid.{MonoidLaws}
use Rattle.glb_laws.specs.Expansion.{Expands, combined}
use Rattle.glb_laws.proofs.Expansions.{moves_before, moves_still, combined-append}
use Rattle.glb_laws.proofs.Shuffles.{combined_permutation}
use Rattle.glb_stats.specs.declared.counters.Counters.{Counters}
use Rattle.glb_rules.specs.World.{Setup, World, state_of}
use Rattle.glb_rules.specs.Events.{edge_of, name_of}
use Rattle.glb_rules.specs.Effects.{touched, after, place_after, of_kind, credit_after_take}
use Rattle.glb_rules.specs.Effects.{wake_count, tries_after}
use Rattle.glb_rules.specs.Steps.{IsEnabled, Step}
use Rattle.glb_rules.specs.Lawful.{all_done}
use Rattle.glb_rules.proofs.Invariant.Replaced.{replaced, becomes}
use Rattle.glb_rules.proofs.Invariant.Frames.{across_change, name_cases}
use Rattle.glb_laws.proofs.Joins.{join_split}
use Rattle.glb_rules.proofs.Invariant.Steps.{step_keeps}
use Rattle.glb_rules.specs.declared.kinds.Kind.{Kind}
use Rattle.glb_rules.specs.declared.kinds.Kind.TheVariants as kind
use Rattle.glb_rules.specs.declared.kinds.Mark.TheVariants as mark
use Rattle.glb_rules.specs.declared.local.Counts.{Counts}
use Rattle.glb_rules.specs.declared.local.Local.{Local}
use Rattle.glb_rules.specs.declared.event.Event.TheVariants as event
use Rattle.glb_core.specs.declared.world.rows.PlaceRow.{PlaceRow}
use Rattle.glb_core.specs.declared.world.rows.EdgeRow.{EdgeRow}
use Rattle.glb_core.specs.declared.world.rows.EdgeRow.TheVariants as edge_row
use Rattle.glb_core.specs.Counters.{counters_of}
use Rattle.glb_core.specs.Tables.{WorldView, ShowsLocal, mark_index, edge_index, edge_in}
use Rattle.glb_core.specs.inner.Effects.{capped, capped_wide}
use Rattle.glb_core.specs.Standing.{Represents, SimulatesFrom}
use Rattle.glb_rules.specs.Events.{NamesBelow}
use Rattle.glb_core.specs.inner.ItemEffects.{GivesPart, TakesPart, AfterBatch, count_given}
use Rattle.glb_core.specs.inner.ItemEffects.{count_got, units_in}
use Rattle.glb_core.proofs.Tables.EdgeRows.{mark_below, edge_index_below, edge_index_apart}
use Rattle.glb_core.proofs.Tables.PlaceRows.{capped_more, capped_same, marks_put}
use Rattle.glb_core.proofs.Tables.Views.{place_row_shown, edge_row_shown, shown, stepped, changed}
use Rattle.glb_core.proofs.Tables.Views.{places_are, in_range}

-- one more, below the last value or at it
-- so does a number of units
pub capped_wide_more : (a n k : ℕ) → a ≡ capped_wide n → capped_wide (a + k) ≡ capped_wide (n + k)
capped_wide_more a n k e = omega arith

pub counted_given : (k : Kind) (u : ℕ) (c : Counters) (n : Counts) → c ≡ counters_of n
    → count_given k u c ≡ counters_of
    (record n {
      given = n.given + of_kind k 1 0;
      line_given = n.line_given + of_kind k 0 1;
      sent_units =
          n.sent_units + u;
    })
counted_given kind.Steal u c n e =
    let f = capped_more c.given n.given 1 (ap (λ x. x.given) e) in
    let h = capped_same c.line_given n.line_given (ap (λ x. x.line_given) e) in
    let v = capped_wide_more c.sent_units n.sent_units u (ap (λ x. x.sent_units) e) in
    λ i. record (e i) { given = f i; line_given = h i; sent_units = v i }
counted_given kind.Line u c n e =
    let f = capped_same c.given n.given (ap (λ x. x.given) e) in
    let h = capped_more c.line_given n.line_given 1 (ap (λ x. x.line_given) e) in
    let v = capped_wide_more c.sent_units n.sent_units u (ap (λ x. x.sent_units) e) in
    λ i. record (e i) { given = f i; line_given = h i; sent_units = v i }

pub counted_got : (k : Kind) (u w : ℕ) (c : Counters) (n : Counts) → c ≡ counters_of n
    → count_got k u w c ≡ counters_of
    (record n {
      got = n.got + of_kind k 1 0;
      line_got = n.line_got + of_kind k 0 1;
      got_units =
          n.got_units + u;
      wakes = n.wakes + w;
    })
counted_got kind.Steal u w c n e =
    let f = capped_more c.got n.got 1 (ap (λ x. x.got) e) in
    let h = capped_same c.line_got n.line_got (ap (λ x. x.line_got) e) in
    let v = capped_wide_more c.got_units n.got_units u (ap (λ x. x.got_units) e) in
    let y = capped_more c.wakes n.wakes w (ap (λ x. x.wakes) e) in
    λ i. record (e i) { got = f i; line_got = h i; got_units = v i; wakes = y i }
counted_got kind.Line u w c n e =
    let f = capped_same c.got n.got (ap (λ x. x.got) e) in
    let h = capped_more c.line_got n.line_got 1 (ap (λ x. x.line_got) e) in
    let v = capped_wide_more c.got_units n.got_units u (ap (λ x. x.got_units) e) in
    let y = capped_more c.wakes n.wakes w (ap (λ x. x.wakes) e) in
    λ i. record (e i) { got = f i; line_got = h i; got_units = v i; wakes = y i }

pub counted_items : (k : ℕ) (c : Counters) (n : Counts) → c ≡ counters_of n
    → record c { items = capped (c.items + k) } ≡ counters_of (record n { items = n.items + k })
counted_items k c n e = let f = capped_more c.items n.items k (ap (λ x. x.items) e)
    in λ i. record (e i) { items = f i }

module _ {B I : Type 0} (items : B
    → List I) (seed n most : ℕ) (r r2 : PlaceRow B) (a : Local I) where
  pub local_after_give : (q t : ℕ) (k : Kind) (z : EdgeRow B) (found : _)
      → ShowsLocal items seed n q r a → t < n
      → (G : GivesPart items k (mark_index n k t) r r2 z)
      → ShowsLocal items seed n q r2
      (place_after most (event.Give q t k) (items G.part) (items r2.bag) found a)
  local_after_give q t k z found R l G =
      subst (λ y. ShowsLocal items seed n q y
      (place_after most (event.Give q t k) (items G.part) (items r2.bag) found a)) (sym G.place_row)
      (record {
        same_phase = R.same_phase;
        same_credit = refl;
        tries = R.tries;
        bag = IsPermutation-refl (items r2.bag);
        many = length-set r.marks.items (mark_index n k t) mark.Clear ∙ R.many;
        marks = marks_put r.marks.items a.marks n k t mark.Clear R.many l R.marks;
        counters = counted_given k (units_in items G.part) r.counters a.count R.counters;
        words = R.words;
        victim = R.victim;
      })

  pub local_after_take : (p v : ℕ) (k : Kind) (z : EdgeRow B) (found : _)
      → ShowsLocal items seed n p r a
      → (T : TakesPart items k r r2 z)
      → ShowsLocal items seed n p r2
      (place_after most (event.Take p v k) (items T.part) (items r2.bag) found a)
  local_after_take p v k z found R T =
      subst (λ y. ShowsLocal items seed n p y
      (place_after most (event.Take p v k) (items T.part) (items r2.bag) found a)) (sym T.place_row)
      (record {
        same_phase = refl;
        same_credit = ap credit_after_take R.same_credit;
        tries = R.tries;
        bag = IsPermutation-refl (items r2.bag);
        many = R.many;
        marks = R.marks;
        counters = ap (λ y. count_got k (units_in items T.part) (wake_count y) r.counters) R.same_phase
            ∙ counted_got k (units_in items T.part) (wake_count a.phase) r.counters a.count R.counters;
        words = R.words;
        victim = R.victim;
      })

  pub local_after_batch : (p : ℕ) (taken : List I) (found : _) → ShowsLocal items seed n p r a
      → AfterBatch items most (length taken) r r2
      → ShowsLocal items seed n p r2 (place_after most (event.Batch p) taken (items r2.bag) found a)
  local_after_batch p taken found R W =
      let ms : (k : Kind) (t : ℕ) → t < n
      → get_or r2.marks.items (mark_index n k t) mark.Unseen ≡ mark.Unseen = λ k t l.
      ap (λ xs. get_or xs (mark_index n k t) mark.Unseen) W.marks
      ∙ get_or-replicate (length r.marks.items) (mark_index n k t) mark.Unseen mark.Unseen
      (let m = R.many in omega (arith, mark_below n k t l)) in
      let long : length r2.marks.items ≡ 2 * n = ap length W.marks
      ∙ length-replicate (length r.marks.items) mark.Unseen ∙ R.many in
      subst (λ y. ShowsLocal items seed n p y
      (place_after most (event.Batch p) taken (items r2.bag) found a)) (sym W.place_row)
      (record {
        same_phase = refl;
        same_credit = R.same_credit;
        tries = ap (λ y. tries_after most y (items r2.bag)) R.tries;
        bag = IsPermutation-refl (items r2.bag);
        many = long;
        marks = ms;
        counters = counted_items (length taken) r.counters a.count R.counters;
        words = R.words;
        victim = R.victim;
      })

pub set_same : {A : Type 0} (xs : List A) (i : ℕ) (d : A) → set xs i (get_or xs i d) ≡ xs
set_same [] i d = refl
set_same (y ∷ ys) zero d = refl
set_same (y ∷ ys) (suc i) d = ap (λ l. y ∷ l) (set_same ys i d)

combined_none : {I V : Type 0} (value : I → V) (combine : V → V → V) (start : V) (xs : List I)
    → length xs ≡ 0 → combined value combine start xs ≡ start
combined_none value combine start [] e = refl
combined_none value combine start (y ∷ ys) e = absurd (omega arith)

pub rest_none : {I : Type 0} (xs : List I) → length xs ≡ 0 → xs ≡ []
rest_none [] e = refl
rest_none (y ∷ ys) e = absurd (omega arith)

-- the tables represent the same world where the bag of a place is in another order and the row of
-- an edge shows the same edge
pub kept_world : {B I V : Type 0} (items : B → List I) (s : Setup) (x : WorldView B V) (w : World I)
    (S : Represents items s x w)
    (p j : ℕ) (k : Kind) (t v : ℕ) (r2 : PlaceRow B) (z2 : EdgeRow B) (place_rows : List (PlaceRow B))
    (edge_rows : List (EdgeRow B)) (total2 : ℕ) (value2 : V)
    → total2 ≡ x.total → p < x.cube.places → t < x.cube.places → v < x.cube.places
    → j ≡ edge_index x.cube.places k t v
    → place_rows ≡ set x.place_rows p r2 → edge_rows ≡ set x.edge_rows j z2
    → ShowsLocal items x.params.seed x.cube.places p r2 (w.place p) → edge_in items z2
    ≡ w.edge k t v
    → Represents items s (changed x place_rows edge_rows x.live x.stop total2 value2) w
kept_world items s x w S p j k t v r2 z2 place_rows edge_rows total2 value2 ht l m n hj hp hs part edge =
    let A = S.shows in
    let at = edge_index x.cube.places k t v in
    let hs2 : edge_rows ≡ set x.edge_rows at z2 = hs ∙ ap (λ i. set x.edge_rows i z2) hj in
    record {
      proper = S.proper;
      lawful = S.lawful;
      shows = record {
        setup = A.setup;
        places = A.places;
        base = A.base;
        cube = A.cube;
        limits = A.limits;
        place_rows = rw hp (length-set x.place_rows p r2 ∙ A.place_rows);
        edge_rows = rw hs2 (length-set x.edge_rows at z2 ∙ A.edge_rows);
        place_row = λ q d b. ⊎_elim
            (λ (o : q ≡ p). rw (o, hp, get_or-set_same x.place_rows p r2 d (let a = A.place_rows in omega arith))
            part)
            (λ o. rw (hp, get_or-set_other x.place_rows p q r2 d o) (A.place_row q d b))
            (cases_eq q p);
        edge_row = λ k2 t2 v2 b c. ⊎_elim
            (λ same. rw (
              same.0,
              same.1,
              same.2,
              hs2,
              get_or-set_same x.edge_rows at z2 edge_row.Idle
                  (let a = A.edge_rows in let u = edge_index_below x.cube.places k t v m n in omega arith),
            ) edge)
            (λ o. rw (
              hs2,
              get_or-set_other x.edge_rows at (edge_index x.cube.places k2 t2 v2) z2 edge_row.Idle
                  (edge_index_apart x.cube.places (name_of k t v) k2 t2 v2 b m o),
            ) (A.edge_row k2 t2 v2 b c))
            (name_cases (name_of k t v) k2 t2 v2);
        live = A.live;
        stop = A.stop;
      };
      total = ht ∙ S.total;
    }

-- the row of a place with its bag in another order shows the same local state
pub reordered : {B I : Type 0} (items : B → List I) (seed n p : ℕ) (r r2 : PlaceRow B) (a : Local I)
    → ShowsLocal items seed n p r a
    → r2 ≡ record r { bag = r2.bag } → IsPermutation (items r2.bag) (items r.bag)
    → ShowsLocal items seed n p r2 a
reordered items seed n p r r2 a R shape order =
    subst (λ y. ShowsLocal items seed n p y a) (sym shape) (record {
      same_phase = R.same_phase;
      same_credit = R.same_credit;
      tries = R.tries;
      bag = IsPermutation-trans (items r2.bag) (items r.bag) a.bag order R.bag;
      many = R.many;
      marks = R.marks;
      counters = R.counters;
      words = R.words;
      victim = R.victim;
    })

module _ {B I V : Type 0} (items : B → List I) (children : I → List I) (value : I → V)
    (combine : V → V → V) (unit : V) (s : Setup) (x : WorldView B V) (w : World I)
    (S : Represents items s x w) where
  pub gives : (q t : ℕ) (k : Kind) (r r2 : PlaceRow B) (z2 : EdgeRow B) (j at : ℕ) (place_rows : List (PlaceRow B))
      (edge_rows : List (EdgeRow B))
      → NamesBelow x.cube.places (event.Give q t k) → IsEnabled s w (event.Give q t k)
      → r ≡ get_or x.place_rows q r → at ≡ mark_index x.cube.places k t → j
      ≡ edge_index x.cube.places k t q
      → GivesPart items k at r r2 z2 → place_rows ≡ set x.place_rows q r2 → edge_rows
      ≡ set x.edge_rows j z2
      → SimulatesFrom items children value combine unit x (event.Give q t k) 0
      (changed x place_rows edge_rows x.live x.stop x.total x.value) s w
  gives q t k r r2 z2 j at place_rows edge_rows below able hr hat hj G hp hs =
      let R = place_row_shown items s x w S q q r refl below.0 hr in
      let G2 : GivesPart items k (mark_index x.cube.places k t) r r2 z2 =
      subst (λ m. GivesPart items k m r r2 z2) hat G in
      let a = w.place q in
      stepped items children value combine unit s x w S (event.Give q t k) (items G2.part) (items r2.bag)
      r2 z2 place_rows edge_rows x.live x.stop below able tt refl (
        G2.some,
        G2.left,
        IsPermutation-trans a.bag (items r.bag) (items G2.part ++ items r2.bag)
            (IsPermutation-sym (items r.bag) a.bag R.bag) G2.same,
      )
      hp (hs ∙ ap (λ m. set x.edge_rows m z2) hj) refl refl
      (local_after_give items x.params.seed x.cube.places s.tries r r2 a q t k z2
      (state_of (touched w (event.Give q t k)).edge) R below.1 G2) (ap (edge_in items) G2.edge_row_is)

  pub takes : (p v : ℕ) (k : Kind) (r r2 : PlaceRow B) (z : EdgeRow B) (j : ℕ) (place_rows : List (PlaceRow B))
      (edge_rows : List (EdgeRow B))
      → NamesBelow x.cube.places (event.Take p v k) → IsEnabled s w (event.Take p v k)
      → r ≡ get_or x.place_rows p r → j ≡ edge_index x.cube.places k p v → z
      ≡ get_or x.edge_rows j z
      → TakesPart items k r r2 z → place_rows ≡ set x.place_rows p r2 → edge_rows
      ≡ set x.edge_rows j edge_row.Idle
      → SimulatesFrom items children value combine unit x (event.Take p v k) 0
      (changed x place_rows edge_rows x.live x.stop x.total x.value) s w
  takes p v k r r2 z j place_rows edge_rows below able hr hj hz T hp hs =
      let R = place_row_shown items s x w S p p r refl below.0 hr in
      let E = edge_row_shown items s x w S k p v j z hj below.1 below.2 hz in
      let a = w.place p in
      stepped items children value combine unit s x w S (event.Take p v k) (items T.part) (items r2.bag)
      r2 edge_row.Idle place_rows edge_rows x.live x.stop below able tt refl (
        sym E ∙ ap (edge_in items) T.edge_row_is,
        IsPermutation-trans (items T.part ++ a.bag) (a.bag ++ items T.part) (items r2.bag)
            (IsPermutation-append_comm (items T.part) a.bag)
            (IsPermutation-trans (a.bag ++ items T.part) (items r.bag ++ items T.part) (items r2.bag)
            (IsPermutation-append_left (items T.part) a.bag (items r.bag)
            (IsPermutation-sym (items r.bag) a.bag R.bag)) T.merged),
      )
      hp (hs ∙ ap (λ m. set x.edge_rows m edge_row.Idle) hj) refl refl
      (local_after_take items x.params.seed x.cube.places s.tries r r2 a p v k z
      (state_of (touched w (event.Take p v k)).edge) R T) refl

  -- done lists, with more items done at one place
  done_more : (p : ℕ) (w2 : World I) (taken : List I) → p < s.places
      → (w2.place p).done ≡ (w.place p).done ++ taken
      → ((q : ℕ) → q < s.places → q ≢ p → (w2.place q).done ≡ (w.place q).done)
      → IsPermutation (all_done s w ++ taken) (all_done s w2)
  done_more p w2 taken l here else =
      let f : ℕ → List I = λ q. (w.place q).done in
      let g : ℕ → List I = λ q. (w2.place q).done in
      let j = join_split s.places p f g l else in
      let a : IsPermutation (all_done s w ++ taken) ((f p ++ j.0) ++ taken) =
      IsPermutation-append_left taken (all_done s w) (f p ++ j.0) j.1 in
      let b : IsPermutation ((f p ++ j.0) ++ taken) ((f p ++ taken) ++ j.0) =
      rw (append_assoc (f p) j.0 taken, append_assoc (f p) taken j.0)
      (IsPermutation-append_right (f p) (j.0 ++ taken) (taken ++ j.0)
      (IsPermutation-append_comm j.0 taken)) in
      let c : IsPermutation (g p ++ j.0) (all_done s w2) =
      IsPermutation-sym (all_done s w2) (g p ++ j.0) j.2 in
      let d : IsPermutation ((f p ++ taken) ++ j.0) (all_done s w2) =
      subst (λ y. IsPermutation (y ++ j.0) (all_done s w2)) here c in
      IsPermutation-trans (all_done s w ++ taken) ((f p ++ j.0) ++ taken) (all_done s w2) a
      (IsPermutation-trans ((f p ++ j.0) ++ taken) ((f p ++ taken) ++ j.0) (all_done s w2) b d)

  module _ (IsGood : V → Type 0) (laws : MonoidLaws IsGood unit combine)
      (good : (y : I) → IsGood (value y)) where
    pub works : (p k : ℕ) (r r2 : PlaceRow B) (value2 : V) (place_rows : List (PlaceRow B)) (total : ℕ)
        → p < x.cube.places → IsEnabled s w (event.Batch p) → r ≡ get_or x.place_rows p r
        → (X : Expands children value combine (items r.bag) x.value k (items r2.bag) value2) → 1 ≤ k
        → k ≤ s.batch → AfterBatch items s.tries k r r2
        → place_rows ≡ set x.place_rows p r2 → total ≡ x.total + k
        → (lead : SimulatesFrom items children value combine unit x (event.Batch p) k
        (changed x place_rows x.edge_rows x.live x.stop total value2) s w)
        × (lead.step.rest ≡ items r2.bag)
    works p k r r2 value2 place_rows total l able hr X some most W hp ht =
        let e = event.Batch p in
        let n = places_are items s x w S.shows in
        let R = place_row_shown items s x w S p p r refl l hr in
        let a = w.place p in
        let b = after s e X.taken (items r2.bag) (touched w e) in
        let new = replaced w p (edge_of e) b in
        let h = becomes w p (edge_of e) b in
        let j = edge_index x.cube.places kind.Steal p p in
        let st : Step children s w e new = record {
          in_range = in_range items children value combine unit s x w S e (l, l, l);
          enabled = able;
          taken = X.taken;
          rest = items r2.bag;
          choice = (
            (let q = X.number in omega arith),
            (let q = X.number in omega arith),
            moves_before children a.bag (items r.bag) X.taken (items r2.bag)
                (IsPermutation-sym (items r.bag) a.bag R.bag) X.moves,
          );
          becomes = h;
        } in
        let W2 : AfterBatch items s.tries (length X.taken) r r2 =
        subst (λ m. AfterBatch items s.tries m r r2) (sym X.number) W in
        let m : p < s.places = omega arith in
        let lead : SimulatesFrom items children value combine unit x (event.Batch p) k
        (changed x place_rows x.edge_rows x.live x.stop total value2) s w = record {
          next = new;
          step = st;
          number = X.number;
          stands = record {
            proper = S.proper;
            lawful = step_keeps children s w new e S.proper S.lawful st;
            shows = shown items s x w S.shows p (edge_of e) b r2 (get_or x.edge_rows j edge_row.Idle) place_rows
                x.edge_rows x.live x.stop total value2 l l l hp (sym (set_same x.edge_rows j edge_row.Idle))
                S.shows.live S.shows.stop
                (local_after_batch items x.params.seed x.cube.places s.tries r r2 a p X.taken
                (state_of (touched w e).edge) R W2) (S.shows.edge_row kind.Steal p p l l);
            total =
                let change = across_change s w new p (edge_of e) b h (λ y. y.count.items) m in
                let old = S.total in
                let q = X.number in
                omega arith;
          };
          fold = λ f.
              let order = done_more p new X.taken m (ap (λ y. y.done) h.place)
              (λ q _ o. ap (λ y. y.done) (h.other_places q o)) in
              X.value_is ∙ ap (λ v. combined value combine v X.taken) f
              ∙ sym (combined-append children value combine (all_done s w) X.taken unit)
              ∙ combined_permutation laws value good (all_done s w ++ X.taken) (all_done s new) order unit
              laws.unit_proper;
        } in
        (lead, refl)

pub on_err_3 : {T E A C D Z : Type 0} (r : Result T E) → (A → C → D → Z) → OnErr r A → OnErr r C
    → OnErr r D → OnErr r Z
on_err_3 (Ok v) f a c d = tt
on_err_3 (Err e) f a c d = f a c d

pub on_ok_2 : {T E A C Z : Type 0} (r : Result T E) → (A → C → Z) → OnOk r A → OnOk r C → OnOk r Z
on_ok_2 (Ok v) f a c = f a c
on_ok_2 (Err e) f a c = tt

-- what a batch that ran out of memory before the first expansion leaves
pub stays_at : {B I V : Type 0} (items : B → List I) (children : I → List I) (value : I → V)
    (combine : V → V → V) (s : Setup) (x : WorldView B V) (w : World I) (S : Represents items s x w)
    (p k : ℕ) (r r2 : PlaceRow B) (value2 : V) (place_rows : List (PlaceRow B)) (total : ℕ)
    → p < x.cube.places
    → r ≡ get_or x.place_rows p r
    → (X : Expands children value combine (items r.bag) x.value k (items r2.bag) value2) → k ≡ 0
    → r2 ≡ record r { bag = r2.bag }
    → place_rows ≡ set x.place_rows p r2 → total ≡ x.total + k
    → Represents items s (changed x place_rows x.edge_rows x.live x.stop total value2) w
stays_at items children value combine s x w S p k r r2 value2 place_rows total l hr X none shape hp ht =
    let R = place_row_shown items s x w S p p r refl l hr in
    let j = edge_index x.cube.places kind.Steal p p in
    let order = moves_still children (items r.bag) X.taken (items r2.bag) X.moves (X.number ∙ none) in
    kept_world items s x w S p j kind.Steal p p r2 (get_or x.edge_rows j edge_row.Idle) place_rows x.edge_rows total value2
    (ht ∙ (let t : x.total + k ≡ x.total = omega arith in t)) l l l refl hp
    (sym (set_same x.edge_rows j edge_row.Idle))
    (reordered items x.params.seed x.cube.places p r r2 (w.place p) R shape
    (IsPermutation-sym (items r.bag) (items r2.bag) order)) (S.shows.edge_row kind.Steal p p l l)

pub value_stays : {I V : Type 0} (children : I → List I) (value : I → V) (combine : V → V → V)
    (before after : List I) (start gain : V) (k : ℕ)
    → (X : Expands children value combine before start k after gain) → k ≡ 0 → gain ≡ start
value_stays children value combine before after start gain k X none = X.value_is
    ∙ combined_none value combine start X.taken (X.number ∙ none)
