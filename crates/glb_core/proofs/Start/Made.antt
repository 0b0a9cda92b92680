-- The tables that are made at the start show the start.
use Rattle.std.proofs.Common.{◌≡◌, ◌≢◌, ℕ, suc, ◌+◌, ◌-◌, ◌*◌, ◌<◌, ◌≤◌, List, [], ◌∷◌, ◌++◌}
use Rattle.std.proofs.Common.{length, get_or, map, replicate, refl, sym, ap, ◌∙◌, subst, ◌⊎◌, inl}
use Rattle.std.proofs.Common.{inr, ⊎_elim, arith, length-append, Bool, true, false}
use Rattle.std.specs.List.{range_with_len}
use Rattle.std.proofs.lemmas.Bool.{cases_eq, cases_lt, le-ltb, cond-false}
use Rattle.std.proofs.lemmas.List.{get_or_append_left, get_or-append-add, get_or_push}
use Rattle.std.proofs.lemmas.List.{get_or-replicate, length-replicate, get_or-map}
use Rattle.std.proofs.lemmas.List.FromFn.{get_or-map-range_with_len, length-map-range_with_len}
use Rattle.std.proofs.lemmas.Nat.{mul-add-lt}
use Rattle.rand_pcg.specs.Lcg.{Lcg, next, advance, started, increment_of}
use Rattle.rand_pcg.specs.Pcg.{multiplier_64, output_xsh_rr}
use Rattle.rand_pcg.proofs.LcgLemmas.{advance_zero}
use Rattle.glb_cube.specs.Lines.{Cube, outs_of}
use Rattle.glb_laws.specs.Numbers.{has_number}
use Rattle.glb_laws.specs.Sums.{sum_to}
use Rattle.glb_rules.specs.Setups.{has_items, bit, tries_of, IsWithinLimits}
use Rattle.glb_rules.specs.History.{start, first_line}
use Rattle.glb_rules.specs.Draws.{drawn}
use Rattle.glb_rules.proofs.Sums.Totals.{sum_zero}
use Rattle.glb_core.proofs.Lifelines.Setups.{proper, line_is}
use Rattle.glb_rules.proofs.Invariant.Start.{start_lawful}
use Rattle.std.proofs.lemmas.List.Sorted.{IsPermutation-refl}
use Rattle.glb_rules.specs.declared.kinds.Kind.{Kind}
use Rattle.glb_rules.specs.declared.kinds.Kind.TheVariants as kind
use Rattle.glb_rules.specs.declared.params.Params.{Params}
use Rattle.glb_core.specs.declared.world.rows.PlaceRow.{PlaceRow}
use Rattle.glb_core.specs.declared.world.rows.EdgeRow.{EdgeRow}
use Rattle.glb_core.specs.declared.world.rows.EdgeRow.TheVariants as edge_row
use Rattle.glb_core.specs.declared.world.tables.Tables.{Tables}
use Rattle.glb_core.specs.Tables.{WorldView, ShowsLocal, edge_index, kind_number, edge_in, view_of}
use Rattle.glb_core.specs.inner.Start.{FirstEdgeRows, FirstPlaceRows, FirstTables}
use Rattle.glb_core.specs.Victims.{FirstVictim}
use Rattle.glb_rules.specs.History.{first_local}
use Rattle.glb_core.specs.inner.Start.{first_edge_row, edge_row_at_start, with_bag}
use Rattle.glb_core.specs.Lifelines.{setup_for}
use Rattle.glb_core.specs.Standing.{StartsAt, ListsFit}
use Rattle.glb_core.specs.Standing.{AllFit, EdgeRowFits}
use Rattle.glb_core.proofs.Tables.PlaceRows.{advance_next, word_is, drawn_is}
use Rattle.glb_core.proofs.Tables.EdgeRows.{kind_below, element}

-- no part travels on the edges of these rows
abbrev IsPlain : {B : Type 0} → List (EdgeRow B) → Type 0
IsPlain {B = B} edge_rows = (j : ℕ) (d : EdgeRow B) → j < length edge_rows → (get_or edge_rows j d ≡ edge_row.Idle)
    ⊎ (get_or edge_rows j d ≡ edge_row.Refused)

plain_append : {B : Type 0} (xs ys : List (EdgeRow B)) → IsPlain xs → IsPlain ys
    → IsPlain (xs ++ ys)
plain_append xs ys a b j d l = ⊎_elim
    (λ (low : j < length xs).
    subst (λ z. (z ≡ edge_row.Idle) ⊎ (z ≡ edge_row.Refused)) (sym (get_or_append_left xs ys d j low))
    (a j d low))
    (λ (high : length xs ≤ j).
    let k : length xs + (j - length xs) ≡ j = omega arith in
    subst (λ z. (z ≡ edge_row.Idle) ⊎ (z ≡ edge_row.Refused))
    (sym (get_or-append-add xs ys (j - length xs) d) ∙ ap (λ q. get_or (xs ++ ys) q d) k)
    (b (j - length xs) d (omega (arith, length-append xs ys))))
    (cases_lt j (length xs))

plain_idle : {B : Type 0} (n : ℕ) → IsPlain (replicate {A = EdgeRow B} n edge_row.Idle)
plain_idle {B = B} n j d l =
    inl (get_or-replicate n j edge_row.Idle d (omega (arith, length-replicate {A = EdgeRow B} n edge_row.Idle)))

plain_first : {B : Type 0} (a b : Bool) → (first_edge_row {B = B} a b ≡ edge_row.Idle)
    ⊎ (first_edge_row {B = B} a b ≡ edge_row.Refused)
plain_first true b = inl refl
plain_first false true = inr refl
plain_first false false = inl refl

plain_row : {B : Type 0} (n : ℕ) (a b : ℕ → Bool)
    → IsPlain (map (λ t. first_edge_row {B = B} (a t) (b t)) (range_with_len 0 n))
plain_row {B = B} n a b j d l =
    let m : j < n = let e = length-map-range_with_len (λ t. first_edge_row {B = B} (a t) (b t)) 0 n
    in omega arith in
    subst (λ z. (z ≡ edge_row.Idle) ⊎ (z ≡ edge_row.Refused))
    (sym (get_or-map-range_with_len (λ t. first_edge_row {B = B} (a t) (b t)) 0 n j j d m (omega arith)))
    (plain_first (a j) (b j))

-- one more victim's row
pub rows_more : {B : Type 0} (c : Cube) (awake : ℕ → Bool) (n v j : ℕ)
    (edge_rows slots2 slots3 : List (EdgeRow B)) → FirstEdgeRows c awake n v edge_rows → j ≡ v + 1
    → slots2 ≡ edge_rows ++ replicate n edge_row.Idle
    → slots3 ≡ slots2 ++ map (λ t. first_edge_row (awake t) (has_number v (outs_of c t))) (range_with_len 0 n)
    → FirstEdgeRows c awake n j slots3
rows_more {B = B} c awake n v j edge_rows slots2 slots3 F hj h2 h3 =
    let row : List (EdgeRow B) =
    map (λ t. first_edge_row {B = B} (awake t) (has_number v (outs_of c t))) (range_with_len 0 n) in
    let long2 : length slots2 ≡ v * 2 * n + n = ap length h2 ∙ length-append edge_rows (replicate n edge_row.Idle)
    ∙ (let a = F.number in let b = length-replicate {A = EdgeRow B} n edge_row.Idle in omega arith) in
    let long3 : length slots3 ≡ v * 2 * n + n + n = ap length h3 ∙ length-append slots2 row
    ∙ (let b = length-map-range_with_len
    (λ t. first_edge_row {B = B} (awake t) (has_number v (outs_of c t))) 0 n in omega arith) in
    record {
      number = (let a = long3 in rw hj (omega arith));
      edge = λ k t u l m. ⊎_elim
          (λ (o : u ≡ v). rw o (at_last k t l))
          (λ (o : u ≢ v).
          let low : u < v = omega arith in
          let q = kind_below k in
          let y : (u * 2 + kind_number k) * n + t < n * (v * 2) =
          mul-add-lt (u * 2 + kind_number k) n t (v * 2) (omega arith) l in
          let b : edge_index n k t u < v * 2 * n = omega arith in
          ap (λ x. get_or x (edge_index n k t u) edge_row.Idle) h3
          ∙ get_or_append_left slots2 row edge_row.Idle (edge_index n k t u) (omega arith)
          ∙ ap (λ x. get_or x (edge_index n k t u) edge_row.Idle) h2
          ∙ get_or_append_left edge_rows (replicate n edge_row.Idle) edge_row.Idle (edge_index n k t u)
          (let a = F.number in omega arith)
          ∙ F.edge k t u l low)
          (cases_eq u v);
      plain = subst IsPlain (sym h3)
          (plain_append slots2 row
          (subst IsPlain (sym h2) (plain_append edge_rows (replicate n edge_row.Idle) F.plain (plain_idle n)))
          (plain_row n awake (λ t. has_number v (outs_of c t))));
    }
  where
    at_last : (k : Kind) (t : ℕ) → t < n
        → get_or slots3 (edge_index n k t v) edge_row.Idle ≡ edge_row_at_start c awake k t v
    at_last kind.Steal t l =
        let a = F.number in
        let i : edge_index n kind.Steal t v ≡ length edge_rows + t = omega arith in
        let long2 : length slots2 ≡ v * 2 * n + n = ap length h2
        ∙ length-append edge_rows (replicate n edge_row.Idle)
        ∙ (let b = length-replicate {A = EdgeRow B} n edge_row.Idle in omega arith) in
        ap (λ x. get_or x (edge_index n kind.Steal t v) edge_row.Idle) h3
        ∙ get_or_append_left slots2
        (map (λ t. first_edge_row {B = B} (awake t) (has_number v (outs_of c t))) (range_with_len 0 n))
        edge_row.Idle (edge_index n kind.Steal t v) (omega arith)
        ∙ ap (λ x. get_or x (edge_index n kind.Steal t v) edge_row.Idle) h2
        ∙ ap (λ q. get_or (edge_rows ++ replicate n edge_row.Idle) q edge_row.Idle) i
        ∙ get_or-append-add edge_rows (replicate n edge_row.Idle) t edge_row.Idle
        ∙ get_or-replicate n t edge_row.Idle edge_row.Idle l
    at_last kind.Line t l =
        let a = F.number in
        let long2 : length slots2 ≡ v * 2 * n + n = ap length h2
        ∙ length-append edge_rows (replicate n edge_row.Idle)
        ∙ (let b = length-replicate {A = EdgeRow B} n edge_row.Idle in omega arith) in
        let i : edge_index n kind.Line t v ≡ length slots2 + t = omega arith in
        ap (λ x. get_or x (edge_index n kind.Line t v) edge_row.Idle) h3
        ∙ ap (λ q. get_or (slots2
        ++ map (λ t. first_edge_row {B = B} (awake t) (has_number v (outs_of c t))) (range_with_len 0 n)) q
        edge_row.Idle) i
        ∙ get_or-append-add slots2
        (map (λ t. first_edge_row {B = B} (awake t) (has_number v (outs_of c t))) (range_with_len 0 n)) t
        edge_row.Idle
        ∙ get_or-map-range_with_len (λ t. first_edge_row {B = B} (awake t) (has_number v (outs_of c t))) 0 n t
        t edge_row.Idle l (omega arith)

-- the row of one place more
pub place_rows_more : {B I : Type 0} (items : B → List I) (params : Params) (bag_of : ℕ
    → List I) (p j : ℕ)
    (place_rows seats2 : List (PlaceRow B)) (r : PlaceRow B)
    → FirstPlaceRows items params bag_of p place_rows → j ≡ p + 1
    → ShowsLocal items params.seed params.places p r (first_local (tries_of params) (bag_of p))
    → seats2 ≡ place_rows ++ r ∷ []
    → FirstPlaceRows items params bag_of j seats2
place_rows_more items params bag_of p j place_rows seats2 r F hj R hs = record {
  number_is = ap length hs ∙ length-append place_rows (r ∷ []) ∙ (let a = F.number_is in omega arith);
  place_row = λ q d l. ⊎_elim
      (λ (o : q ≡ p). subst
      (λ y. ShowsLocal items params.seed params.places q y (first_local (tries_of params) (bag_of q)))
      (sym (ap (λ x. get_or x q d) hs ∙ get_or_push place_rows r d q (F.number_is ∙ sym o)))
      (subst (λ y. ShowsLocal items params.seed params.places y r
      (first_local (tries_of params) (bag_of y))) (sym o) R))
      (λ (o : q ≢ p). subst
      (λ y. ShowsLocal items params.seed params.places q y (first_local (tries_of params) (bag_of q)))
      (sym (ap (λ x. get_or x q d) hs
      ∙ get_or_append_left place_rows (r ∷ []) d q (let a = F.number_is in omega arith)))
      (F.place_row q d (omega arith)))
      (cases_eq q p);
}

pub first_words : (seed p : ℕ) (old new : Lcg) → old
    ≡ started 64 multiplier_64 seed (increment_of 64 p)
    → new ≡ next 64 multiplier_64 old
    → new ≡ advance 64 multiplier_64 1 (started 64 multiplier_64 seed (increment_of 64 p))
first_words seed p old new e f = f
    ∙ advance_next 64 multiplier_64 0 (started 64 multiplier_64 seed (increment_of 64 p)) old
    (e ∙ sym (advance_zero 64 multiplier_64 _))

pub first_drawn : (seed n p v : ℕ) (old new : Lcg)
    → old ≡ started 64 multiplier_64 seed (increment_of 64 p) → FirstVictim n p old new v
    → v ≡ drawn seed n p 0
first_drawn seed n p v old new e F = ⊎_elim
    (λ (two : 1 < n). F.victim two
    ∙ drawn_is seed n p 0 (output_xsh_rr old.state) two
    (word_is seed p 0 old (e ∙ sym (advance_zero 64 multiplier_64 _))))
    (λ (one : n ≤ 1). F.none one ∙ sym (cond-false _ _ _ (le-ltb 1 n one)))
    (cases_lt 1 n)

pub sum_more : (i j : ℕ) (f : ℕ → ℕ) → j ≡ i + 1 → sum_to j f ≡ sum_to i f + f i
sum_more i j f e = let s : j ≡ suc i = omega arith in ap (λ k. sum_to k f) s

edge_first : {B I : Type 0} (items : B → List I) (a b : Bool)
    → edge_in items (first_edge_row a b) ≡ first_line a b
edge_first items true b = refl
edge_first items false true = refl
edge_first items false false = refl

-- the row of a place with a bag shows the local state with the bag
local_with_bag : {B I : Type 0} (items : B → List I) (seed n p tries : ℕ) (r : PlaceRow B) (b : B)
    → ShowsLocal items seed n p r (first_local tries [])
    → ShowsLocal items seed n p (with_bag items b r) (first_local tries (items b))
local_with_bag items seed n p tries r b R = record {
  same_phase = refl;
  same_credit = refl;
  tries = R.tries;
  bag = IsPermutation-refl (items b);
  many = R.many;
  marks = R.marks;
  counters = R.counters;
  words = R.words;
  victim = R.victim;
}

pub started_at : {B I V : Type 0} (items : B → List I) (unit : V) (params : Params) (bags : List B)
    (t : Tables B V) (place_rows : List (PlaceRow B))
    → IsWithinLimits params → length bags ≡ params.places
    → FirstTables items unit params (map items bags) t → length place_rows
    ≡ length t.place_rows.items
    → ((i : ℕ) (d : PlaceRow B) (e : B) → i < length bags
    → get_or place_rows i d ≡ with_bag items (get_or bags i e) (get_or t.place_rows.items i d))
    → StartsAt items unit params (map items bags) (record (view_of t) { place_rows = place_rows })
started_at {B = B} {I = I} items unit params bags t place_rows limits many F number filled =
    let x : WorldView B _ = record (view_of t) { place_rows = place_rows } in
    let s = setup_for x.cube x.params (λ p. get_or (map items bags) p []) in
    let bag_of : ℕ → List I = λ p. get_or (map items bags) p [] in
    let places : t.params.places ≡ t.lines.places = ap (λ q. q.places) F.params_are ∙ sym F.places in
    let w = start s bag_of in (
      F.params_are,
      F.value,
      record {
        proper = proper t.lines t.params (λ p. has_items (bag_of p)) F.cube places
            (let a = limits.batch.0 in let b = ap (λ q. q.batch) F.params_are in omega arith);
        lawful = start_lawful s bag_of (λ p l. refl);
        shows = record {
          setup = refl;
          places = sym places;
          base = F.base ∙ sym (ap (λ q. q.base) F.params_are);
          cube = F.cube;
          limits = subst IsWithinLimits (sym F.params_are) limits;
          place_rows = number ∙ F.place_rows.number_is ∙ sym F.places;
          edge_rows = F.edge_rows.number;
          place_row = λ p d l.
              let m : p < params.places = let a = F.places in omega arith in
              let low : p < length bags = omega arith in
              let e = element bags p low in
              let R = F.place_rows.place_row p d m in
              let b : items (get_or bags p e) ≡ bag_of p = sym (get_or-map items bags p e [] low) in
              let A : ShowsLocal items params.seed params.places p
              (with_bag items (get_or bags p e) (get_or t.place_rows.items p d))
              (first_local (tries_of params) (items (get_or bags p e))) =
              local_with_bag items params.seed params.places p (tries_of params)
              (get_or t.place_rows.items p d) (get_or bags p e) R in
              let C : ShowsLocal items params.seed params.places p (get_or place_rows p d)
              (first_local (tries_of params) (bag_of p)) =
              subst (λ y. ShowsLocal items params.seed params.places p y
              (first_local (tries_of params) (bag_of p))) (sym (filled p d e low))
              (subst (λ y. ShowsLocal items params.seed params.places p
              (with_bag items (get_or bags p e) (get_or t.place_rows.items p d))
              (first_local (tries_of params) y)) b A) in
              let D : ShowsLocal items t.params.seed t.params.places p (get_or place_rows p d)
              (first_local (tries_of t.params) (bag_of p)) =
              subst (λ q. ShowsLocal items q.seed q.places p (get_or place_rows p d)
              (first_local (tries_of q) (bag_of p))) (sym F.params_are) C in
              subst (λ n. ShowsLocal items t.params.seed n p (get_or place_rows p d)
              (first_local (tries_of t.params) (bag_of p))) places D;
          edge_row = edge_row_start;
          live = F.live ∙ ap (λ n. sum_to n (λ p. bit (has_items (bag_of p)))) (sym F.places);
          stop = F.stop;
        };
        total = F.total ∙ sym (sum_zero t.lines.places (λ p. 0) (λ p l. refl));
      },
    )
  where
    edge_row_start : (k : Kind) (u v : ℕ) → u < t.lines.places → v < t.lines.places
        → edge_in items (get_or t.edge_rows.items (edge_index t.lines.places k u v) edge_row.Idle) ≡
        (start (setup_for t.lines t.params (λ p. get_or (map items bags) p [])) (λ p. get_or (map items bags) p [])).edge k
        u v
    edge_row_start kind.Steal u v l m = ap (edge_in items) (F.edge_rows.edge kind.Steal u v l m)
    edge_row_start kind.Line u v l m =
        ap (edge_in items) (F.edge_rows.edge kind.Line u v l m)
        ∙ edge_first items (has_items (get_or (map items bags) u [])) (has_number v (outs_of t.lines u))
        ∙ ap (first_line (has_items (get_or (map items bags) u [])))
        (sym (line_is t.lines t.params (λ p. has_items (get_or (map items bags) p [])) u v l))

-- what the start fits
pub started_fits : {B P I V : Type 0} (items : B → List I) (fits : B → P → Type 0) (unit : V)
    (params : Params) (bags : List B) (t : Tables B V) (place_rows : List (PlaceRow B)) (p : P)
    → FirstTables items unit params (map items bags) t → length bags ≡ params.places
    → length place_rows ≡ length t.place_rows.items
    → ((i : ℕ) (d : PlaceRow B) (e : B) → i < length bags
    → get_or place_rows i d ≡ with_bag items (get_or bags i e) (get_or t.place_rows.items i d))
    → ListsFit fits p bags → AllFit fits (record (view_of t) { place_rows = place_rows }) p
started_fits {B = B} items fits unit params bags t place_rows p F many number filled all = record {
  place_rows = λ i d l.
      let low : i < length bags = let a = F.place_rows.number_is in omega arith in
      let e = element bags i low in
      subst (λ y. fits y.bag p) (sym (filled i d e low)) (all i e low);
  edge_rows = λ j d l. ⊎_elim
      (λ (o : get_or t.edge_rows.items j d ≡ edge_row.Idle). subst (EdgeRowFits fits p) (sym o) tt)
      (λ (o : get_or t.edge_rows.items j d ≡ edge_row.Refused). subst (EdgeRowFits fits p) (sym o) tt)
      (F.edge_rows.plain j d l);
}
