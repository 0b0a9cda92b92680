-- The words of the start show the start.
use Rattle.std.proofs.Common.{◌≡◌, ◌≢◌, ℕ, zero, suc, ◌<◌, ◌≤◌, Bool, true, false, not, cond, ◌&&◌, List, [], ◌∷◌, ◌++◌, map, length, replicate, get_or, Option, None, refl, sym, ap, ◌∙◌, subst, ⊎_elim, arith, length-append}
use Rattle.std.proofs.lemmas.Bool.{cases_eq}
use mathlib.Core.Option.{some, some-injective, some-ne-none}
use lib.ListN.{get_elem?}
use native.Mathlib.Decide.{dec_le}
use Rattle.atomic_table.specs.Table.{opening}
use Rattle.glb_rules.specs.World.{Idle, has_line}
use Rattle.glb_rules.specs.Events.{name_of}
use Rattle.glb_laws.specs.Sums.{sum_to}
use Rattle.glb_rules.specs.Setups.{bit, has_items}
use Rattle.glb_rules.specs.History.{first_edge, first_line, first_phase, first_credit, no_counts}
use Rattle.glb_cells.specs.EdgeNames.{at_name}
use Rattle.glb_rules.proofs.Finish.Histories.{begins}
use Rattle.glb_rules.specs.declared.local.Local.{Local}
use Rattle.glb_rules.specs.declared.local.EdgeName.{EdgeName}
use Rattle.glb_rules.specs.declared.kinds.Kind.{Kind}
use Rattle.glb_rules.specs.declared.kinds.Kind.TheVariants as kind
use Rattle.glb_rules.specs.declared.kinds.Edge.TheVariants as seen
use Rattle.glb_place.specs.Records.{knows}
use Rattle.glb_cells.specs.declared.view.View.{View}
use Rattle.glb_cells.specs.Words.{empty, denied, word_of, slot_of, cell_state, edge_of, Fitting, IsWith, Out, In}
use Rattle.glb_cells.specs.Shows.{part_of, Fixed, Sound, total, items_of, first, shown, nobody, IsPast, Apt, AptAt, Told, Shows}
use Rattle.glb_cells.specs.Starts.{is_held, first_view, views_below, first_views, first_cell}
use Rattle.glb_cells.proofs.StepLemmas.ListFacts.{member, below}
use Rattle.glb_cells.proofs.StepLemmas.Reading.{none_some, out_self, in_self}
use Rattle.glb_cells.proofs.StartLemmas.Starting.{listed, at_made, listed_at, at_listed, map_twice, length_map, from_map, known_made, get_left, get_at, get_past, map_append}

module _ {B Q I : Type 0} (Γ : Fixed B Q I) (sound : Sound Γ) (A : (p : ℕ)
    → Γ.lines.awake p ≡ has_items (Γ.bags p))
    (bags_end : (p : ℕ) → Γ.lines.places ≤ p → Γ.bags p ≡ []) (lines_end : (t v : ℕ)
    → has_line Γ.lines t v ≡ true → t < Γ.lines.places)
    (told : (p : ℕ) → Told Γ (first_view Γ p)) where
  first_edges : (k : Kind) (t v : ℕ) (b : Bool) → listed Γ.names k t v ≡ b
      → cond b (edge_of Γ.items (first_cell Γ (name_of k t v))) Idle ≡ first_edge Γ.lines k t v
  first_edges kind.Steal t v true l = refl
  first_edges kind.Steal t v false l = refl
  first_edges kind.Line t v true l = by (Γ.lines.awake t) (has_line Γ.lines t v)
      (let i = listed_at Γ.names kind.Line t v l in
      (sound.named.there i.0 (name_of kind.Line t v) i.1).2)
    where
      by : (a b : Bool) → b ≡ true → edge_of Γ.items (cond (true && not a) denied empty) ≡
          first_line a b
      by true b e = refl
      by false true e = refl
      by false false e = absurd (cc)
  first_edges kind.Line t v false l = by (Γ.lines.awake t) (has_line Γ.lines t v) refl
    where
      by : (a b : Bool) → has_line Γ.lines t v ≡ b → first_line {I = I} true true ≡ first_line a b
      by true b e = refl
      by false false e = refl
      by false true e =
          let t_in = lines_end t v e in
          let v_in = sound.proper.near t v e in
          let i = sound.named.all kind.Line t v t_in v_in e in
          let y : listed Γ.names kind.Line t v ≡ true = at_listed Γ.names kind.Line t v i.0 i.1 in
          absurd (cc)

  edges_same : (k : Kind) (t v : ℕ) → at_name Γ.names
      (map (edge_of Γ.items) (map (first_cell Γ) Γ.names)) k t v ≡ first_edge Γ.lines k t v
  edges_same k t v =
      ap (λ es. at_name Γ.names es k t v) (map_twice (edge_of Γ.items) (first_cell Γ) Γ.names)
      ∙ at_made (λ n. edge_of Γ.items (first_cell Γ n)) Γ.names k t v
      ∙ first_edges k t v (listed Γ.names k t v) refl

  length_views : (n : ℕ) → length (views_below Γ n) ≡ n
  length_views zero = refl
  length_views (suc n) = length-append (views_below Γ n) (first_view Γ n ∷ [])
      ∙ (let e = length_views n in omega arith)

  view_at : (n p : ℕ) (r : View Q I) → get_elem? (views_below Γ n) p ≡ some r → r ≡ first_view Γ p
  view_at zero p r e = absurd (some-ne-none r (sym e))
  view_at (suc n) p r e = ⊎_elim
      (λ (q : p ≡ n). sym (member (views_below Γ n ++ first_view Γ n ∷ []) p r r e)
      ∙ get_at (views_below Γ n) (first_view Γ n) p r (q ∙ sym (length_views n))
      ∙ ap (first_view Γ) (sym q))
      (λ (q : p ≢ n).
      let l : p < length (views_below Γ n ++ first_view Γ n ∷ []) =
      below (views_below Γ n ++ first_view Γ n ∷ []) p r e in
      let a = length-append (views_below Γ n) (first_view Γ n ∷ []) in let b = length_views n in
      view_at n p r (still (views_below Γ n) (first_view Γ n ∷ []) p r (omega arith) e))
      (cases_eq p n)
    where
      still : {C : Type 0} (xs ys : List C) (i : ℕ) (c : C) → i < length xs
          → get_elem? (xs ++ ys) i ≡ some c → get_elem? xs i ≡ some c
      still [] ys i c l e = absurd (omega arith)
      still (x ∷ xs) ys zero c l e = e
      still (x ∷ xs) ys (suc i) c l e = still xs ys i c (omega arith) e

  below_same : (n p : ℕ) (d : Local I) → p < n
      → get_or (map part_of (views_below Γ n)) p d ≡ (first Γ).place p
  below_same zero p d l = absurd (omega arith)
  below_same (suc n) p d l =
      let long : length (map part_of (views_below Γ n)) ≡ n = length_map part_of (views_below Γ n)
      ∙ length_views n in
      ap (λ xs. get_or xs p d) (map_append part_of (views_below Γ n) (first_view Γ n ∷ []))
      ∙ ⊎_elim
      (λ (e : p ≡ n). get_at (map part_of (views_below Γ n)) ((first Γ).place n) p d (e
      ∙ sym long) ∙ ap (first Γ).place (sym e))
      (λ (e : p ≢ n). get_left (map part_of (views_below Γ n)) (part_of (first_view Γ n) ∷ []) p
      d (omega arith) ∙ below_same n p d (omega arith))
      (cases_eq p n)

  beyond_same : (p : ℕ) → Γ.lines.places ≤ p → nobody Γ.lines.tries ≡ (first Γ).place p
  beyond_same p l = by (Γ.lines.awake p) (Γ.bags p) (A p ∙ ap has_items (bags_end p l))
      (bags_end p l)
    where
      by : (a : Bool) (xs : List I) → a ≡ false → xs ≡ []
          → nobody Γ.lines.tries ≡ record {
            phase = first_phase a;
            credit = first_credit a;
            tries =
                Γ.lines.tries;
            bag = xs;
            marks = [];
            done = [];
            count = no_counts;
          }
      by true xs e f = absurd (cc)
      by false xs e f = ap (λ ys. record (nobody Γ.lines.tries) { bag = ys }) (sym f)

  places_same : (p : ℕ) → get_or (map part_of (first_views Γ)) p (nobody Γ.lines.tries) ≡
      (first Γ).place p
  places_same p = by (dec_le Γ.lines.places p)
    where
      by : Dec (Γ.lines.places ≤ p) → get_or (map part_of (first_views Γ)) p (nobody Γ.lines.tries)
          ≡ (first Γ).place p
      by (yes l) = get_past (map part_of (first_views Γ)) p (nobody Γ.lines.tries)
          (let e = length_map part_of (first_views Γ) in let f = length_views Γ.lines.places in
          omega arith) ∙ beyond_same p l
      by (no d) = below_same Γ.lines.places p (nobody Γ.lines.tries) (omega arith)

  -- the world that is shown at the start is the Start
  shown_start : shown Γ (sum_to Γ.lines.places (λ p. bit (Γ.lines.awake p))) 0
      (map (first_cell Γ) Γ.names) (first_views Γ) ≡ first Γ
  shown_start = λ i. record {
    place = λ p. places_same p i;
    edge = λ k t v. edges_same k t v i;
    live = sum_to Γ.lines.places (λ p. bit (Γ.lines.awake p));
    stop = 0;
  }

  cell_reads : (n : EdgeName) → cell_state {B = B} (first_cell Γ n) ≡ cond (is_held Γ.lines n)
      seen.Refused seen.Idle
  cell_reads n = by (is_held Γ.lines n)
    where
      by : (b : Bool) → cell_state {B = B} (cond b denied empty) ≡ cond b seen.Refused seen.Idle
      by true = refl
      by false = refl

  cell_home : (n : EdgeName) → slot_of {B = B} (first_cell Γ n) ≡ some None
  cell_home n = by (is_held Γ.lines n)
    where
      by : (b : Bool) → slot_of {B = B} (cond b denied empty) ≡ some None
      by true = refl
      by false = refl

  cell_fits : (n : EdgeName) → Fitting Γ.fits Γ.program n.kind (first_cell Γ n)
  cell_fits n = by (is_held Γ.lines n)
    where
      by : (b : Bool) → Fitting Γ.fits Γ.program n.kind (cond b denied empty)
      by true = tt
      by false = tt

  cell_with : (p : ℕ) (n : EdgeName) → IsWith p n (first_cell Γ n) → ⊥
  cell_with p n = by (is_held Γ.lines n)
    where
      by : (b : Bool) → IsWith {B = B} p n (cond b denied empty) → ⊥
      by true w = w
      by false w = w

  apt_at : (live p : ℕ) → Apt Γ live 0 (map (first_cell Γ) Γ.names) p (first_view Γ p)
  apt_at live p = record {
    placed = refl;
    told = told p;
    each = λ e n c f g.
        let is : first_cell Γ n ≡ c = from_map (first_cell Γ) Γ.names e n c f g in
        let knew : knows (first_view Γ p).own n ≡ cell_state {B = B} (first_cell Γ n) =
        known_made Γ.lines Γ.names n e f ∙ sym (cell_reads n) in
        subst (AptAt Γ p (first_view Γ p) e n) is record {
          out = λ t. subst (λ x. Out n.kind x (cell_state {B = B} (first_cell Γ n))) (sym knew)
              (out_self n.kind (cell_state {B = B} (first_cell Γ n)));
          inward = λ t. subst (λ x. In n.kind x (cell_state {B = B} (first_cell Γ n))) (sym knew)
              (in_self n.kind (cell_state {B = B} (first_cell Γ n)));
          busy = λ w. absurd (cell_with p n w);
          at_it = λ xs w. absurd (none_some None (e, xs) refl w);
        };
    numbers = record { over = λ o. cc; code = omega arith };
    holds = λ e xs w. absurd (none_some None (e, xs) refl w);
  }

  no_items : (n : ℕ) → total items_of (views_below Γ n) ≡ 0
  no_items zero = refl
  no_items (suc n) = joined (views_below Γ n) (first_view Γ n) (no_items n) refl
    where
      joined : (xs : List (View Q I)) (r : View Q I) → total items_of xs ≡ 0 → items_of r ≡ 0
          → total items_of (xs ++ r ∷ []) ≡ 0
      joined [] r a b = omega arith
      joined (x ∷ xs) r a b = let q : total items_of (xs ++ r ∷ []) ≡ 0 =
          joined xs r (omega arith) b in omega arith

  pub opens : (live : ℕ) → live ≡ sum_to Γ.lines.places (λ p. bit (Γ.lines.awake p))
      → (ws : List ℕ) → ws ≡ live ∷ 0 ∷ 0 ∷ map (λ n. word_of (first_cell Γ n)) Γ.names → (k : ℕ)
      → k ≡ length Γ.names
      → Shows Γ (opening ws (replicate k None) (first_views Γ))
  opens live is ws ws_are k k_is = record {
    grounded = sound;
    live = live;
    stop = 0;
    cells = map (first_cell Γ) Γ.names;
    recs = first_views Γ;
    words = ws_are ∙ (λ i. live ∷ sym (no_items Γ.lines.places) i ∷ 0 ∷ sym
        (map_twice word_of (first_cell Γ) Γ.names) i);
    homes = homes_are;
    wide = length_map (first_cell Γ) Γ.names;
    many = length_views Γ.lines.places;
    history = subst (IsPast Γ) (sym starts) (begins (Γ.children Γ.program) Γ.lines (first Γ));
    fitting = λ e n c f g. subst (Fitting Γ.fits Γ.program n.kind)
        (from_map (first_cell Γ) Γ.names e n c f g) (cell_fits n);
    apt = λ p r e. subst (λ x. Apt Γ live 0 (map (first_cell Γ) Γ.names) p x)
        (sym (view_at Γ.lines.places p r e)) (apt_at live p);
    numbers = record {
      small = rw (no_items Γ.lines.places) (omega arith);
      cause = λ e. absurd (omega arith);
      codes = omega arith;
      seen_last = λ p r e. let z : r.own.last ≡ 0 =
          ap (λ (x : View Q I). x.own.last) (view_at Γ.lines.places p r e) in omega arith;
    };
    fresh = λ _. starts;
    seats = λ i v j r e f. let o = one i v e in let g : get_elem? (first_views Γ) j ≡ some r =
        ap (λ l. get_elem? l j) o.1 ∙ f in
        subst (λ (x : ℕ). get_elem? (first_views Γ) x ≡ some r) (sym (placed j r g)) g;
    apart = λ i j v w a l r u e f x y q. let o = one i v e in let m = one j w f in (
      o.0 ∙ sym m.0,
      sym (placed a r (ap (λ z. get_elem? z a) o.1 ∙ x)) ∙ q
          ∙ placed l u (ap (λ z. get_elem? z l) m.1 ∙ y),
    );
    seated = λ p r e. (0, first_views Γ, p, refl, e);
  }
    where
      starts : shown Γ live 0 (map (first_cell Γ) Γ.names) (first_views Γ) ≡ first Γ
      starts = ap (λ l. shown Γ l 0 (map (first_cell Γ) Γ.names) (first_views Γ)) is ∙ shown_start

      one : (i : ℕ) (v : List (View Q I)) → get_elem? (first_views Γ ∷ []) i ≡ some v → (i ≡ 0)
          × (first_views Γ ≡ v)
      one zero v e = (refl, some-injective _ _ e)
      one (suc i) v e = absurd (some-ne-none v (sym e))

      placed : (j : ℕ) (r : View Q I) → get_elem? (first_views Γ) j ≡ some r → r.own.place ≡ j
      placed j r e = ap (λ (x : View Q I). x.own.place) (view_at Γ.lines.places j r e)

      homes_made : (ns : List EdgeName) (x : Option B) → x ≡ None
          → map some (replicate (length ns) x) ≡ map slot_of (map (first_cell Γ) ns)
      homes_made [] x e = refl
      homes_made (n ∷ ns) x e = λ i. (ap some e ∙ sym (cell_home n)) i ∷ homes_made ns x e i

      homes_are : map some (replicate k None) ≡ map slot_of (map (first_cell Γ) Γ.names)
      homes_are = ap (λ (j : ℕ). map some (replicate j None)) k_is ∙ homes_made Γ.names None refl
