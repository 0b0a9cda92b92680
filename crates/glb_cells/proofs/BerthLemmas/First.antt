-- A berth at the start.
use Rattle.std.proofs.Common.{◌≡◌, ◌≢◌, inl, inr, ℕ, zero, suc, eqb, ◌<◌, ◌≤◌, Bool, true, false, cond, not, List, [], ◌∷◌, map, length, get_or, drop, min, replicate, refl, sym, ap, ◌∙◌, subst, arith, true≢false}
use Rattle.std.specs.Prelude.{◌&&◌}
use mathlib.Core.Option.{some}
use lib.ListN.{get_elem?}
use Rattle.std.specs.declared.snapshot.Snapshot.{Snapshot}
use Rattle.atomic_table.specs.Seated.{TableId}
use Rattle.std.proofs.lemmas.List.{length-replicate}
use Rattle.std.proofs.lemmas.Bool.{cases_lt, cond-false, le-ltb}
use Rattle.glb_cube.specs.Lines.{Cube, IsCube}
use Rattle.glb_cube.proofs.GraphFacts.{graph_laws}
use Rattle.glb_laws.specs.Numbers.{has_number}
use Rattle.glb_rules.specs.World.{state_of, has_edge, has_line}
use Rattle.glb_rules.specs.Events.{name_of}
use Rattle.glb_rules.specs.Setups.{has_items}
use Rattle.glb_core.specs.Lifelines.{setup_of}
use Rattle.glb_core.proofs.Lifelines.Setups.{line_is}
use Rattle.glb_rules.specs.History.{first_phase, first_credit, first_edge, first_line}
use Rattle.glb_rules.specs.declared.params.Params.{Params}
use Rattle.glb_rules.specs.declared.kinds.Kind.{Kind}
use Rattle.glb_rules.specs.declared.kinds.Kind.TheVariants as kind
use Rattle.glb_rules.specs.declared.kinds.Edge.{Edge}
use Rattle.glb_rules.specs.declared.kinds.Edge.TheVariants as seen
use Rattle.glb_rules.specs.declared.kinds.Phase.TheVariants as phase
use Rattle.glb_rules.specs.declared.kinds.Credit.TheVariants as credit
use Rattle.glb_place.specs.Records.{IsFirst, known_at, setup_in}
use Rattle.glb_cells.specs.declared.view.View.{View}
use Rattle.glb_cells.specs.declared.key.Start.{Start}
use Rattle.glb_cells.specs.Looking.{LookTable}
use Rattle.glb_cells.specs.Shows.{Fixed, Sound}
use Rattle.glb_cells.specs.Starts.{first_view, first_views, setup_from, bag_at, is_held, first_known}
use Rattle.glb_cells.specs.Berths.{BerthView, IsFirstBerth}
use Rattle.glb_cells.specs.inner.Keeping.{IsBeside, HasRoom, first_state, no_counters, cells_view, is_refused, AreHeld}
use Rattle.glb_cells.specs.inner.Numbers.{are_empty}
use Rattle.glb_cells.specs.inner.Seats.{HasFirst}
use Rattle.glb_rules.proofs.EdgeLemmas.Marks.{eq_other}
use Rattle.glb_cells.proofs.StartLemmas.Starting.{known_listed, known_made, view_at_start}
use Rattle.glb_cells.proofs.StartLemmas.Rows.{bag_in, map_of_map}
use Rattle.glb_cells.proofs.BerthLemmas.Opened.{there_at}

get_drop : {A : Type 0} (l : List A) (i : ℕ) (x : A) (xs : List A) → drop i l ≡ x ∷ xs
    → get_elem? l i ≡ some x
get_drop [] zero x xs e = absurd (cc)
get_drop [] (suc i) x xs e = absurd (cc)
get_drop (y ∷ l) zero x xs e = let q : y ≡ x = cc in ap some q
get_drop (y ∷ l) (suc i) x xs e = get_drop l i x xs e

first_phases : {A : Type 0} (xs : List A) (n : ℕ) → n ≡ min (length xs) 18446744073709551615
    → cond (eqb n 0) phase.Asleep phase.Working ≡ first_phase (has_items xs)
first_phases [] n e = let q : n ≡ 0 = omega arith in rw q refl
first_phases (x ∷ xs) n e = some_phase n (omega arith)
  where
    some_phase : (n : ℕ) → 0 < n → cond (eqb n 0) phase.Asleep phase.Working ≡ phase.Working
    some_phase zero l = absurd (omega arith)
    some_phase (suc n) l = rw (eq_other (suc n) 0 (λ z. cc)) refl

first_credits : {A : Type 0} (xs : List A) (n : ℕ) → n ≡ min (length xs) 18446744073709551615
    → cond (eqb n 0) credit.Zero credit.One ≡ first_credit (has_items xs)
first_credits [] n e = let q : n ≡ 0 = omega arith in rw q refl
first_credits (x ∷ xs) n e = some_credit n (omega arith)
  where
    some_credit : (n : ℕ) → 0 < n → cond (eqb n 0) credit.Zero credit.One ≡ credit.One
    some_credit zero l = absurd (omega arith)
    some_credit (suc n) l = rw (eq_other (suc n) 0 (λ z. cc)) refl

-- which bags are empty, as a list
empty_at : {A B : Type 0} (items : B → List A) (bags : List B) (t : ℕ) → t < length bags
    → get_or (map (λ b. are_empty (items b)) bags) t false ≡ not
    (has_items (get_or (map items bags) t []))
empty_at items [] t l = absurd (omega arith)
empty_at items (b ∷ bags) zero l = by (items b)
  where
    by : {A : Type 0} (xs : List A) → are_empty xs ≡ not (has_items xs)
    by [] = refl
    by (x ∷ xs) = refl
empty_at items (b ∷ bags) (suc t) l = empty_at items bags t (omega arith)

pub sized : (xs : List ℕ) (n m : ℕ) → xs ≡ replicate n 0 → n ≡ m → length xs ≡ m
sized xs n m e f = ap length e ∙ length-replicate n 0 ∙ f

-- a place that is not there has no lines
past : (c : Cube) (q : Params) (t v : ℕ) → c.places ≤ t
    → has_line (setup_of c q (λ _. false)) t v ≡ false
unfolding has_line
past c q t v over = ap (has_number v) (cond-false _ _ _ (le-ltb t c.places over))

length_map : {A C : Type 0} (f : A → C) (l : List A) → length (map f l) ≡ length l
length_map f [] = refl
length_map f (x ∷ l) = ap suc (length_map f l)

module _ {B Q I : Type 0} (items : B → List I) (fits : B → Q → Type 0) (children : Q → I → List I)
    (key : Start Q B) where
  abbrev Γ : Fixed B Q I
  Γ = setup_from items fits children key

  -- the bag of a place, by the bags that were handed in
  pub bag_is : (bags : List B) → map (λ (s : Snapshot B). s.value) key.bags.items ≡ bags
      → (p : ℕ) (d : B) → p < length bags → bag_at items fits children key.bags.items p ≡ items
      (get_or bags p d)
  bag_is bags e p d l =
      ap (λ xs. get_or xs p []) (map_of_map items (λ (s : Snapshot B). s.value) key.bags.items)
      ∙ ap (λ xs. get_or (map items xs) p []) e ∙ bag_in items bags p d l

  -- what the dealer hands out next
  pub dealt_is : (l : List (View Q I)) (i : ℕ) (x : View Q I) (xs : List (View Q I))
      → l ≡ first_views Γ → drop i l ≡ x ∷ xs → x ≡ first_view Γ i
  dealt_is l i x xs e d = view_at_start Γ Γ.lines.places i x
      (get_drop (first_views Γ) i x xs (ap (drop i) (sym e) ∙ d))

  module _ (sound : Sound Γ) where
    -- what is known of an edge at the start
    known_first : (k : Kind) (t v : ℕ) → t < key.lines.value.places → v < key.lines.value.places
        → known_at (first_known Γ.lines Γ.names) k t v ≡ state_of {I = I} (first_edge Γ.lines k t v)
    known_first k t v l m = by (has_edge Γ.lines k t v) refl
      where
        made : (k : Kind) → has_edge Γ.lines k t v ≡ true
            → cond (is_held Γ.lines (name_of k t v)) seen.Refused seen.Idle ≡ state_of {I = I}
            (first_edge Γ.lines k t v)
        made kind.Steal h = refl
        made kind.Line h = go (Γ.lines.awake t) (has_line Γ.lines t v) h
          where
            go : (a b : Bool) → b ≡ true → cond (true && not a) seen.Refused seen.Idle ≡ state_of
                {I = I} (first_line a b)
            go true b e = refl
            go false true e = refl
            go false false e = absurd (cc)

        none : (k : Kind) → has_edge Γ.lines k t v ≡ false
            → seen.Idle ≡ state_of {I = I} (first_edge Γ.lines k t v)
        none kind.Steal h = refl
        none kind.Line h = go (Γ.lines.awake t) (has_line Γ.lines t v) h
          where
            go : (a b : Bool) → b ≡ false → seen.Idle ≡ state_of {I = I} (first_line a b)
            go true b e = refl
            go false false e = refl
            go false true e = absurd (cc)

        idle_or : (x : Edge) → (x ≢ seen.Idle → ⊥) → x ≡ seen.Idle
        idle_or seen.Idle h = refl
        idle_or seen.Asked h = absurd (h (λ z. cc))
        idle_or seen.Refused h = absurd (h (λ z. cc))
        idle_or seen.Loot h = absurd (h (λ z. cc))

        by : (b : Bool) → has_edge Γ.lines k t v ≡ b
            → known_at (first_known Γ.lines Γ.names) k t v ≡ state_of {I = I}
            (first_edge Γ.lines k t v)
        by true h = let i = sound.named.all k t v l m h in
            known_made Γ.lines Γ.names (name_of k t v) i.0 i.1 ∙ made k h
        by false h = idle_or (known_at (first_known Γ.lines Γ.names) k t v)
            (λ d. true≢false (sym (known_listed Γ sound k t v d) ∙ h)) ∙ none k h

    -- the first record of a place is that which it has to have
    pub is_first : (p : ℕ) → IsFirst key.lines.value key.params p
        (bag_at items fits children key.bags.items p) (first_view Γ p).own
    is_first p = record {
      place = refl;
      params_are = refl;
      lines_are = refl;
      local = refl;
      awake = Γ.lines.awake;
      own_awake = refl;
      known = λ k t v l m e. known_first k t v l m;
      last = refl;
      over = refl;
      code = refl;
    }

    pub first_berth : (id : TableId) (p : ℕ) (b : BerthView Q I) → p < key.lines.value.places
        → HasFirst Γ id p b → IsFirstBerth (cells_view items id key) p b
    first_berth id p b l h = record {
      here = record {
        here = record {
          object = h.object;
          program = h.program;
          lines = ap (λ x. x.lines) h.kept;
          params = ap (λ x. x.params) h.kept;
          within = subst (λ x. x < key.lines.value.places) (sym (ap (λ x. x.place) h.kept)) l;
        };
        free = h.free;
      };
      first = subst (λ x. IsFirst key.lines.value key.params p
          (bag_at items fits children key.bags.items p) x) (sym h.kept) (is_first p);
      steps = h.steps;
    }

    -- no place has a line to itself
    pub no_loop : IsCube key.lines.value → (p : ℕ) → p < key.lines.value.places
        → has_edge (setup_in (first_view Γ p).own) kind.Line p p ≡ false
    no_loop cube p l = line_is key.lines.value key.params (λ _. false) p p l
        ∙ (graph_laws key.lines.value cube).no_loop p

    -- which lines of others it holds
    pub first_held : (bags : List B) → map (λ (s : Snapshot B). s.value) key.bags.items ≡ bags
        → length bags ≡ key.lines.value.places
        → (p : ℕ) → p < key.lines.value.places
        → AreHeld (map (λ b. are_empty (items b)) bags) (first_view Γ p).own
    first_held bags are long p l t h =
        let near : t < key.lines.value.places = lines_end t p h in
        let there : has_edge Γ.lines kind.Line t p ≡ true =
        there_at key.lines.value key.lines.value refl key.params key.params (λ _. false)
        Γ.lines.awake kind.Line t p h in
        let i = sound.named.all kind.Line t p near l there in
        empty_at items bags t (omega arith)
        ∙ ap (λ xs. not (has_items (get_or xs t [])))
        (sym (map_of_map items (λ (s : Snapshot B). s.value) key.bags.items
        ∙ ap (map items) are))
        ∙ refused (Γ.lines.awake t)
        ∙ ap is_refused (sym (known_made Γ.lines Γ.names (name_of kind.Line t p) i.0 i.1))
      where
        refused : (a : Bool) → not a ≡ is_refused (cond (true && not a) seen.Refused seen.Idle)
        refused true = refl
        refused false = refl

        lines_end : (t v : ℕ) → has_line (setup_of key.lines.value key.params (λ _. false)) t v ≡
            true → t < key.lines.value.places
        lines_end t v e = elim (cases_lt t key.lines.value.places) [
          | inl s ↦ s
          | inr over ↦ absurd (true≢false (sym e ∙ past key.lines.value key.params t v over))
        ]

    -- what the berth of a place keeps at the start
    pub first_beside : IsCube key.lines.value → (bags : List B)
        → map (λ (s : Snapshot B). s.value) key.bags.items ≡ bags
        → length bags ≡ key.lines.value.places
        → (p n tries : ℕ) (d : B) → p < length bags
        → n ≡ min (length (items (get_or bags p d))) 18446744073709551615
        → tries ≡ Γ.lines.tries
        → (held : List Bool) → held ≡ map (λ b. are_empty (items b)) bags → (looks : LookTable)
        → HasRoom key.lines.value.places looks
        → IsBeside (first_view Γ p).own (first_state p tries n) no_counters held looks
    first_beside cube bags are long p n tries d l size t held held_is looks room =
        let bag = bag_is bags are p d l in
        let few : p < key.lines.value.places = omega arith in record {
          state = record {
            place = refl;
            phase = first_phases (items (get_or bags p d)) n size
                ∙ ap (λ z. first_phase (has_items z)) (sym bag);
            credit = first_credits (items (get_or bags p d)) n size
                ∙ ap (λ z. first_credit (has_items z)) (sym bag);
            tries = t;
            victim = refl;
            size = λ s. (let e = size in omega arith) ∙ ap length (sym bag);
          };
          counters = refl;
          listed = λ k t v d. there_at key.lines.value key.lines.value refl key.params key.params
              Γ.lines.awake (λ _. false) k t v (known_listed Γ sound k t v d);
          no_loop = no_loop cube p few;
          held_long = ap length held_is ∙ length_map (λ b. are_empty (items b)) bags ∙ long;
          holds = subst (λ h. AreHeld h (first_view Γ p).own) (sym held_is)
              (first_held bags are long p few);
          room = room;
        }
