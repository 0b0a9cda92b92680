-- What a call knows of the berth that it was given, and what it says of it afterwards.
use Rattle.std.proofs.Common.{◌≡◌, ℕ, ◌+◌, ◌<◌, ◌^◌, Bool, true, false, List, [], ◌∷◌, map, Option, Some, None, refl, sym, ap, ◌∙◌, subst}
use mathlib.Core.Option.{some}
use lib.ListN.{get_elem?}
use Rattle.atomic_table.specs.Seated.{TableId}
use Rattle.glb_cube.specs.Lines.{Cube}
use Rattle.glb_stats.specs.declared.counters.Counters.{Counters}
use Rattle.glb_rules.specs.World.{has_edge, has_line}
use Rattle.glb_core.specs.Lifelines.{setup_of}
use Rattle.glb_rules.specs.declared.params.Params.{Params}
use Rattle.glb_rules.specs.declared.place_state.PlaceState.{PlaceState}
use Rattle.glb_rules.specs.declared.local.EdgeName.{EdgeName}
use Rattle.glb_rules.specs.declared.event.Event.{Event}
use Rattle.glb_rules.specs.declared.kinds.Kind.{Kind}
use Rattle.glb_rules.specs.declared.kinds.Kind.TheVariants as kind
use Rattle.glb_place.specs.Records.{setup_in, May}
use Rattle.glb_place.specs.declared.record.Record.{Record}
use Rattle.glb_cells.specs.EdgeNames.{names}
use Rattle.glb_cells.specs.declared.view.View.{View}
use Rattle.glb_cells.specs.declared.key.Start.{Start}
use Rattle.glb_cells.specs.Looking.{LookTable}
use Rattle.glb_cells.specs.Starts.{names_from}
use Rattle.glb_cells.specs.Plays.{Seated, IsFree, slots_of}
use Rattle.glb_cells.specs.Berths.{CellsView, BerthView, Belongs, IsOf, Makes, Moved}
use Rattle.glb_cells.specs.inner.Keeping.{cells_view, berth_view, edge_in, slot_in, IsKept}
use Rattle.glb_cells.proofs.StepLemmas.Reading.{none_some}

-- whether an edge is there is told by the lifelines alone
pub there_at : (c d : Cube) → c ≡ d → (q p : Params) (f g : ℕ → Bool) (k : Kind) (t v : ℕ)
    → has_edge (setup_of c q f) k t v ≡ true → has_edge (setup_of d p g) k t v ≡ true
unfolding has_line
there_at c d e q p f g kind.Steal t v h = h
there_at c d e q p f g kind.Line t v h = subst (λ x. has_edge (setup_of x p g) kind.Line t v ≡ true)
    e h

-- the ends of an edge are places of the object, and the edge is there
pub record Ends {Q I : Type 0} (self : CellsView Q I) (n : EdgeName) : Type 0 where
  pub thief : n.thief < self.lines.places
  pub victim : n.victim < self.lines.places
  pub there : has_edge (setup_of self.lines self.params (λ p. false)) n.kind n.thief n.victim ≡ true

-- the number of an edge, as the table has it
pub record Numbered {B Q : Type 0} (id : TableId) (key : Start Q B) (edge : ℕ) (n : EdgeName) : Type
    0 where
  pub small : edge + 3 < id.words
  pub few : edge < 2 ^ 32
  pub name : get_elem? (names_from key) edge ≡ some n

-- the views after a step that turns each by this function
pub turned : {B Q I : Type 0} {slots : List (ℕ × Option B)} (f : View Q I → View Q I)
    (me me' : Seated B Q I) (r : View Q I)
    → me ≡ (r ∷ [], slots)
    → me' ≡ (map f me.0, me.1) → me' ≡ (f r ∷ [], slots)
turned f me me' r was is = is ∙ ap (λ (m : Seated _ _ _). (map f m.0, m.1)) was

-- a berth that holds no slot has a free view
none_in : {I : Type 0} (x : Option (ℕ × List I)) → edge_in x ≡ None → x ≡ None
none_in None e = refl
none_in (Some x) e = absurd (none_some (Some x.0) x.0 e refl)

pub is_free : {B Q I : Type 0} {me : Seated B Q I} {r : View Q I} → me ≡ (r ∷ [], slots_of r)
    → slot_in me.0 ≡ None → IsFree r
is_free {B = B} {Q = Q} {I = I} {r = r} is none = none_in r.hand
    (ap (λ (m : Seated B Q I). slot_in m.0) (sym is) ∙ none)

pub numbered : {B Q I : Type 0} (items : B → List I) (key : Start Q B) (id : TableId)
    (self : CellsView Q I)
    → cells_view items id key ≡ self → (edge : ℕ) (n : EdgeName)
    → get_elem? (names (setup_of self.lines self.params (λ p. false))) edge ≡ some n
    → (edge + 3 < self.object.words) × (edge < 2 ^ 32) → Numbered id key edge n
numbered {Q = Q} {I = I} items key id self self_is edge n name small = record {
  small = subst (λ (s : CellsView Q I). edge + 3 < s.object.words) (sym self_is) small.0;
  few = small.1;
  name = subst (λ (s : CellsView Q I). get_elem? (names (setup_of s.lines s.params (λ p. false)))
      edge ≡ some n) (sym self_is) name;
}

-- the call has the object's own table
pub table_is : {B Q I : Type 0} (items : B → List I) (key : Start Q B) (id : TableId)
    (self : CellsView Q I)
    → cells_view items id key ≡ self → (sid : TableId) → sid ≡ self.object → sid ≡ id
table_is items key id self self_is sid e = e ∙ sym (ap (λ s. s.object) self_is)

module _ {B Q I : Type 0} (self : CellsView Q I) (me : Seated B Q I) (a : PlaceState) (c : Counters)
    (held : List Bool)
    (looks : LookTable) (sid : TableId) (old : BerthView Q I)
    (old_is : berth_view sid me.0 a c looks ≡ old)
    (o : IsKept me a c held looks) (here : Belongs self old) where
  abbrev r : View Q I
  r = o.view

  shown : berth_view sid (r ∷ []) a c looks ≡ old
  shown = ap (λ (m : Seated B Q I). berth_view sid m.0 a c looks) (sym o.me_is) ∙ old_is

  pub kept_is : old.kept ≡ r.own
  kept_is = sym (ap (λ b. b.kept) shown)

  pub object_is : sid ≡ self.object
  object_is = ap (λ b. b.object) shown ∙ here.object

  pub program_is : r.program ≡ self.program
  program_is = let e : ◌≡◌ {A = Option Q} (Some r.program) (Some self.program) =
      ap (λ b. b.program) shown ∙ here.program in ap from e
    where
      from : Option Q → Q
      from None = self.program
      from (Some x) = x

  pub lines_are : r.own.lines ≡ self.lines
  lines_are = ap (λ b. b.kept.lines) shown ∙ here.lines

  pub params_are : r.own.params ≡ self.params
  params_are = ap (λ b. b.kept.params) shown ∙ here.params

  pub within : r.own.place < r.own.lines.places
  within = subst (λ n. r.own.place < n) (ap (λ l. l.places) (sym lines_are))
      (subst (λ n. n < self.lines.places) (ap (λ (x : Record I). x.place) kept_is) here.within)

  pub place_is : r.own.place ≡ a.place
  place_is = sym o.beside.state.place

  pub may : (ev : ℕ → Event) → May old.kept (ev old.kept.place) → May r.own (ev r.own.place)
  may ev m = subst (λ (x : Record I). May x (ev x.place)) kept_is m

  -- by the number that the berth keeps
  pub may_at : (ev : ℕ → Event) → May old.kept (ev old.kept.place) → May r.own (ev a.place)
  may_at ev m = subst (λ p. May r.own (ev p)) place_is (may ev m)

  pub size_was : old.state.size ≡ a.size
  size_was = sym (ap (λ b. b.state.size) shown)

  pub ends : (n : EdgeName) → n.thief < r.own.lines.places → n.victim < r.own.lines.places
      → has_edge (setup_in r.own) n.kind n.thief n.victim ≡ true → Ends self n
  ends n l m there = record {
    thief = subst (λ (x : Cube). n.thief < x.places) lines_are l;
    victim = subst (λ (x : Cube). n.victim < x.places) lines_are m;
    there = there_at r.own.lines self.lines lines_are r.own.params self.params (λ p. false)
        (λ p. false) n.kind n.thief n.victim there;
  }

  -- a step after which the seat has the view r'
  module _ (sid' : TableId) (sid_is : sid' ≡ sid) (me' : Seated B Q I) (r' : View Q I)
      {slots : List (ℕ × Option B)} (is : me' ≡ (r' ∷ [], slots))
      (a' : PlaceState) (c' : Counters) where
    abbrev new : BerthView Q I
    new = berth_view sid' me'.0 a' c' looks

    told : berth_view sid' (r' ∷ []) a' c' looks ≡ new
    told = ap (λ (m : Seated B Q I). berth_view sid' m.0 a' c' looks) (sym is)

    pub still_of : r'.program ≡ r.program → r'.own.lines ≡ r.own.lines
        → r'.own.params ≡ r.own.params
        → r'.own.place ≡ r.own.place → Belongs self new
    still_of q l p h = subst (Belongs self) told (record {
      object = sid_is ∙ object_is;
      program = ap Some (q ∙ program_is);
      lines = l ∙ lines_are;
      params = p ∙ params_are;
      within = subst (λ n. n < self.lines.places)
          (sym (h ∙ sym (ap (λ (x : Record I). x.place) kept_is))) here.within;
    })

    -- and it is free where its view is
    pub still_free : r'.program ≡ r.program → r'.own.lines ≡ r.own.lines
        → r'.own.params ≡ r.own.params → r'.own.place ≡ r.own.place → IsFree r' → IsOf self new
    still_free q l p h free = record {
      here = still_of q l p h;
      free = sym (ap (λ b. b.slot) told) ∙ ap edge_in free;
    }

    pub makes : (steps : ℕ) → r'.steps ≡ r.steps + steps → r'.hand ≡ r.hand
        → Makes steps old new
    makes steps e hand = subst (Makes steps old) told (record {
      steps = e ∙ ap (λ b. b.steps + steps) shown;
      slot = ap edge_in hand ∙ ap (λ b. b.slot) shown;
      looks = ap (λ b. b.looks) shown;
    })

    pub moved : (steps : ℕ) (row : Record I → Record I) → r'.own ≡ row r.own
        → r'.steps ≡ r.steps + steps → a'.size ≡ a.size → r'.hand ≡ r.hand
        → Moved steps row old new
    moved steps row own e size hand = record {
      makes = makes steps e hand;
      kept = sym (ap (λ b. b.kept) told) ∙ own ∙ ap row (sym kept_is);
      size = size ∙ ap (λ b. b.state.size) shown;
    }

    -- what the record is then, and the word that was found
    pub kept_now : r'.own ≡ new.kept
    kept_now = ap (λ b. b.kept) told

    pub found_now : r'.found ≡ new.found
    found_now = ap (λ b. b.found) told
