-- What the close of the shared object promises, from what the end of its table tells.
use Rattle.std.proofs.Common.{◌≡◌, ℕ, zero, suc, ◌<◌, ◌≤◌, ◌^◌, List, [], ◌∷◌, map, length, get_or, None, refl, sym, ap, ◌∙◌, subst, arith}
use mathlib.Core.Option.{some}
use lib.ListN.{get_elem?}
use Rattle.glb_rules.specs.Joins.{join_to}
use Rattle.glb_rules.specs.World.{Idle}
use Rattle.atomic_table.specs.Seated.{TableId}
use Rattle.glb_rules.specs.Lawful.{sum_of_places}
use Rattle.glb_rules.proofs.Bound.Runs.{run_lawful_from}
use Rattle.glb_core.specs.Counters.{all_awake, all_degrees}
use Rattle.glb_rules.specs.declared.kinds.Kind.TheVariants as kind
use Rattle.glb_place.specs.declared.record.Record.{Record}
use Rattle.glb_place.specs.Records.{known_at}
use Rattle.glb_place.specs.Close.{AreRecordsOf, Closes}
use Rattle.glb_place.proofs.LastWorlds.{world_closes}
use Rattle.glb_cells.specs.declared.view.View.{View}
use Rattle.glb_cells.specs.declared.key.Start.{Start}
use Rattle.glb_cells.specs.Shows.{Fixed}
use Rattle.glb_cells.specs.Starts.{setup_from}
use Rattle.glb_cells.specs.Berths.{CellsView, BerthView, AreBerthsOf}
use Rattle.glb_cells.specs.Ends.{IsLastOf}
use Rattle.glb_cells.specs.inner.Seats.{Ended}
use Rattle.glb_cells.specs.inner.Keeping.{cells_view}

-- a view by its record in the list of records
view_at : {Q I : Type 0} (vs : List (View Q I)) (p : ℕ) (d : Record I)
    → p < length (map (λ r. r.own) vs)
    → (r : View Q I) × (get_elem? vs p ≡ some r) × (get_or (map (λ r. r.own) vs) p d ≡ r.own)
view_at [] p d l = absurd (omega arith)
view_at (v ∷ vs) zero d l = (v, refl, refl)
view_at (v ∷ vs) (suc p) d l = view_at vs p d (omega arith)

-- a berth by its record
berth_at : {Q I : Type 0} (bs : List (BerthView Q I)) (p : ℕ) (d : Record I) → p < length bs
    → (b : BerthView Q I) × (get_or bs p b ≡ b) × (get_or (map (λ b. b.kept) bs) p d ≡ b.kept)
berth_at [] p d l = absurd (omega arith)
berth_at (b ∷ bs) zero d l = (b, refl, refl)
berth_at (b ∷ bs) (suc p) d l = berth_at bs p d (omega arith)

long_map : {A C : Type 0} (f : A → C) (l : List A) → length (map f l) ≡ length l
long_map f [] = refl
long_map f (x ∷ l) = ap suc (long_map f l)

module _ {B Q I : Type 0} (items : B → List I) (fits : B → Q → Type 0) (children : Q → I → List I)
    (key : Start Q B)
    (live count stop : ℕ) (vs : List (View Q I)) (rs : List (Record I))
    (same : map (λ r. r.own) vs ≡ rs)
    (E : Ended (setup_from items fits children key) live count stop vs) where
  abbrev Γ : Fixed B Q I
  Γ = setup_from items fits children key

  -- of each record, the view
  seen_at : (p : ℕ) (d : Record I) → p < length rs → (r : View Q I) × (get_elem? vs p ≡ some r)
      × (get_or rs p d ≡ r.own)
  seen_at p d l =
      let v = view_at vs p d (subst (λ (xs : List (Record I)). p < length xs) (sym same) l) in
      (v.0, v.1, ap (λ (xs : List (Record I)). get_or xs p d) (sym same) ∙ v.2)

  local_at : (p : ℕ) (d : Record I) → p < length rs
      → (get_or rs p d).local ≡ E.world.place (get_or rs p d).place
  local_at p d l =
      let v = seen_at p d l in
      ap (λ (x : Record I). x.local) v.2 ∙ sym (E.locals p v.0 v.1)
      ∙ ap (λ (x : Record I). E.world.place x.place) (sym v.2)

  pub last_of : length rs ≡ key.lines.value.places
      → ((p : ℕ) (d : Record I) → p < length rs → (get_or rs p d).place ≡ p)
      → IsLastOf (children key.program.value) Γ.lines Γ.bags live count stop rs
  last_of many placed = record {
    events = E.history.0;
    last = E.world;
    run = E.history.1;
    live_is = E.live_is;
    items_are = E.items_are;
    stop_is = E.stop_is;
    many = many;
    locals = λ p d l. local_at p d l ∙ ap E.world.place (placed p d l);
  }

  records_of : length rs ≡ key.lines.value.places
      → ((p : ℕ) (d : Record I) → p < length rs → (get_or rs p d).place ≡ p)
      → ((p : ℕ) (d : Record I) → p < length rs → ((get_or rs p d).params ≡ key.params)
      × ((get_or rs p d).lines ≡ key.lines.value))
      → AreRecordsOf key.lines.value key.params E.world rs
  records_of many placed told = record {
    many = many;
    each = λ p d l. let v = seen_at p d l in record {
      place = placed p d l;
      params_are = (told p d l).0;
      lines_are = (told p d l).1;
      local = local_at p d l ∙ ap E.world.place (placed p d l);
      idle_lines = λ u m known.
          let at : v.0.own.place ≡ p = ap (λ (x : Record I). x.place) (sym v.2) ∙ placed p d l in
          subst (λ q. E.world.edge kind.Line q u ≡ Idle) at
          (E.idle_lines p v.0 v.1 u m ((λ i. known_at (sym v.2 i).known kind.Line (at i) u)
          ∙ known));
    };
  }

  pub closes : length rs ≡ key.lines.value.places
      → ((p : ℕ) (d : Record I) → p < length rs → (get_or rs p d).place ≡ p)
      → ((p : ℕ) (d : Record I) → p < length rs → ((get_or rs p d).params ≡ key.params)
      × ((get_or rs p d).lines ≡ key.lines.value))
      → Closes (children key.program.value) (all_degrees Γ.lines) (all_awake Γ.lines)
      key.params.limit (join_to Γ.lines.places Γ.bags) rs live count stop
  closes many placed told =
      let S = E.sound in
      let w = E.world in
      let L = run_lawful_from (children key.program.value) Γ.lines Γ.bags S.proper S.awake
      E.history.0 w E.history.1 in
      let small : sum_of_places Γ.lines w (λ a. a.count.items) ≤ 2 ^ 41 = let a = E.items_are in
      let b = E.few_items in omega arith in
      let code : w.stop ≤ 2 = let a = E.stop_is in let b = E.codes in omega arith in
      let all = world_closes (children key.program.value) (join_to Γ.lines.places Γ.bags)
      key.lines.value key.params Γ.lines.awake w rs L (records_of many placed told)
      key.params.limit S.few S.proper.some S.tries small
      (λ one. let a : key.params.limit < count = E.cause (E.stop_is ∙ one) in let b =
      E.items_are in omega arith) code in
      subst (λ (x : ℕ × ℕ × ℕ). Closes (children key.program.value) (all_degrees Γ.lines)
      (all_awake Γ.lines) key.params.limit (join_to Γ.lines.places Γ.bags) rs x.0 x.1 x.2)
      (λ i. (sym E.live_is i, sym E.items_are i, sym E.stop_is i)) all

-- what the caller of the close knows of the records
module _ {B Q I : Type 0} (items : B → List I) (key : Start Q B) (id : TableId)
    (self : CellsView Q I) (self_is : cells_view items id key ≡ self)
    (bs : List (BerthView Q I)) (all : AreBerthsOf self bs) where
  pub all_many : length (map (λ b. b.kept) bs) ≡ key.lines.value.places
  all_many = long_map (λ b. b.kept) bs ∙ all.many
      ∙ ap (λ (s : CellsView Q I). s.lines.places) (sym self_is)

  pub all_placed : (p : ℕ) (d : Record I) → p < length (map (λ b. b.kept) bs)
      → (get_or (map (λ b. b.kept) bs) p d).place ≡ p
  all_placed p d l =
      let m : p < length bs = (let e = long_map (λ b. b.kept) bs in omega arith) in
      let b = berth_at bs p d m in
      ap (λ (x : Record I). x.place) b.2 ∙ ap (λ (x : BerthView Q I). x.kept.place) (sym b.1)
      ∙ (all.each p b.0 m).1

  pub all_told : (p : ℕ) (d : Record I) → p < length (map (λ b. b.kept) bs)
      → ((get_or (map (λ b. b.kept) bs) p d).params ≡ key.params)
      × ((get_or (map (λ b. b.kept) bs) p d).lines ≡ key.lines.value)
  all_told p d l =
      let m : p < length bs = (let e = long_map (λ b. b.kept) bs in omega arith) in
      let b = berth_at bs p d m in
      let of = (all.each p b.0 m).0 in (
        ap (λ (x : Record I). x.params) b.2 ∙ ap (λ (x : BerthView Q I). x.kept.params) (sym b.1)
            ∙ of.here.params ∙ ap (λ (s : CellsView Q I). s.params) (sym self_is),
        ap (λ (x : Record I). x.lines) b.2 ∙ ap (λ (x : BerthView Q I). x.kept.lines) (sym b.1)
            ∙ of.here.lines ∙ ap (λ (s : CellsView Q I). s.lines) (sym self_is),
      )

  pub all_here : (p : ℕ) (d : BerthView Q I) → p < length bs
      → ((get_or bs p d).object ≡ id) × ((get_or bs p d).slot ≡ None)
  all_here p d l = let of = (all.each p d l).0 in
      (of.here.object ∙ ap (λ (s : CellsView Q I). s.object) (sym self_is), of.free)
