-- A run over cells: what the cells and their berths say of the places at the start and at the close.
use Rattle.std.proofs.Common.{◌≡◌, ◌≢◌, ◌⊎◌, ℕ, ◌<◌, ◌≤◌, List, [], length, map, get_or, sym, ap, subst}
use Rattle.std.proofs.Common.{◌∙◌, arith, inl, inr}
use Rattle.std.proofs.lemmas.List.{get_or-map, length-map}
use Rattle.std.specs.Prelude.{All, Bool, IsPermutation}
use Rattle.std.specs.List.{flat_map}
use Rattle.glb_laws.specs.Expansion.{combined}
use Rattle.glb_cube.specs.Lines.{Cube}
use Rattle.glb_stats.specs.declared.counters.Counters.{Counters}
use Rattle.glb_rules.specs.Joins.{join_to}
use Rattle.glb_rules.specs.World.{Setup}
use Rattle.glb_rules.specs.declared.params.Params.{Params}
use Rattle.glb_core.specs.Counters.{all_awake, all_degrees}
use Rattle.glb_core.specs.Lifelines.{IsGraphOf, setup_for}
use Rattle.glb_core.specs.Reports.{EndsHistory}
use Rattle.glb_place.specs.declared.record.Record.{Record}
use Rattle.glb_place.specs.Close.{Closes, HasLeft, counters_in, done_of}
use Rattle.glb_place.specs.Records.{IsFirst}
use Rattle.glb_cells.specs.Berths.{AreBerthsOf, BerthView, CellsView, IsFirstBerth, IsOf}
use Rattle.glb_cells.specs.Berths.{bag_of, setup_of_cells}
use Rattle.glb_cells.specs.Ends.{IsLastOf}
use Rattle.glb_run.specs.ThreadedRuns.{IsCellsReport, IsThreadsReport}
use Rattle.glb_run.specs.inner.CellRuns.{AreFirstBerths, IsClosedHistory}
use Rattle.glb_run.specs.inner.Plays.{AreFirst, AreLeft, AreSameObjects}
use Rattle.glb_run.proofs.PlayedFacts.{mapped_twice, some_member}

-- the berths that were made with the cells are those of the places at the start
pub first_berths : {Q I : Type 0} (cells : CellsView Q I) (program : Q) (params : Params)
    (lines : Cube) (seen bags : List (List I)) (berths : List (BerthView Q I))
    → seen ≡ bags
    → cells ≡ record {
      object = cells.object;
      program = program;
      params = params;
      lines = lines;
      bags = seen;
    }
    → length berths ≡ lines.places
    → ((p : ℕ) (d : BerthView Q I) → p < length berths
    → IsFirstBerth cells p (get_or berths p d))
    → AreFirstBerths cells program params lines bags berths
first_berths cells program params lines seen bags berths same made many each = record {
  made = subst
      (λ (b : List (List _)). cells ≡ record {
        object = cells.object;
        program = program;
        params = params;
        lines = lines;
        bags = b;
      })
      same made;
  many = many;
  each = each;
}

module _ {Q I : Type 0} (cells : CellsView Q I) (program : Q) (params : Params) (lines : Cube)
    (bags : List (List I)) (berths : List (BerthView Q I))
    (first : AreFirstBerths cells program params lines bags berths) where
  -- the berths are those of the cells
  pub berths_here : All (IsOf cells) berths
  berths_here p d l = (first.each p d l).here

  -- their records are those of the places at the start
  pub berths_first : AreFirst lines params bags (map (λ b. b.kept) berths)
  berths_first = record {
    each = λ p d l.
        let here : p < length berths = omega (arith, length-map berths (λ b. b.kept)) in
        let x = some_member berths p here in
        subst (λ r. IsFirst lines params p (get_or bags p []) r)
        (sym (get_or-map (λ (y : BerthView Q I). y.kept) berths p x d here))
        (subst
        (λ (c : CellsView Q I).
        IsFirst c.lines c.params p (get_or c.bags p []) (get_or berths p x).kept)
        first.made (first.each p x here).first);
  }

  module _ {S : Type 0} (cells_at : S → CellsView Q I) (berth_at : S → BerthView Q I)
      (stands : List S) (over : All (λ s. cells_at s ≡ cells) stands)
      (held : map berth_at stands ≡ berths) where
    -- there is a stand for each place
    pub stands_many : length stands ≡ lines.places
    stands_many = sym (length-map stands berth_at) ∙ ap length held ∙ first.many

    -- the records of the stands are those of the places at the start
    pub stands_first : AreFirst lines params bags (map (λ s. (berth_at s).kept) stands)
    stands_first = subst (AreFirst lines params bags)
        (sym (ap (map (λ b. b.kept)) held) ∙ mapped_twice berth_at (λ b. b.kept) stands)
        berths_first

    -- and their program is that of the run
    pub stands_programs : All (λ s. program ≡ (cells_at s).program) stands
    stands_programs p d l =
        sym (ap (λ (c : CellsView Q I). c.program) (over p d l)
        ∙ ap (λ (c : CellsView Q I). c.program) first.made)

    -- the berths of stands that are the same as these are all berths of the cells
    pub berths_again : {H : Type 0} (program_of : S → Q) (home : S → H) (refuses : S → Bool)
        (cells_in : H → CellsView Q I) (place_in : H → ℕ)
        → ((s : S) → cells_in (home s) ≡ cells_at s)
        → ((s : S) → place_in (home s) ≡ (berth_at s).kept.place)
        → (left : List S) → AreSameObjects program_of home refuses stands left
        → All (λ s. IsOf (cells_at s) (berth_at s)) left
        → AreBerthsOf cells (map berth_at left)
    berths_again program_of home refuses cells_in place_in cells_are place_is left same own =
        record {
          many = length-map left berth_at ∙ same.many ∙ stands_many
              ∙ sym (ap (λ (c : CellsView Q I). c.lines.places) first.made);
          each = λ p d l.
              let new : p < length left = omega (arith, length-map left berth_at) in
              let old : p < length stands = omega (arith, same.many) in
              let was : p < length berths =
              omega (arith, ap length held, length-map stands berth_at)
              in
              let x = some_member left p new in
              let is : get_or (map berth_at left) p d ≡ berth_at (get_or left p x) =
              get_or-map berth_at left p x d new
              in
              let home_is = (same.each p x old).home_stays in
              let over_is : cells_at (get_or left p x) ≡ cells =
              sym (cells_are (get_or left p x)) ∙ ap cells_in home_is
              ∙ cells_are (get_or stands p x) ∙ over p x old
              in
              let before : berth_at (get_or stands p x) ≡ get_or berths p d =
              sym (get_or-map berth_at stands p x d old) ∙ ap (λ bs. get_or bs p d) held
              in
              let place : (berth_at (get_or left p x)).kept.place ≡ p =
              sym (place_is (get_or left p x)) ∙ ap place_in home_is
              ∙ place_is (get_or stands p x)
              ∙ ap (λ (b : BerthView Q I). b.kept.place) before
              ∙ (first.each p d was).first.place
              in (
                subst (IsOf cells) (sym is)
                    (subst (λ c. IsOf c (berth_at (get_or left p x))) over_is (own p x new)),
                ap (λ (b : BerthView Q I). b.kept.place) is ∙ place,
              );
        }

  -- a run has closed that was a history, whose cells tell so
  pub cells_close : {V : Type 0} (children : Q → I → List I) (value : I → V)
      (combine : V → V → V) (unit : V) (roots : ℕ → List I) (left : List (BerthView Q I))
      (live items stop : ℕ) (total : V) (counters : List Counters)
      → IsGraphOf lines params
      → ((p : ℕ) → IsPermutation (roots p) (get_or bags p []))
      → AreBerthsOf cells left
      → IsLastOf (children cells.program) (setup_of_cells cells) (bag_of cells) live items stop
      (map (λ b. b.kept) left)
      → Closes (children cells.program) (all_degrees (setup_of_cells cells))
      (all_awake (setup_of_cells cells)) cells.params.limit
      (join_to cells.lines.places (bag_of cells)) (map (λ b. b.kept) left) live items stop
      → AreLeft value combine unit (map (λ b. b.kept) left) total counters
      → IsClosedHistory (children program) value combine unit params roots items stop total counters
  cells_close children value combine unit roots left live items stop total counters graph same all
      ends closes gone =
      let rs = map (λ (b : BerthView Q I). b.kept) left in
      let lines_same : cells.lines ≡ lines =
      ap (λ (c : CellsView Q I). c.lines) first.made
      in
      let params_same : cells.params ≡ params =
      ap (λ (c : CellsView Q I). c.params) first.made
      in
      record {
        closed = record {
          cube = lines;
          graph = graph;
          bags = λ p. get_or bags p [];
          same = same;
          records = rs;
          live = live;
          closes = subst
              (λ (c : CellsView Q I). Closes (children c.program) (all_degrees (setup_of_cells c))
              (all_awake (setup_of_cells c)) c.params.limit
              (join_to c.lines.places (bag_of c)) rs live items stop)
              first.made closes;
          numbered = record {
            many = length-map left (λ b. b.kept) ∙ all.many
                ∙ ap (λ (c : Cube). c.places) lines_same ∙ graph.places;
            place = λ p d l.
                let here : p < length left = omega (arith, length-map left (λ b. b.kept)) in
                let x = some_member left p here in
                ap (λ (r : Record I). r.place)
                (get_or-map (λ (b : BerthView Q I). b.kept) left p x d here)
                ∙ (all.each p x here).1;
            params_are = λ p d l.
                let here : p < length left = omega (arith, length-map left (λ b. b.kept)) in
                let x = some_member left p here in
                ap (λ (r : Record I). r.params)
                (get_or-map (λ (b : BerthView Q I). b.kept) left p x d here)
                ∙ (all.each p x here).0.here.params ∙ params_same;
            lines_are = λ p d l.
                let here : p < length left = omega (arith, length-map left (λ b. b.kept)) in
                let x = some_member left p here in
                ap (λ (r : Record I). r.lines)
                (get_or-map (λ (b : BerthView Q I). b.kept) left p x d here)
                ∙ (all.each p x here).0.here.lines ∙ lines_same;
          };
          left = gone;
        };
        ends = subst
            (λ (c : CellsView Q I). IsLastOf (children c.program) (setup_of_cells c) (bag_of c)
            live items stop rs)
            first.made ends;
      }

-- where live is 0 or a code is set, and no code can be, live is 0
none_of : (live items stop limit : ℕ) → (live ≡ 0) ⊎ (stop ≢ 0) → stop ≤ 2 → stop ≢ 2
    → (stop ≡ 1 → limit < items) → items ≤ limit
    → live ≡ 0
none_of live items stop limit (inl e) codes some cause within = e
none_of live items stop limit (inr set) codes some cause within =
    let one : stop ≡ 1 = omega (arith, codes, some, set) in
    absurd (omega (arith, cause one, within))

module _ {I V : Type 0} (children : I → List I) (value : I → V) (combine : V → V → V) (unit : V)
    (law : (s : Setup) (bags : ℕ → List I) (items stop : ℕ) (rs : List (Record I)) (answer : V)
    → IsLastOf children s bags 0 items stop rs → All HasLeft rs
    → answer ≡ combined value combine unit (flat_map done_of rs)
    → EndsHistory children value combine unit s bags items answer (map counters_in rs)) where
  -- what a run over cells reports that has closed as a history
  pub cells_report : (q : Params) (roots : ℕ → List I) (items stop : ℕ) (total : V)
      (counters : List Counters)
      → IsClosedHistory children value combine unit q roots items stop total counters
      → stop ≢ 2 → items ≤ q.limit
      → IsThreadsReport children value combine unit q roots items total counters
      → IsCellsReport children value combine unit q roots items total counters
  cells_report q roots items stop total counters k some within threads =
      let c = k.closed in
      let s = setup_for c.cube q c.bags in
      let none =
      none_of c.live items stop q.limit (c.closes.ended c.left.left) c.closes.codes some
      c.closes.cause within
      in
      record {
        cube = c.cube;
        graph = c.graph;
        bags = c.bags;
        same = λ p l. c.same p;
        history = subst (EndsHistory children value combine unit s c.bags items total)
            (sym c.left.counters_are)
            (law s c.bags items stop c.records total
            (subst (λ n. IsLastOf children s c.bags n items stop c.records) none k.ends)
            c.left.left c.left.total_is);
        threads = threads;
      }
