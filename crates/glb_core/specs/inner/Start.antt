-- The tables at the start, as they are made.
use Rattle.std.specs.Prelude.{◌≡◌, ◌⊎◌, ℕ, ◌+◌, ◌-◌, ◌*◌, ◌^◌, ◌<◌, ◌≤◌, List, [], length, get_or}
use Rattle.std.specs.Prelude.{min, IsPermutation, Bool, true, false}
use Rattle.rand_pcg.specs.Lcg.{Lcg, next, advance, started, increment_of}
use Rattle.rand_pcg.specs.Pcg.{multiplier_64, output_xsh_rr}
use Rattle.glb_cube.specs.Lines.{Cube, IsCube, outs_of}
use Rattle.glb_laws.specs.Numbers.{has_number}
use Rattle.glb_rules.specs.World.{Idle, Refused}
use Rattle.glb_rules.specs.Setups.{tries_of, has_items, bit}
use Rattle.glb_laws.specs.Sums.{sum_to}
use Rattle.glb_rules.specs.declared.kinds.Phase.TheVariants as phase
use Rattle.glb_rules.specs.declared.kinds.Credit.TheVariants as credit
use Rattle.glb_rules.specs.History.{first_local, first_phase, first_credit}
use Rattle.glb_rules.specs.declared.kinds.Kind.{Kind}
use Rattle.glb_rules.specs.declared.kinds.Kind.TheVariants as kind
use Rattle.glb_rules.specs.declared.params.Params.{Params}
use Rattle.glb_core.specs.declared.world.rows.PlaceRow.{PlaceRow}
use Rattle.glb_core.specs.declared.world.rows.EdgeRow.{EdgeRow}
use Rattle.glb_core.specs.declared.world.rows.EdgeRow.TheVariants as edge_row
use Rattle.glb_core.specs.declared.world.tables.Tables.{Tables}
use Rattle.glb_core.specs.Tables.{ShowsLocal, edge_index}

-- the row of a line at the start; the truth values say whether the thief is awake, and whether
-- the line is there
abbrev pub first_edge_row : {B : Type 0} → Bool → Bool → EdgeRow B
first_edge_row true b = edge_row.Idle
first_edge_row false true = edge_row.Refused
first_edge_row false false = edge_row.Idle

-- the row of each edge at the start
abbrev pub edge_row_at_start : {B : Type 0} → Cube → (ℕ → Bool) → Kind → ℕ → ℕ → EdgeRow B
edge_row_at_start c awake kind.Steal t v = edge_row.Idle
edge_row_at_start c awake kind.Line t v = first_edge_row (awake t) (has_number v (outs_of c t))

-- every edge has its row of the start
pub record FirstEdgeRows {B : Type 0} (c : Cube) (awake : ℕ → Bool) (n victims : ℕ)
    (edge_rows : List (EdgeRow B)) : Type 0 where
  pub number : length edge_rows ≡ victims * 2 * n
  pub edge :
      (k : Kind) (t v : ℕ) → t < n → v < victims
      → get_or edge_rows (edge_index n k t v) edge_row.Idle ≡ edge_row_at_start c awake k t v
  pub plain : (j : ℕ) (d : EdgeRow B) → j < length edge_rows
      → (get_or edge_rows j d ≡ edge_row.Idle)
      ⊎ (get_or edge_rows j d ≡ edge_row.Refused)

-- the row of every place shows its local state of the start
pub record FirstPlaceRows {B I : Type 0} (items : B → List I) (params : Params) (bag_of : ℕ
    → List I)
    (number : ℕ) (place_rows : List (PlaceRow B)) : Type 0 where
  pub number_is : length place_rows ≡ number
  pub place_row :
      (p : ℕ) (d : PlaceRow B) → p < number
      → ShowsLocal items params.seed params.places p (get_or place_rows p d)
      (first_local (tries_of params) (bag_of p))

-- the row of a place that had no bag yet, with this one
abbrev pub with_bag : {B I : Type 0} → (B → List I) → B → PlaceRow B → PlaceRow B
with_bag items b r = record r {
  phase = first_phase (has_items (items b));
  credit = first_credit (has_items (items b));
  bag = b;
}

abbrev pub AllAsleep : {B : Type 0} → List (PlaceRow B) → Type 0
AllAsleep {B = B} place_rows = (i : ℕ) (d : PlaceRow B) → i < length place_rows →
    ((get_or place_rows i d).phase ≡ phase.Asleep) × ((get_or place_rows i d).credit ≡ credit.Zero)

-- the tables of the start of these bags, but that the bags are not in them yet
pub record FirstTables {B I V : Type 0} (items : B → List I) (unit : V) (params : Params)
    (bags : List (List I)) (t : Tables B V) : Type 0 where
  pub cube : IsCube t.lines
  pub places : t.lines.places ≡ params.places
  pub base : t.lines.base ≡ params.base
  pub params_are : t.params ≡ params
  pub place_rows : FirstPlaceRows items params (λ _. []) params.places t.place_rows.items
  pub edge_rows : FirstEdgeRows t.lines
      (λ p. has_items (get_or bags p [])) t.lines.places t.lines.places t.edge_rows.items
  pub live : t.live ≡ sum_to params.places (λ p. bit (has_items (get_or bags p [])))
  pub stop : t.stop ≡ 0
  pub total : t.total ≡ 0
  pub value : t.value ≡ unit
