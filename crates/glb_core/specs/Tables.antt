-- Which worlds the tables of a world show: the row of each place, the row of each edge, and the
-- numbers.
use Rattle.std.specs.Prelude.{◌≡◌, ◌⊎◌, ℕ, ◌+◌, ◌-◌, ◌*◌, ◌^◌, ◌<◌, ◌≤◌, List, [], length, get_or}
use Rattle.std.specs.Prelude.{min, IsPermutation, Bool, true, false}
use Rattle.rand_pcg.specs.Lcg.{Lcg, next, advance, started, increment_of}
use Rattle.rand_pcg.specs.Pcg.{multiplier_64, output_xsh_rr}
use Rattle.glb_cube.specs.Lines.{Cube, IsCube}
use Rattle.glb_rules.specs.World.{WorldEdge, Idle, Asked, Refused, Loot, Setup, World, mark_at}
use Rattle.glb_rules.specs.Setups.{IsWithinLimits}
use Rattle.glb_core.specs.Lifelines.{setup_of}
use Rattle.glb_core.specs.Counters.{counters_of}
use Rattle.glb_rules.specs.Draws.{drawn}
use Rattle.glb_rules.specs.declared.kinds.Kind.{Kind}
use Rattle.glb_rules.specs.declared.kinds.Kind.TheVariants as kind
use Rattle.glb_rules.specs.declared.kinds.Mark.TheVariants as mark
use Rattle.glb_rules.specs.declared.params.Params.{Params}
use Rattle.glb_rules.specs.declared.local.Local.{Local}
use Rattle.glb_core.specs.declared.world.rows.PlaceRow.{PlaceRow}
use Rattle.glb_core.specs.declared.world.rows.EdgeRow.{EdgeRow}
use Rattle.glb_core.specs.declared.world.rows.EdgeRow.TheVariants as edge_row
use Rattle.glb_core.specs.declared.world.tables.Tables.{Tables}

-- what contracts see of a world
pub record WorldView (B V : Type 0) : Type 0 where
  pub cube : Cube
  pub params : Params
  pub place_rows : List (PlaceRow B)
  pub edge_rows : List (EdgeRow B)
  pub live : ℕ
  pub stop : ℕ
  -- the number of items done, and the combination of their values
  pub total : ℕ
  pub value : V

-- a number for the kind, by which rows and marks are laid out
abbrev pub kind_number : Kind → ℕ
kind_number kind.Steal = 0
kind_number kind.Line = 1

-- where a place keeps the mark of the in-edge of this kind from this thief
abbrev pub mark_index : ℕ → Kind → ℕ → ℕ
mark_index n k t = kind_number k * n + t

-- where the row of an edge is: the in-edges of a place stand side by side
abbrev pub edge_index : ℕ → Kind → ℕ → ℕ → ℕ
edge_index n k t v = (v * 2 + kind_number k) * n + t

-- the row shows an edge; `items` are those of a bag
abbrev pub edge_in : {B I : Type 0} → (B → List I) → EdgeRow B → WorldEdge I
edge_in items edge_row.Idle = Idle
edge_in items edge_row.Asked = Asked
edge_in items edge_row.Refused = Refused
edge_in items (edge_row.Loot b) = Loot (items b)

-- the row shows the local state of place p of n; its next victim is that of the word whose number is its
-- count of asks
pub record ShowsLocal {B I : Type 0} (items : B → List I) (seed n p : ℕ) (r : PlaceRow B)
    (a : Local I) : Type 0 where
  pub same_phase : r.phase ≡ a.phase
  pub same_credit : r.credit ≡ a.credit
  pub tries : r.tries ≡ a.tries
  pub bag : IsPermutation (items r.bag) a.bag
  pub many : length r.marks.items ≡ 2 * n
  pub marks : (k : Kind) (t : ℕ) → t < n → get_or r.marks.items (mark_index n k t) mark.Unseen
      ≡ mark_at a.marks k t
  pub counters : r.counters ≡ counters_of a.count
  pub words :
      1 < n → r.words ≡ advance 64 multiplier_64 (a.count.asks + 1)
      (started 64 multiplier_64 seed (increment_of 64 p))
  pub victim : r.victim ≡ drawn seed n p a.count.asks

-- the view shows the world over this setup
pub record Shows {B I V : Type 0} (items : B → List I) (s : Setup) (x : WorldView B V)
    (w : World I) : Type 0 where
  pub setup : s ≡ setup_of x.cube x.params s.awake
  pub places : x.cube.places ≡ x.params.places
  pub base : x.cube.base ≡ x.params.base
  pub cube : IsCube x.cube
  pub limits : IsWithinLimits x.params
  pub place_rows : length x.place_rows ≡ x.cube.places
  pub edge_rows : length x.edge_rows ≡ x.cube.places * 2 * x.cube.places
  pub place_row :
      (p : ℕ) (d : PlaceRow B) → p < x.cube.places
      → ShowsLocal items x.params.seed x.cube.places p (get_or x.place_rows p d) (w.place p)
  pub edge_row :
      (k : Kind) (t v : ℕ) → t < x.cube.places → v < x.cube.places
      → edge_in items (get_or x.edge_rows (edge_index x.cube.places k t v) edge_row.Idle)
      ≡ w.edge k t v
  pub live : x.live ≡ w.live
  pub stop : x.stop ≡ w.stop

-- what contracts see of the tables
abbrev pub view_of : {B V : Type 0} → Tables B V → WorldView B V
view_of t = record {
  cube = t.lines;
  params = t.params;
  place_rows = t.place_rows.items;
  edge_rows = t.edge_rows.items;
  live = t.live;
  stop = t.stop;
  total = t.total;
  value = t.value;
}
