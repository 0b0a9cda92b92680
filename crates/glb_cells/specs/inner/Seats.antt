-- Seats that are dealt, one for each place, and what the end of the table tells of their views.
use Rattle.std.specs.Prelude.{◌≡◌, ℕ, ◌<◌, ◌≤◌, ◌^◌, List, Some, None}
use mathlib.Core.Option.{some}
use lib.ListN.{get_elem?}
use Rattle.atomic_table.specs.Seated.{TableId}
use Rattle.glb_rules.specs.World.{World, Idle}
use Rattle.glb_rules.specs.Lawful.{sum_of_places}
use Rattle.glb_rules.specs.declared.kinds.Kind.TheVariants as kind
use Rattle.glb_rules.specs.declared.kinds.Edge.TheVariants as seen
use Rattle.glb_place.specs.Records.{known_at}
use Rattle.glb_cells.specs.declared.view.View.{View}
use Rattle.glb_cells.specs.Shows.{Fixed, IsPast, Sound}
use Rattle.glb_cells.specs.Starts.{first_view}
use Rattle.glb_cells.specs.Berths.{BerthView}

module _ {B Q I : Type 0} (Γ : Fixed B Q I) where
  -- the berth has the first view of the place p
  pub record HasFirst (id : TableId) (p : ℕ) (b : BerthView Q I) : Type 0 where
    pub object : b.object ≡ id
    pub program : b.program ≡ Some Γ.program
    pub kept : b.kept ≡ (first_view Γ p).own
    pub free : b.slot ≡ None
    pub steps : b.steps ≡ 0

  -- the last world of a history has these numbers, and is as these views say
  pub record Ended (live items stop : ℕ) (recs : List (View Q I)) : Type 0 where
    pub sound : Sound Γ
    pub world : World I
    pub history : IsPast Γ world
    pub live_is : live ≡ world.live
    pub stop_is : stop ≡ world.stop
    pub items_are : items ≡ sum_of_places Γ.lines world (λ a. a.count.items)
    pub few_items : items ≤ 2 ^ 41
    pub cause : stop ≡ 1 → Γ.limit < items
    pub codes : stop ≤ 2
    pub locals : (k : ℕ) (r : View Q I) → get_elem? recs k ≡ some r
        → world.place r.own.place ≡ r.own.local
    pub idle_lines : (k : ℕ) (r : View Q I) → get_elem? recs k ≡ some r → (v : ℕ)
        → v < Γ.lines.places → known_at r.own.known kind.Line r.own.place v ≡ seen.Idle
        → world.edge kind.Line r.own.place v ≡ Idle
