-- A place of two that is played by hand: what it keeps at run time of its record, and its items.
use Rattle.std.specs.Prelude.{◌≡◌, ℕ, ◌-◌, ◌<◌, List, ◌++◌, Option, IfSome, IsPermutation}
use Rattle.glb_cube.specs.Lines.{Cube, cube_of}
use Rattle.glb_rules.specs.World.{mark_at}
use Rattle.glb_rules.specs.declared.kinds.Credit.{Credit}
use Rattle.glb_rules.specs.declared.kinds.Edge.{Edge}
use Rattle.glb_rules.specs.declared.kinds.Kind.TheVariants as kind
use Rattle.glb_rules.specs.declared.kinds.Mark.{Mark}
use Rattle.glb_rules.specs.declared.kinds.Phase.{Phase}
use Rattle.glb_rules.specs.declared.params.Params.{Params}
use Rattle.glb_place.specs.declared.record.Record.{Record}
use Rattle.glb_place.specs.Records.{known_at}
use Rattle.glb_place.specs.Places.{SpareFits, spare_items}

-- two places, with a line from each to the other
abbrev pub two_places : Cube
two_places = cube_of 2 2 1

-- the parameters: batches of one item, and no random victims
abbrev pub two_params : Params
two_params = record {
  places = 2;
  batch = 1;
  tries = 0;
  base = 2;
  seed = 0;
  limit = 1099511627776;
}

-- the place's phase and credit, the marks on its two in-edges, its two lines as it knows them, if
-- it does, and the total that its last batch was told
pub record Follows {I : Type 0} (r : Record I) (place : ℕ) (phase : Phase) (credit : Credit)
    (steal_mark line_mark : Mark) (line_in : Option Edge) (line_out : Edge) (total : ℕ)
    : Type 0 where
  pub near : r.place < 2
  pub place_is : place ≡ r.place
  pub lines_are : r.lines ≡ two_places
  pub params_are : r.params ≡ two_params
  pub tries : r.local.tries ≡ 0
  pub phase_is : r.local.phase ≡ phase
  pub credit_is : r.local.credit ≡ credit
  pub steal_marked : mark_at r.local.marks kind.Steal (1 - r.place) ≡ steal_mark
  pub line_marked : mark_at r.local.marks kind.Line (1 - r.place) ≡ line_mark
  pub in_is : IfSome line_in (λ e. known_at r.known kind.Line (1 - r.place) r.place ≡ e)
  pub out_is : known_at r.known kind.Line r.place (1 - r.place) ≡ line_out
  pub total_is : r.last ≡ total

-- the bag, and a part beside it, have the record's items
pub record Carries {B I Q : Type 0} (items : B → List I) (fits : B → Q → Type 0) (q : Q)
    (r : Record I) (bag : B) (part : Option B)
    : Type 0 where
  pub carried : IsPermutation r.local.bag (spare_items items part ++ items bag)
  pub bag_fits : fits bag q
  pub part_fits : SpareFits (λ b. fits b q) part
