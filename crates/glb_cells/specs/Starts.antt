-- The start.
use Rattle.std.specs.Prelude.{ℕ, zero, suc, List, [], ◌∷◌, ◌++◌, map, None, false, cond, get_or, not, ◌&&◌, Bool}
use Rattle.std.specs.declared.snapshot.Snapshot.{Snapshot}
use Rattle.glb_rules.specs.World.{Setup, same_kind}
use Rattle.glb_core.specs.Lifelines.{setup_of}
use Rattle.glb_rules.specs.Setups.{has_items}
use Rattle.glb_cells.specs.EdgeNames.{names}
use Rattle.glb_rules.specs.declared.local.EdgeName.{EdgeName}
use Rattle.glb_rules.specs.declared.kinds.Kind.TheVariants as kind
use Rattle.glb_rules.specs.declared.kinds.Edge.TheVariants as seen
use Rattle.glb_place.specs.declared.record.KnownEdge.{KnownEdge}
use Rattle.glb_cells.specs.declared.view.View.{View}
use Rattle.glb_cells.specs.declared.key.Start.{Start}
use Rattle.glb_cells.specs.Words.{Cell, empty, denied}
use Rattle.glb_cells.specs.Shows.{Fixed, first}

-- a line of a place that begins Asleep is Refused
abbrev pub is_held : Setup → EdgeName → Bool
is_held s n = same_kind kind.Line n.kind && not (s.awake n.thief)

-- at the start a place knows the lines of sleepers as Refused, and all else as Idle
abbrev pub first_known : Setup → List EdgeName → List KnownEdge
first_known s [] = []
first_known s (n ∷ ns) =
    cond (is_held s n) (record { name = n; edge = seen.Refused } ∷ first_known s ns)
    (first_known s ns)

module _ {B Q I : Type 0} (Γ : Fixed B Q I) where
  abbrev pub first_view : ℕ → View Q I
  first_view p = record {
    program = Γ.program;
    own = record {
      place = p;
      params = Γ.params;
      lines = Γ.cube;
      local = (first Γ).place p;
      known = first_known Γ.lines Γ.names;
      last = 0;
      over = false;
      code = 0;
    };
    hand = None;
    steps = 0;
    found = 0;
  }

  abbrev pub views_below : ℕ → List (View Q I)
  views_below zero = []
  views_below (suc n) = views_below n ++ first_view n ∷ []

  abbrev pub first_views : List (View Q I)
  first_views = views_below Γ.lines.places

  abbrev pub first_cell : EdgeName → Cell B
  first_cell n = cond (is_held Γ.lines n) denied empty

module _ {B Q I : Type 0} (items : B → List I) (fits : B → Q → Type 0) (children : Q → I → List I)
  where
    abbrev pub bag_at : List (Snapshot B) → ℕ → List I
    bag_at bs p = get_or (map (λ (b : Snapshot B). items b.value) bs) p []

    abbrev pub lines_from : Start Q B → Setup
    lines_from key =
        setup_of key.lines.value key.params (λ p. has_items (bag_at key.bags.items p))

    -- what the table's key fixes
    abbrev pub setup_from : Start Q B → Fixed B Q I
    setup_from key = record {
      items = items;
      fits = fits;
      children = children;
      program = key.program.value;
      cube = key.lines.value;
      params = key.params;
      lines = lines_from key;
      names = names (lines_from key);
      bags = bag_at key.bags.items;
      limit = key.params.limit;
    }

-- the lifelines, and the edges by their numbers
abbrev pub plain_from : {B Q : Type 0} → Start Q B → Setup
plain_from key = setup_of key.lines.value key.params (λ p. false)

abbrev pub names_from : {B Q : Type 0} → Start Q B → List EdgeName
names_from key = names (plain_from key)
