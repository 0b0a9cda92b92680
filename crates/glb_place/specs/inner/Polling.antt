-- Which edges a place has looked at.
use Rattle.std.specs.Prelude.{◌≡◌, ℕ, ◌<◌, ◌≤◌, List, length, map, slice_index_or}
use Rattle.glb_cube.specs.Lines.{Cube, outs_of}
use Rattle.glb_rules.specs.Events.{name_of}
use Rattle.glb_rules.specs.declared.kinds.Kind.TheVariants as kind
use Rattle.glb_rules.specs.declared.local.EdgeName.{EdgeName}
use Rattle.glb_place.specs.Looks.{Looks, raised}

-- live and stop were not looked at
pub record SameCounts (old new : Looks) : Type 0 where
  pub live : new.live ≡ old.live
  pub stop : new.stop ≡ old.stop

-- the names of a place's lines
abbrev pub out_names : Cube → ℕ → List EdgeName
out_names c p = map (name_of kind.Line p) (outs_of c p)

-- the edges before this one were looked at once, the others were not
pub record LookedInto (names : List EdgeName) (at : ℕ) (old new : Looks) : Type 0 where
  pub before : (i : ℕ) (d : EdgeName) → i < at → i < length names
      → new.edge (slice_index_or names i d) ≡ raised (old.edge (slice_index_or names i d))
  pub after : (i : ℕ) (d : EdgeName) → at ≤ i → i < length names
      → new.edge (slice_index_or names i d) ≡ old.edge (slice_index_or names i d)
