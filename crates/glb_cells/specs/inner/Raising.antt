-- Counting looks.
use Rattle.std.specs.Prelude.{ℕ, Bool, true, false, cond, ◌&&◌, List, slice_set, get_or}
use Rattle.glb_rules.specs.World.{same_kind}
use Rattle.glb_rules.specs.declared.kinds.Kind.{Kind}
use Rattle.glb_rules.specs.declared.kinds.Side.{Side}
use Rattle.glb_rules.specs.declared.kinds.Side.TheVariants as side
use Rattle.glb_place.specs.Looks.{raised}

abbrev pub same_side : Side → Side → Bool
same_side side.Inward side.Inward = true
same_side side.Inward side.Outward = false
same_side side.Outward side.Inward = false
same_side side.Outward side.Outward = true

-- the numbers of the edges of the kind k on the side s, after a look at an edge of the kind j on
-- the
-- side u
abbrev pub raise_where : Kind → Side → Kind → Side → ℕ → List ℕ → List ℕ
raise_where k s j u other xs =
    cond (same_kind k j && same_side s u) (slice_set xs other (raised (get_or xs other 0))) xs
