-- What a desk keeps of its place at the start.
use Rattle.std.specs.Prelude.{ℕ, Bool, true, false, None}
use Rattle.glb_cube.specs.Lines.{Cube, outs_of}
use Rattle.glb_laws.specs.Numbers.{has_number}
use Rattle.glb_rules.specs.declared.kinds.Kind.{Kind}
use Rattle.glb_rules.specs.declared.kinds.Kind.TheVariants as kind
use Rattle.glb_rules.specs.declared.kinds.Edge.{Edge}
use Rattle.glb_rules.specs.declared.kinds.Edge.TheVariants as seen
use Rattle.glb_inbox.specs.declared.lane.Lane.{Lane}
use Rattle.glb_inbox.specs.declared.lane.Answer.TheVariants.{Nothing}

-- what is known of a lifeline, by whether its thief is awake and whether it is there
abbrev pub first_known : Bool → Bool → Edge
first_known true there = seen.Idle
first_known false true = seen.Refused
first_known false false = seen.Idle

-- a lane over which nothing came, and that was not looked at
abbrev pub lane_with : {B I : Type 0} → Edge → Edge → Lane B I
lane_with inward outward = record {
  inward = inward;
  request = None;
  outward = outward;
  answer = Nothing;
  inward_looks = 0;
  outward_looks = 0;
}

-- what the place knows at the start of its edges of this kind with another place
abbrev pub first_lane : {B I : Type 0} → Cube → (ℕ → Bool) → ℕ → Kind → ℕ → Lane B I
first_lane c awake p kind.Steal o = lane_with seen.Idle seen.Idle
first_lane c awake p kind.Line o =
    lane_with (first_known (awake o) (has_number p (outs_of c o)))
    (first_known (awake p) (has_number o (outs_of c p)))
