-- The start of a run, and what events lead to from there.
use Rattle.std.specs.Prelude.{◌≡◌, ◌≢◌, ℕ, ◌<◌, Bool, true, false, List, [], ◌∷◌}
use Rattle.glb_laws.specs.Sums.{sum_to}
use Rattle.glb_rules.specs.World.{WorldEdge, Idle, Refused, Setup, World, has_line}
use Rattle.glb_rules.specs.Steps.{Step}
use Rattle.glb_rules.specs.Setups.{bit, has_items}
use Rattle.glb_rules.specs.declared.kinds.Kind.{Kind}
use Rattle.glb_rules.specs.declared.kinds.Kind.TheVariants as kind
use Rattle.glb_rules.specs.declared.kinds.Phase.{Phase}
use Rattle.glb_rules.specs.declared.kinds.Phase.TheVariants as phase
use Rattle.glb_rules.specs.declared.kinds.Credit.{Credit}
use Rattle.glb_rules.specs.declared.kinds.Credit.TheVariants as credit
use Rattle.glb_rules.specs.declared.local.Local.{Local}
use Rattle.glb_rules.specs.declared.local.Counts.{Counts}
use Rattle.glb_rules.specs.declared.event.Event.{Event}
use Rattle.glb_rules.specs.declared.event.Event.TheVariants.{Halt}

-- nothing is counted
abbrev pub no_counts : Counts
no_counts = record {
  items = 0;
  asks = 0;
  shrugs = 0;
  denied = 0;
  given = 0;
  got = 0;
  line_asks = 0;
  line_given = 0;
  line_got = 0;
  sent_units = 0;
  got_units = 0;
  sleeps = 0;
  wakes = 0;
}

-- a place with items begins Working, every other one Asleep
abbrev pub first_phase : Bool → Phase
first_phase true = phase.Working
first_phase false = phase.Asleep

-- a place with items begins with a credit, every other one with none
abbrev pub first_credit : Bool → Credit
first_credit true = credit.One
first_credit false = credit.Zero

-- the local state of a place at the start
abbrev pub first_local : {I : Type 0} → ℕ → List I → Local I
first_local tries bag = record {
  phase = first_phase (has_items bag);
  credit = first_credit (has_items bag);
  tries = tries;
  bag = bag;
  marks = [];
  done = [];
  count = no_counts;
}

-- a line of a place that begins Asleep is Refused; the second truth value says whether the line is
-- there
abbrev pub first_line : {I : Type 0} → Bool → Bool → WorldEdge I
first_line true b = Idle
first_line false true = Refused
first_line false false = Idle

-- at the start a steal edge is Idle
abbrev pub first_edge : {I : Type 0} → Setup → Kind → ℕ → ℕ → WorldEdge I
first_edge s kind.Steal t v = Idle
first_edge s kind.Line t v = first_line (s.awake t) (has_line s t v)

-- the start with these bags
abbrev pub start : {I : Type 0} → Setup → (ℕ → List I) → World I
start s bags = record {
  place = λ p. record {
    phase = first_phase (s.awake p);
    credit = first_credit (s.awake p);
    tries = s.tries;
    bag = bags p;
    marks = [];
    done = [];
    count = no_counts;
  };
  edge = first_edge s;
  live = sum_to s.places (λ p. bit (s.awake p));
  stop = 0;
}

-- the places that are awake at the start are those whose bags have items
abbrev pub AwakeBy : {I : Type 0} → Setup → (ℕ → List I) → Type 0
AwakeBy s bags = (p : ℕ) → p < s.places → s.awake p ≡ has_items (bags p)

-- the events lead from the old world to the new one, each by a step
abbrev pub Run : {I : Type 0} → (I → List I) → Setup → World I → List Event → World I → Type 0
Run children s old [] new = new ≡ old
Run children s old (e ∷ es) new = (mid : World _) × Step children s old e mid
    × Run children s mid es new

-- no event of the list is a Halt
abbrev pub NoHalt : List Event → Type 0
NoHalt [] = Unit {0}
NoHalt (e ∷ es) = ((p n : ℕ) → e ≢ Halt p n) × NoHalt es
