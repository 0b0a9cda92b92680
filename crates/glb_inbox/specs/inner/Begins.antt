-- The table at the start.
use Rattle.std.specs.Prelude.{ℕ, zero, suc, false, List, [], ◌∷◌, get_or, None}
use Rattle.glb_rules.specs.Joins.{join_to}
use Rattle.glb_rules.specs.World.{state_of}
use Rattle.glb_rules.specs.Events.{name_of}
use Rattle.glb_rules.specs.Setups.{has_items, tries_of}
use Rattle.glb_rules.specs.History.{first_edge}
use Rattle.glb_rules.specs.History.{first_local}
use Rattle.glb_rules.specs.declared.kinds.Kind.TheVariants as kind
use Rattle.glb_place.specs.declared.record.Record.{Record}
use Rattle.glb_place.specs.declared.record.KnownEdge.{KnownEdge}
use Rattle.glb_inbox.specs.declared.rule.Start.{Start}
use Rattle.glb_inbox.specs.declared.view.Seated.{Seated}
use Rattle.glb_inbox.specs.declared.view.Member.{Member}
use Rattle.glb_inbox.specs.declared.view.Member.TheVariants.{Place}
use Rattle.glb_inbox.specs.Viewing.{bag_lists}
use Rattle.glb_inbox.specs.inner.Rule.{Job, setup}

-- the lines of one thief to the victims below a number, as they are at the start, before other
-- edges
abbrev pub known_lines : {I : Type 0} → Job I → ℕ → ℕ → List KnownEdge → List KnownEdge
known_lines {I} j t zero rest = rest
known_lines {I} j t (suc n) rest =
    record {
      name = name_of kind.Line t n;
      edge = state_of (first_edge {I = I} (setup j) kind.Line t n);
    }
    ∷ known_lines j t n rest

-- the lines of all thieves below a number
abbrev pub known_below : {I : Type 0} → Job I → ℕ → List KnownEdge
known_below j zero = []
known_below j (suc t) = known_lines j t j.lines.places (known_below j t)

abbrev pub first_record : {I : Type 0} → Job I → (ℕ → List I) → ℕ → Record I
first_record j bags p = record {
  place = p;
  params = j.params;
  lines = j.lines;
  local = first_local (tries_of j.params) (bags p);
  known = known_below j j.lines.places;
  last = 0;
  over = false;
  code = 0;
}

abbrev pub first_seat : {I : Type 0} → Job I → (ℕ → List I) → ℕ → Seated I
first_seat j bags p = record {
  kept = first_record j bags p;
  before = None;
  rest = [];
  steps = 0;
  found = 0;
}

-- 1 for a place that has items
abbrev pub live_of : {I : Type 0} → List I → ℕ
live_of [] = 0
live_of (x ∷ xs) = 1

module _ {P B I : Type 0} (children : P → I → List I) (items : B → List I) where
  abbrev pub bags_of : Start P B → ℕ → List I
  bags_of key p = get_or (bag_lists items key.bags.items) p []

  abbrev pub job_of : Start P B → Job I
  job_of key = record {
    children = children key.program.value;
    lines = key.lines.value;
    params = key.params;
    awake = λ p. has_items (bags_of key p);
    roots = join_to key.lines.value.places (bags_of key);
  }

  -- a place each, in the order of their numbers
  abbrev pub first_members : Start P B → List (Member I)
  first_members key =
      join_to key.lines.value.places (λ p. Place (first_seat (job_of key) (bags_of key) p) ∷ [])
