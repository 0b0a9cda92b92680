-- What an event does to the one place, the one edge and the two numbers that it may change.
use Rattle.std.specs.Prelude.{ℕ, ◌+◌, ◌-◌, max, List, [], ◌∷◌, ◌++◌, length}
use Rattle.glb_rules.specs.World.{WorldEdge, Idle, Asked, Refused, Loot, Setup, World, put_mark}
use Rattle.glb_rules.specs.World.{state_of, units_of}
use Rattle.glb_rules.specs.Events.{actor, edge_of}
use Rattle.glb_rules.specs.declared.kinds.Kind.{Kind}
use Rattle.glb_rules.specs.declared.kinds.Kind.TheVariants as kind
use Rattle.glb_rules.specs.declared.kinds.Phase.{Phase}
use Rattle.glb_rules.specs.declared.kinds.Phase.TheVariants as phase
use Rattle.glb_rules.specs.declared.kinds.Credit.{Credit}
use Rattle.glb_rules.specs.declared.kinds.Credit.TheVariants as credit
use Rattle.glb_rules.specs.declared.kinds.Mark.{Mark}
use Rattle.glb_rules.specs.declared.kinds.Mark.TheVariants as mark
use Rattle.glb_rules.specs.declared.kinds.Edge.{Edge}
use Rattle.glb_rules.specs.declared.kinds.Edge.TheVariants as edge_state
use Rattle.glb_rules.specs.declared.local.Local.{Local}
use Rattle.glb_rules.specs.declared.event.Event.{Event}
use Rattle.glb_rules.specs.declared.event.Event.TheVariants.{Look, Batch, Ask, Deny, Mint, Give}
use Rattle.glb_rules.specs.declared.event.Event.TheVariants.{Take, Burn, Shrug, Sleep, Leave, Halt}

-- all that one event may change
pub record Change (I : Type 0) : Type 0 where
  pub place : Local I
  pub edge : WorldEdge I
  pub live : ℕ
  pub stop : ℕ

-- what the event may change, as it is in the world
abbrev pub touched : {I : Type 0} → World I → Event → Change I
touched w e = record {
  place = w.place (actor e);
  edge = w.edge (edge_of e).kind (edge_of e).thief (edge_of e).victim;
  live = w.live;
  stop = w.stop;
}

-- the mark that a look leaves
abbrev pub mark_after_look : Edge → Mark
mark_after_look edge_state.Idle = mark.Clear
mark_after_look edge_state.Asked = mark.Pending
mark_after_look edge_state.Refused = mark.Clear
mark_after_look edge_state.Loot = mark.Clear

-- the credit of a place that took a part
abbrev pub credit_after_take : Credit → Credit
credit_after_take credit.Zero = credit.One
credit_after_take credit.One = credit.Taken
credit_after_take credit.Minted = credit.Minted
credit_after_take credit.Taken = credit.Taken

-- 1 for a place that sleeps
abbrev pub wake_count : Phase → ℕ
wake_count phase.Working = 0
wake_count phase.Idle = 0
wake_count (phase.Waiting v k) = 0
wake_count phase.Asleep = 1
wake_count phase.Gone = 0

-- a batch that leaves no item leaves the place Idle
abbrev pub phase_after_batch : {I : Type 0} → List I → Phase
phase_after_batch [] = phase.Idle
phase_after_batch (x ∷ xs) = phase.Working

-- and gives it its tries again
abbrev pub tries_after : {I : Type 0} → ℕ → ℕ → List I → ℕ
tries_after most n [] = most
tries_after most n (x ∷ xs) = n

-- the first number for a steal, the second for a line
abbrev pub of_kind : Kind → ℕ → ℕ → ℕ
of_kind kind.Steal a b = a
of_kind kind.Line a b = b

-- a request to a random victim uses up a try
abbrev pub after_ask : Kind → ℕ → ℕ
after_ask kind.Steal n = n - 1
after_ask kind.Line n = n

-- a refused request to a random victim is given up, one over a lifeline stays remembered
abbrev pub after_shrug : {I : Type 0} → Kind → WorldEdge I → WorldEdge I
after_shrug kind.Steal e = Idle
after_shrug kind.Line e = e

-- The event's effect on the local state of the place whose event it is. `most` is the tries of the setup.
-- `taken` are the items that are expanded, given or taken, and `rest` is the bag afterwards;
-- `found` is the state in which the event found its edge.
abbrev pub place_after : {I : Type 0} → ℕ → Event → List I → List I → Edge → Local I → Local I
place_after most (Look q t k) taken rest found a = record a {
  marks = put_mark a.marks k t
      (mark_after_look found);
}
place_after most (Batch p) taken rest found a =
    record a {
      phase = phase_after_batch rest;
      tries = tries_after most a.tries rest;
      bag = rest;
      marks = [];
      done = a.done ++ taken;
      count = record (a.count) { items = a.count.items + length taken };
    }
place_after most (Ask p v k) taken rest found a =
    record a {
      phase = phase.Waiting v k;
      tries = after_ask k a.tries;
      count = record (a.count) {
        asks = a.count.asks + of_kind k 1 0;
        line_asks = a.count.line_asks + of_kind k 0 1;
      };
    }
place_after most (Deny q t k) taken rest found a =
    record a {
      marks = put_mark a.marks k t mark.Clear;
      count = record (a.count) { denied = a.count.denied + of_kind k 1 0 };
    }
place_after most (Mint q) taken rest found a = record a { credit = credit.Minted }
place_after most (Give q t k) taken rest found a =
    record a {
      credit = credit.One;
      bag = rest;
      marks = put_mark a.marks k t mark.Clear;
      count = record (a.count) {
        given = a.count.given + of_kind k 1 0;
        line_given = a.count.line_given + of_kind k 0 1;
        sent_units = a.count.sent_units + units_of taken;
      };
    }
place_after most (Take p v k) taken rest found a =
    record a {
      phase = phase.Working;
      credit = credit_after_take a.credit;
      bag = rest;
      count = record (a.count) {
        got = a.count.got + of_kind k 1 0;
        line_got = a.count.line_got + of_kind k 0 1;
        got_units = a.count.got_units + units_of taken;
        wakes = a.count.wakes + wake_count a.phase;
      };
    }
place_after most (Burn p) taken rest found a = record a { credit = credit.One }
place_after most (Shrug p v k) taken rest found a =
    record a {
      phase = phase.Idle;
      count = record (a.count) { shrugs = a.count.shrugs + of_kind k 1 0 };
    }
place_after most (Sleep p) taken rest found a =
    record a {
      phase = phase.Asleep;
      credit = credit.Zero;
      count = record (a.count) { sleeps = a.count.sleeps + 1 };
    }
place_after most (Leave p) taken rest found a = record a { phase = phase.Gone }
place_after most (Halt p c) taken rest found a = a

-- its effect on the edge that it names
abbrev pub edge_after : {I : Type 0} → Event → List I → WorldEdge I → WorldEdge I
edge_after (Ask p v k) taken e = Asked
edge_after (Deny q t k) taken e = Refused
edge_after (Give q t k) taken e = Loot taken
edge_after (Take p v k) taken e = Idle
edge_after (Shrug p v k) taken e = after_shrug k e
edge_after _ taken e = e

-- on live, the number of credits and of parts that travel
abbrev pub live_after : Event → ℕ → ℕ
live_after (Mint q) n = n + 1
live_after (Burn p) n = n - 1
live_after (Sleep p) n = n - 1
live_after _ n = n

-- and on the stop code
abbrev pub stop_after : Event → ℕ → ℕ
stop_after (Halt p c) n = max n c
stop_after _ n = n

-- what the event makes of all that it may change
abbrev pub after : {I : Type 0} → Setup → Event → List I → List I → Change I → Change I
after s e taken rest a = record {
  place = place_after s.tries e taken rest (state_of a.edge) a.place;
  edge = edge_after e taken a.edge;
  live = live_after e a.live;
  stop = stop_after e a.stop;
}
