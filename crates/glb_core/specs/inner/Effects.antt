-- What an event does to the rows of its place and of its edge, but for the events that move or
-- expand items.
use Rattle.glb_rules.specs.Events.{edge_of}
use Rattle.std.specs.Prelude.{◌<◌, ◌≤◌, ◌≢◌, ◌≡◌, ◌⊎◌, List, length, get_or, ℕ, ◌+◌, ◌-◌, ◌^◌, min}
use Rattle.std.specs.Vec.{with_item}
use Rattle.rand_pcg.specs.Lcg.{next}
use Rattle.rand_pcg.specs.Pcg.{multiplier_64, output_xsh_rr}
use Rattle.glb_stats.specs.declared.counters.Counters.{Counters}
use Rattle.glb_rules.specs.Draws.{victim_of}
use Rattle.glb_rules.specs.Effects.{mark_after_look}
use Rattle.glb_rules.specs.declared.kinds.Kind.{Kind}
use Rattle.glb_rules.specs.declared.kinds.Kind.TheVariants as kind
use Rattle.glb_rules.specs.declared.kinds.Phase.TheVariants as phase
use Rattle.glb_rules.specs.declared.kinds.Credit.TheVariants as credit
use Rattle.glb_rules.specs.declared.kinds.Mark.TheVariants as mark
use Rattle.glb_rules.specs.declared.kinds.Edge.{Edge}
use Rattle.glb_rules.specs.declared.kinds.Edge.TheVariants as edge_state
use Rattle.glb_rules.specs.declared.event.Event.{Event}
use Rattle.glb_rules.specs.declared.event.Event.TheVariants.{Look, Batch, Ask, Deny, Mint, Give}
use Rattle.glb_rules.specs.declared.event.Event.TheVariants.{Take, Burn, Shrug, Sleep, Leave, Halt}
use Rattle.glb_core.specs.declared.world.rows.PlaceRow.{PlaceRow}
use Rattle.glb_core.specs.declared.world.rows.EdgeRow.{EdgeRow}
use Rattle.glb_core.specs.declared.world.rows.EdgeRow.TheVariants as edge_row
use Rattle.glb_core.specs.Tables.{mark_index, edge_index}

-- a count, or the last value of its type
abbrev pub capped : ℕ → ℕ
capped n = min n (2 ^ 64 - 1)

abbrev pub capped_wide : ℕ → ℕ
capped_wide n = min n (2 ^ 128 - 1)

-- the state of a edge's edge, without the part
abbrev pub row_state : {B : Type 0} → EdgeRow B → Edge
row_state edge_row.Idle = edge_state.Idle
row_state edge_row.Asked = edge_state.Asked
row_state edge_row.Refused = edge_state.Refused
row_state (edge_row.Loot b) = edge_state.Loot

-- the next word is drawn, and gives the next victim
abbrev pub with_next_victim : {B : Type 0} → ℕ → ℕ → PlaceRow B → PlaceRow B
with_next_victim n p r = record r {
  words = next 64 multiplier_64 r.words;
  victim = victim_of (output_xsh_rr r.words.state) n p;
}

abbrev pub place_row_after_ask : {B : Type 0} → ℕ → ℕ → ℕ → Kind → PlaceRow B → PlaceRow B
place_row_after_ask n p v kind.Steal r = with_next_victim n p (record r {
  phase = phase.Waiting v kind.Steal;
  tries = r.tries - 1;
  counters = record (r.counters) { asks = capped (r.counters.asks + 1) };
})
place_row_after_ask n p v kind.Line r = record r {
  phase = phase.Waiting v kind.Line;
  counters = record (r.counters) { line_asks = capped (r.counters.line_asks + 1) };
}

abbrev pub count_denied : Kind → Counters → Counters
count_denied kind.Steal c = record c { denied = capped (c.denied + 1) }
count_denied kind.Line c = c

abbrev pub count_shrug : Kind → Counters → Counters
count_shrug kind.Steal c = record c { shrugs = capped (c.shrugs + 1) }
count_shrug kind.Line c = c

-- the row of the place whose event it is, at one of n places
abbrev pub place_row_after : {B : Type 0} → ℕ → Event → EdgeRow B → PlaceRow B → PlaceRow B
place_row_after n (Look q t k) z r =
    record r { marks = with_item r.marks (mark_index n k t) (mark_after_look (row_state z)) }
place_row_after n (Batch p) z r = r
place_row_after n (Ask p v k) z r = place_row_after_ask n p v k r
place_row_after n (Deny q t k) z r = record r {
  marks = with_item r.marks (mark_index n k t) mark.Clear;
  counters = count_denied k r.counters;
}
place_row_after n (Mint q) z r = record r { credit = credit.Minted }
place_row_after n (Give q t k) z r = r
place_row_after n (Take p v k) z r = r
place_row_after n (Burn p) z r = record r { credit = credit.One }
place_row_after n (Shrug p v k) z r = record r
    { phase = phase.Idle; counters = count_shrug k r.counters }
place_row_after n (Sleep p) z r = record r {
  phase = phase.Asleep;
  credit = credit.Zero;
  counters = record (r.counters) { sleeps = capped (r.counters.sleeps + 1) };
}
place_row_after n (Leave p) z r = record r { phase = phase.Gone }
place_row_after n (Halt p c) z r = r

-- a refused steal request is given up, a line stays refused
abbrev pub edge_row_after_shrug : {B : Type 0} → Kind → EdgeRow B → EdgeRow B
edge_row_after_shrug kind.Steal z = edge_row.Idle
edge_row_after_shrug kind.Line z = z

-- the row of the edge that it names
abbrev pub edge_row_after : {B : Type 0} → Event → EdgeRow B → EdgeRow B
edge_row_after (Look q t k) z = z
edge_row_after (Batch p) z = z
edge_row_after (Ask p v k) z = edge_row.Asked
edge_row_after (Deny q t k) z = edge_row.Refused
edge_row_after (Mint q) z = z
edge_row_after (Give q t k) z = z
edge_row_after (Take p v k) z = z
edge_row_after (Burn p) z = z
edge_row_after (Shrug p v k) z = edge_row_after_shrug k z
edge_row_after (Sleep p) z = z
edge_row_after (Leave p) z = z
edge_row_after (Halt p c) z = z

-- where there is somebody else to ask
abbrev pub AsksAnother : ℕ → Event → Type 0
AsksAnother n (Ask p v k) = 2 ≤ n
AsksAnother n _ = Unit {0}

-- where the row of the edge is that the event names
abbrev pub named_edge_index : ℕ → Event → ℕ
named_edge_index n e = edge_index n (edge_of e).kind (edge_of e).thief (edge_of e).victim

-- the event moves and expands no items
abbrev pub IsSimple : Event → Type 0
IsSimple (Batch p) = ⊥
IsSimple (Give q t k) = ⊥
IsSimple (Take p v k) = ⊥
IsSimple _ = Unit {0}
