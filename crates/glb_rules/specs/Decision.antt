-- The decision of a place: of the table's lines the first that applies.
use Rattle.std.specs.Prelude.{◌≡◌, ℕ, Bool, true, false, not, cond, ◌&&◌, ◌||◌, ◌==◌, nat_lt, List}
use Rattle.std.specs.Prelude.{[], ◌∷◌, Option, Some, None}
use Rattle.glb_rules.specs.Sight.{Sight, IsIn}
use Rattle.glb_rules.specs.declared.kinds.Kind.{Kind}
use Rattle.glb_rules.specs.declared.kinds.Kind.TheVariants as kind
use Rattle.glb_rules.specs.declared.kinds.Phase.{Phase}
use Rattle.glb_rules.specs.declared.kinds.Phase.TheVariants as phase
use Rattle.glb_rules.specs.declared.kinds.Credit.{Credit}
use Rattle.glb_rules.specs.declared.kinds.Credit.TheVariants as credit
use Rattle.glb_rules.specs.declared.kinds.Mark.{Mark}
use Rattle.glb_rules.specs.declared.kinds.Mark.TheVariants as mark
use Rattle.glb_rules.specs.declared.kinds.Edge.{Edge}
use Rattle.glb_rules.specs.declared.kinds.Edge.TheVariants as edge_state
use Rattle.glb_rules.specs.declared.place_state.PlaceState.{PlaceState}
use Rattle.glb_rules.specs.declared.edges.InEdge.{InEdge}
use Rattle.glb_rules.specs.declared.edges.OutEdge.{OutEdge}
use Rattle.glb_rules.specs.declared.event.Event.TheVariants.{Look, Batch, Ask, Deny, Mint, Give}
use Rattle.glb_rules.specs.declared.event.Event.TheVariants.{Take, Burn, Shrug, Sleep, Leave}
use Rattle.glb_rules.specs.declared.event.Action.{Action}
use Rattle.glb_rules.specs.declared.event.Action.TheVariants.{Do, Poll}

-- the first member that passes
abbrev pub first : {A : Type 0} → (A → Bool) → List A → Option A
first f [] = None
first f (x ∷ xs) = cond (f x) (Some x) (first f xs)

-- what is done with the member, or the rest of the table where there is none
abbrev pub or_else : {A B : Type 0} → Option A → (A → B) → B → B
or_else None f b = b
or_else (Some x) f b = f x

-- the marks are the same
abbrev pub is_mark : Mark → Mark → Bool
is_mark mark.Unseen mark.Unseen = true
is_mark mark.Unseen mark.Clear = false
is_mark mark.Unseen mark.Pending = false
is_mark mark.Clear mark.Unseen = false
is_mark mark.Clear mark.Clear = true
is_mark mark.Clear mark.Pending = false
is_mark mark.Pending mark.Unseen = false
is_mark mark.Pending mark.Clear = false
is_mark mark.Pending mark.Pending = true

-- the states are the same
abbrev pub is_state : Edge → Edge → Bool
is_state edge_state.Idle edge_state.Idle = true
is_state edge_state.Asked edge_state.Asked = true
is_state edge_state.Refused edge_state.Refused = true
is_state edge_state.Loot edge_state.Loot = true
is_state _ _ = false

-- the edge is a lifeline
abbrev pub is_line : Kind → Bool
is_line kind.Steal = false
is_line kind.Line = true

-- the place has not looked at the in-edge
abbrev pub is_unseen : InEdge → Bool
is_unseen x = is_mark mark.Unseen x.mark

-- the place found a request on the in-edge
abbrev pub is_pending : InEdge → Bool
is_pending x = is_mark mark.Pending x.mark

-- there is a request on the in-edge
abbrev pub is_asked : InEdge → Bool
is_asked x = is_state edge_state.Asked x.edge

-- the request on the line is remembered
abbrev pub is_remembered : InEdge → Bool
is_remembered x = is_line x.kind && is_state edge_state.Refused x.edge

-- somebody wants work over the in-edge
abbrev pub is_wanted : InEdge → Bool
is_wanted x = is_pending x || is_remembered x

-- a part waits on the line
abbrev pub has_loot : OutEdge → Bool
has_loot y = is_state edge_state.Loot y.edge

-- the line is Idle
abbrev pub is_idle : OutEdge → Bool
is_idle y = is_state edge_state.Idle y.edge

-- Working, where each in-edge was looked at: with two items, and an in-edge over which somebody wants
-- work, Mint; else Deny the first Pending one; else Batch
abbrev pub working_action : PlaceState → Sight → Action
working_action a z =
    or_else (cond (nat_lt 1 a.size) (first is_wanted z.ins) None) (λ x. Do (Mint a.place))
    (or_else (first is_pending z.ins) (λ x. Do (Deny a.place x.thief x.kind)) (Do (Batch a.place)))

-- Waiting: what is done about the edge waited on, in this state
abbrev pub waiting_action : PlaceState → ℕ → Kind → Edge → Action
waiting_action a v k edge_state.Idle = Poll
waiting_action a v k edge_state.Asked = Poll
waiting_action a v k edge_state.Refused = Do (Shrug a.place v k)
waiting_action a v k edge_state.Loot = Do (Take a.place v k)

-- Take from the first line with Loot, or else the rest
abbrev pub take_or : PlaceState → Sight → Action → Action
take_or a z rest = or_else (first has_loot z.outs) (λ y. Do (Take a.place y.victim kind.Line)) rest

-- Idle, where no line has Loot: Ask a random victim while tries are left, else the first Idle line, else
-- Sleep
abbrev pub idle_action : PlaceState → Sight → Action
idle_action a z =
    cond (nat_lt 0 a.tries) (Do (Ask a.place a.victim kind.Steal))
    (or_else (first is_idle z.outs) (λ y. Do (Ask a.place y.victim kind.Line)) (Do (Sleep a.place)))

-- not Working, where no in-edge is Asked
abbrev pub resting_action : Phase → PlaceState → Sight → Action
resting_action phase.Working a z = Poll
resting_action phase.Idle a z = take_or a z (idle_action a z)
resting_action (phase.Waiting v k) a z = waiting_action a v k z.waited
resting_action phase.Asleep a z = take_or a z Poll
resting_action phase.Gone a z = Poll

-- Deny the first in-edge that is Asked, or else the rest
abbrev pub deny_or : PlaceState → Sight → Action → Action
deny_or a z rest = or_else (first is_asked z.ins) (λ x. Do (Deny a.place x.thief x.kind)) rest

-- with a credit that counts the place alone, or none: Working, Look at the first Unseen in-edge, else
-- what a Working place does; in every other phase deny first
abbrev pub by_phase : Phase → PlaceState → Sight → Action
by_phase phase.Working a z =
    or_else (first is_unseen z.ins) (λ x. Do (Look a.place x.thief x.kind)) (working_action a z)
by_phase phase.Idle a z = deny_or a z (resting_action phase.Idle a z)
by_phase (phase.Waiting v k) a z = deny_or a z (resting_action (phase.Waiting v k) a z)
by_phase phase.Asleep a z = deny_or a z (resting_action phase.Asleep a z)
by_phase phase.Gone a z = deny_or a z (resting_action phase.Gone a z)

-- with credit Taken Burn; with credit Minted Give on the first in-edge over which somebody wants work
abbrev pub by_credit : Credit → PlaceState → Sight → Action
by_credit credit.Zero a z = by_phase a.phase a z
by_credit credit.One a z = by_phase a.phase a z
by_credit credit.Minted a z = or_else (first is_wanted z.ins)
    (λ x. Do (Give a.place x.thief x.kind)) Poll
by_credit credit.Taken a z = Do (Burn a.place)

-- after a Halt, and where live was read as 0, Leave
abbrev pub decide : PlaceState → Sight → Action
decide a z = cond (not (z.stop == 0) || z.ended) (Do (Leave a.place)) (by_credit a.credit a z)

-- a place that has minted sees somebody to give to
abbrev pub MintedSeesWant : PlaceState → Sight → Type 0
MintedSeesWant a z = a.credit ≡ credit.Minted → (x : InEdge) × IsIn x z.ins × (is_wanted x ≡ true)
