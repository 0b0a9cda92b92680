-- A number that rises with each event but Halt.
use Rattle.std.specs.Prelude.{ℕ, ◌+◌, ◌-◌, ◌*◌}
use Rattle.glb_laws.specs.Sums.{sum_to}
use Rattle.glb_rules.specs.World.{WorldEdge, Idle, Asked, Refused, Loot, Setup, World, mark_at}
use Rattle.glb_rules.specs.Lawful.{sum_of_edges, sum_of_places}
use Rattle.glb_rules.specs.declared.kinds.Kind.TheVariants as kind
use Rattle.glb_rules.specs.declared.kinds.Phase.{Phase}
use Rattle.glb_rules.specs.declared.kinds.Phase.TheVariants as phase
use Rattle.glb_rules.specs.declared.kinds.Credit.{Credit}
use Rattle.glb_rules.specs.declared.kinds.Credit.TheVariants as credit
use Rattle.glb_rules.specs.declared.kinds.Mark.{Mark}
use Rattle.glb_rules.specs.declared.kinds.Mark.TheVariants as mark
use Rattle.glb_rules.specs.declared.local.Local.{Local}

-- a mark's share: a look raises it, and no answer lowers it
abbrev pub mark_rank : Mark → ℕ
mark_rank mark.Unseen = 0
mark_rank mark.Pending = 1
mark_rank mark.Clear = 2

-- a phase's share: who waits on a line has still to give it up or to take a part
abbrev pub phase_rank : Phase → ℕ
phase_rank phase.Working = 1
phase_rank phase.Idle = 1
phase_rank (phase.Waiting v kind.Steal) = 1
phase_rank (phase.Waiting v kind.Line) = 0
phase_rank phase.Asleep = 1
phase_rank phase.Gone = 2

-- a credit's share: a credit is minted, handed over, taken and returned
abbrev pub credit_rank : Credit → ℕ
credit_rank credit.Zero = 1
credit_rank credit.One = 1
credit_rank credit.Minted = 2
credit_rank credit.Taken = 0

-- a steal edge's share: a request is made and answered
abbrev pub steal_rank : {I : Type 0} → WorldEdge I → ℕ
steal_rank Idle = 0
steal_rank Asked = 1
steal_rank Refused = 2
steal_rank (Loot xs) = 2

-- a line's share: the same, but a refused request is still answered
abbrev pub line_rank : {I : Type 0} → WorldEdge I → ℕ
line_rank Idle = 0
line_rank Asked = 2
line_rank Refused = 3
line_rank (Loot xs) = 4

-- the shares of all marks of a place
abbrev pub marks_rank : {I : Type 0} → Setup → Local I → ℕ
marks_rank s a =
    sum_to s.places (λ t. mark_rank (mark_at a.marks kind.Steal t))
    + sum_to s.places (λ t. mark_rank (mark_at a.marks kind.Line t))

-- the marks of a place rank at most this
abbrev pub marks_most : Setup → ℕ
marks_most s = 2 * (s.places - 1) + 2 * s.dimension

-- a place's share: its marks are forgotten at a batch, whose items outweigh them
abbrev pub place_rank : {I : Type 0} → Setup → Local I → ℕ
place_rank s a =
    (marks_most s + 1) * a.count.items + marks_rank s a + 3 * a.count.shrugs
    + 4 * a.count.got + 6 * a.count.line_got + a.count.given + a.count.line_given + a.count.sleeps
    + phase_rank a.phase + credit_rank a.credit

-- the shares of all places and edges
abbrev pub rank : {I : Type 0} → Setup → World I → ℕ
rank s w = sum_of_places s w (place_rank s) + sum_of_edges s w kind.Steal steal_rank + sum_of_edges s w kind.Line line_rank
