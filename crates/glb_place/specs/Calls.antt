-- What the calls of a fabric ask for and answer.
use Rattle.std.specs.Prelude.{◌≡◌, ℕ, ◌<◌, Bool, true, false, cond, ◌&&◌, List, ◌++◌, length, IsPermutation}
use Rattle.glb_laws.specs.Expansion.{Moves, combined}
use Rattle.glb_rules.specs.World.{has_edge, mark_at}
use Rattle.glb_rules.specs.Events.{name_of}
use Rattle.glb_rules.specs.Decision.{is_mark}
use Rattle.glb_rules.specs.declared.kinds.Edge.{Edge}
use Rattle.glb_rules.specs.declared.kinds.Edge.TheVariants as seen
use Rattle.glb_rules.specs.declared.kinds.Kind.{Kind}
use Rattle.glb_rules.specs.declared.kinds.Kind.TheVariants as kind
use Rattle.glb_rules.specs.declared.kinds.Mark.{Mark}
use Rattle.glb_rules.specs.declared.kinds.Mark.TheVariants as mark
use Rattle.glb_rules.specs.declared.kinds.Phase.{Phase}
use Rattle.glb_rules.specs.declared.kinds.Phase.TheVariants as phase
use Rattle.glb_rules.specs.declared.kinds.Side.{Side}
use Rattle.glb_rules.specs.declared.kinds.Side.TheVariants as side
use Rattle.glb_rules.specs.declared.local.EdgeName.{EdgeName}
use Rattle.glb_place.specs.declared.record.Record.{Record}
use Rattle.glb_place.specs.Records.{setup_in, knows}
use Rattle.glb_place.specs.Rows.{known_row, mark_row, batch_row}

-- the edge between the place and the other one; inward the place is its victim
abbrev pub edge_with : ℕ → ℕ → Kind → Side → EdgeName
edge_with place other k side.Inward = name_of k other place
edge_with place other k side.Outward = name_of k place other

-- what a look may find where the place has this mark on the in-edge and the first state was known:
-- what others can have done meanwhile
abbrev pub CanFind : Mark → Kind → Side → Edge → Edge → Type 0
CanFind m k side.Inward seen.Idle seen.Idle = Unit {0}
CanFind m k side.Inward seen.Idle seen.Asked = Unit {0}
CanFind m k side.Inward seen.Loot seen.Loot = Unit {0}
CanFind m k side.Inward seen.Loot seen.Idle = Unit {0}
CanFind m k side.Inward seen.Loot seen.Asked = Unit {0}
CanFind m kind.Steal side.Inward seen.Refused seen.Idle = Unit {0}
CanFind m kind.Steal side.Inward seen.Refused seen.Asked = Unit {0}
CanFind m k side.Inward seen.Asked seen.Asked = Unit {0}
CanFind m k side.Inward seen.Refused seen.Refused = Unit {0}
CanFind m k side.Outward seen.Idle seen.Idle = Unit {0}
CanFind m k side.Outward seen.Asked seen.Asked = Unit {0}
CanFind m k side.Outward seen.Asked seen.Refused = Unit {0}
CanFind m k side.Outward seen.Asked seen.Loot = Unit {0}
CanFind m k side.Outward seen.Refused seen.Refused = Unit {0}
CanFind m kind.Line side.Outward seen.Refused seen.Loot = Unit {0}
CanFind m k side.Outward seen.Loot seen.Loot = Unit {0}
CanFind m k _ _ _ = ⊥

-- what a look of the place at its edge with the other one may find
abbrev pub MayFind : {I : Type 0} → Record I → ℕ → Kind → Side → Edge → Type 0
MayFind r other k s x =
    CanFind (mark_at r.local.marks k other) k s (knows r (edge_with r.place other k s)) x

-- the place works
abbrev pub is_working : Phase → Bool
is_working phase.Working = true
is_working phase.Idle = false
is_working (phase.Waiting v k) = false
is_working phase.Asleep = false
is_working phase.Gone = false

-- the place is the edge's victim
abbrev pub is_inward : Side → Bool
is_inward side.Inward = true
is_inward side.Outward = false

-- a look moves the mark where it is inward, the place is Working and the mark is Unseen
abbrev pub look_row : {I : Type 0} → ℕ → Kind → Side → Edge → Record I → Record I
look_row other k s x r =
    cond
    (is_inward s
    && (is_working r.local.phase && is_mark mark.Unseen (mark_at r.local.marks k other)))
    (mark_row other k x r)
    (known_row (edge_with r.place other k s) x r)

-- the edge with the other place is there
abbrev pub IsOwn : {I : Type 0} → Record I → ℕ → Kind → Side → Type 0
IsOwn r other k s =
    (other < r.lines.places)
    × (has_edge (setup_in r) k (edge_with r.place other k s).thief
    (edge_with r.place other k s).victim
    ≡ true)

-- `done` moves lead from the record's items to these; the record gained the items that such moves
-- take, and their values combine to the gain
abbrev pub Settles : {I V : Type 0} → (I → List I) → (I → V) → V → (V → V → V) → ℕ → List I → V → ℕ
    → Record I → Record I → Type 0
Settles {I = I} children value unit combine done items gain total old new =
    (taken : List I) × (length taken ≡ done) × Moves children old.local.bag taken items
    × (gain ≡ combined value combine unit taken) × (new ≡ batch_row total taken items old)

-- the record has the items of the part and at least one more
abbrev pub HasMore : {I : Type 0} → List I → Record I → Type 0
HasMore {I = I} part r =
    (rest : List I) × IsPermutation r.local.bag (part ++ rest) × (0 < length rest)

-- the record gave the part, by this row, and keeps the rest
abbrev pub Gives : {I : Type 0} → (List I → List I → Record I → Record I) → List I → Record I
    → Record I
    → Type 0
Gives {I = I} row part old new =
    (rest : List I) × IsPermutation old.local.bag (part ++ rest) × (0 < length rest)
    × (new ≡ row part rest old)

-- the fabric is of the same program, has the same home and refuses as before
pub record SameObject {F H Q : Type 0} (program : F → Q) (home : F → H) (refuses : F → Bool)
    (old new : F) : Type 0 where
  pub program_stays : program new ≡ program old
  pub home_stays : home new ≡ home old
  pub refuses_stays : refuses new ≡ refuses old
