-- The invariant: what holds of every world that events reach.
use Rattle.std.specs.Prelude.{◌≡◌, ◌≢◌, ℕ, ◌+◌, ◌*◌, ◌^◌, ◌≤◌, ◌<◌, true, false, not, cond, ◌⊎◌}
use Rattle.std.specs.Prelude.{List, ◌++◌, length}
use Rattle.glb_laws.specs.Expansion.{Expansion}
use Rattle.glb_laws.specs.Sums.{sum_to}
use Rattle.glb_rules.specs.Joins.{join_to}
use Rattle.glb_rules.specs.World.{WorldEdge, Idle, Asked, Loot, Setup, World, has_edge, has_line}
use Rattle.glb_rules.specs.World.{mark_at, waits_on, IsArmed, credit_count, loot_count, asked_count}
use Rattle.glb_rules.specs.World.{busy_count, idle_count, units, loot_of}
use Rattle.glb_rules.specs.Steps.{IsWanted}
use Rattle.glb_rules.specs.Setups.{bit, degree}
use Rattle.glb_rules.specs.declared.kinds.Kind.{Kind}
use Rattle.glb_rules.specs.declared.kinds.Kind.TheVariants as kind
use Rattle.glb_rules.specs.declared.kinds.Phase.{Phase}
use Rattle.glb_rules.specs.declared.kinds.Phase.TheVariants as phase
use Rattle.glb_rules.specs.declared.kinds.Credit.{Credit}
use Rattle.glb_rules.specs.declared.kinds.Credit.TheVariants as credit
use Rattle.glb_rules.specs.declared.kinds.Mark.TheVariants as mark
use Rattle.glb_rules.specs.declared.local.Local.{Local}

-- phase, credit and the number of items in the bag go together
abbrev pub PhaseFits : Phase → Credit → ℕ → Type 0
PhaseFits phase.Working c n = (0 < n) × (c ≢ credit.Zero)
PhaseFits phase.Idle c n = (n ≡ 0) × (c ≡ credit.One)
PhaseFits (phase.Waiting v k) c n = (n ≡ 0) × (c ≡ credit.One)
PhaseFits phase.Asleep c n = (n ≡ 0) × (c ≡ credit.Zero)
PhaseFits phase.Gone c n = c ≡ credit.Zero → n ≡ 0

-- the number where the phase is Idle or Waiting, else 0
abbrev pub at_rest : Phase → ℕ → ℕ
at_rest phase.Working n = 0
at_rest phase.Idle n = n
at_rest (phase.Waiting v k) n = n
at_rest phase.Asleep n = 0
at_rest phase.Gone n = 0

-- 1 for the credit Zero, else 0
abbrev pub no_credit : Credit → ℕ
no_credit credit.Zero = 1
no_credit credit.One = 0
no_credit credit.Minted = 0
no_credit credit.Taken = 0

-- what the local state of one place keeps by itself
pub record Inner {I : Type 0} (s : Setup) (p : ℕ) (a : Local I) : Type 0 where
  pub fits : PhaseFits a.phase a.credit (length a.bag)
  pub tries : a.tries ≤ s.tries
  pub items : a.count.items ≡ length a.done
  pub naps : a.count.sleeps + bit (not (s.awake p)) ≡ a.count.wakes + no_credit a.credit
  pub asks : a.count.asks + at_rest a.phase a.tries ≤ s.tries * a.count.items
  pub sent : a.count.sent_units ≤ 2 ^ 64 * (a.count.given + a.count.line_given)
  pub wakes : a.count.wakes ≤ a.count.line_got
  -- the place waited on is there
  pub near : (v : ℕ) (k : Kind) → a.phase ≡ phase.Waiting v k → v < s.places
  -- a place that is Idle, Waiting or Asleep has nothing Pending
  pub unmarked : (k : Kind) (t : ℕ) → a.phase ≢ phase.Working → a.phase ≢ phase.Gone
      → mark_at a.marks k t ≢ mark.Pending

-- what an edge keeps with the local state of its thief
pub record ThiefSide {I : Type 0} (s : Setup) (k : Kind) (t v : ℕ)
    (a : Local I) (e : WorldEdge I) : Type 0 where
  -- an edge that is not there is Idle
  pub there : has_edge s k t v ≡ false → e ≡ Idle
  pub steal : k ≡ kind.Steal → a.phase ≢ phase.Gone → waits_on k v a.phase ≡ false → e ≡ Idle
  pub waited : waits_on k v a.phase ≡ true → e ≢ Idle
  pub line : k ≡ kind.Line → e ≡ Asked → (waits_on k v a.phase ≡ true) ⊎ (a.phase ≡ phase.Gone)
  pub armed : a.credit ≡ credit.Zero → k ≡ kind.Line → has_edge s k t v ≡ true → IsArmed e
  pub quiet : a.credit ≡ credit.Zero → k ≡ kind.Steal → e ≡ Idle
  pub loot : (xs : List I) → e ≡ Loot xs → 0 < length xs

-- what an edge keeps with the local state of its victim
pub record VictimSide {I : Type 0} (s : Setup) (k : Kind) (t v : ℕ)
    (a : Local I) (e : WorldEdge I) : Type 0 where
  pub pending : mark_at a.marks k t ≡ mark.Pending → e ≡ Asked
  -- an edge that is not there has no mark
  pub unseen : has_edge s k t v ≡ false → mark_at a.marks k t ≡ mark.Unseen

-- a number for each edge of this kind whose thief is p, added up
abbrev pub sum_of_own_edges : {I : Type 0} → Setup → World I → Kind → ℕ → (WorldEdge I → ℕ) → ℕ
sum_of_own_edges s w k p g = sum_to s.places (λ v. g (w.edge k p v))

-- the number of p's lines that are Idle
abbrev pub idle_lines_of : {I : Type 0} → Setup → World I → ℕ → ℕ
idle_lines_of s w p = sum_to s.places
    (λ v. cond (has_line s p v) (idle_count (w.edge kind.Line p v)) 0)

-- the number of p's lines that were Refused at the start
abbrev pub armed_at_start : Setup → ℕ → ℕ
armed_at_start s p = cond (s.awake p) 0 (degree s p)

-- what a place keeps with its own edges: how many steal edges are not Idle, how many lines are not,
-- and how many are
pub record Counted {I : Type 0} (s : Setup) (p : ℕ) (a : Local I)
    (steal_count line_count free_count : ℕ) : Type 0 where
  pub asks : a.count.asks ≡ a.count.shrugs + a.count.got + steal_count
  pub lines : armed_at_start s p + a.count.line_asks ≡ a.count.line_got + line_count
  pub line_asks : a.count.line_asks + at_rest a.phase free_count ≤ degree s p * a.count.items

-- a number for each edge of this kind, added up
abbrev pub sum_of_edges : {I : Type 0} → Setup → World I → Kind → (WorldEdge I → ℕ) → ℕ
sum_of_edges s w k g = sum_to s.places (λ t. sum_of_own_edges s w k t g)

-- a number for each place, added up
abbrev pub sum_of_places : {I : Type 0} → Setup → World I → (Local I → ℕ) → ℕ
sum_of_places s w f = sum_to s.places (λ p. f (w.place p))

-- what all places and edges keep together
pub record Sums {I : Type 0} (s : Setup) (w : World I) : Type 0 where
  -- live is the sum of all credits and the number of parts that travel
  pub live :
      w.live ≡ sum_of_places s w (λ a. credit_count a.credit)
      + sum_of_edges s w kind.Steal loot_count + sum_of_edges s w kind.Line loot_count
  pub asks :
      sum_of_places s w (λ a. a.count.asks)
      ≡ sum_of_places s w (λ a. a.count.denied + a.count.given)
      + sum_of_edges s w kind.Steal asked_count
  pub given :
      sum_of_places s w (λ a. a.count.given) ≡ sum_of_places s w (λ a. a.count.got)
      + sum_of_edges s w kind.Steal loot_count
  pub line_given :
      sum_of_places s w (λ a. a.count.line_given)
      ≡ sum_of_places s w (λ a. a.count.line_got) + sum_of_edges s w kind.Line loot_count
  pub units :
      sum_of_places s w (λ a. a.count.sent_units)
      ≡ sum_of_places s w (λ a. a.count.got_units) + sum_of_edges s w kind.Steal units
      + sum_of_edges s w kind.Line units

-- a Working place that has minted has something to give, and somebody wants it
abbrev pub CanGive : {I : Type 0} → Setup → World I → ℕ → Type 0
CanGive s w q =
    (w.place q).phase ≡ phase.Working → (w.place q).credit ≡ credit.Minted
    → (1 < length (w.place q).bag) × IsWanted s w q

-- all of the invariant but that the items done and left are an expansion
pub record IsLawful {I : Type 0} (s : Setup) (w : World I) : Type 0 where
  pub inner : (p : ℕ) → p < s.places → Inner s p (w.place p)
  -- until a Halt, a place is Gone only where live is 0
  pub gone : (p : ℕ) → p < s.places → (w.place p).phase ≡ phase.Gone → w.stop ≡ 0 → w.live ≡ 0
  pub thief : (k : Kind) (t v : ℕ) → t < s.places → v < s.places
      → ThiefSide s k t v (w.place t) (w.edge k t v)
  pub victim : (k : Kind) (t v : ℕ) → t < s.places → v < s.places
      → VictimSide s k t v (w.place v) (w.edge k t v)
  pub can_give : (q : ℕ) → q < s.places → CanGive s w q
  pub counted : (p : ℕ) → p < s.places
      → Counted s p (w.place p) (sum_of_own_edges s w kind.Steal p busy_count)
      (sum_of_own_edges s w kind.Line p busy_count) (idle_lines_of s w p)
  pub sums : Sums s w

-- all items done
abbrev pub all_done : {I : Type 0} → Setup → World I → List I
all_done s w = join_to s.places (λ p. (w.place p).done)

-- all items of parts that travel on edges of this kind
abbrev pub travelling : {I : Type 0} → Setup → World I → Kind → List I
travelling s w k = join_to s.places (λ t. join_to s.places (λ v. loot_of (w.edge k t v)))

-- all items in bags or travelling
abbrev pub all_left : {I : Type 0} → Setup → World I → List I
all_left s w =
    join_to s.places (λ p. (w.place p).bag) ++
    (travelling s w kind.Steal ++ travelling s w kind.Line)

-- the whole invariant of a world that began with the items `roots`
abbrev pub IsLawfulFrom : {I : Type 0} → (I → List I) → List I → Setup → World I → Type 0
IsLawfulFrom children roots s w =
    IsLawful s w × Expansion children roots (all_done s w) (all_left s w)
