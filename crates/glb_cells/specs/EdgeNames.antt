-- The edges of a run as one list: an edge's number is its place in it.
use mathlib.Core.Option.{some}
use lib.ListN.{get_elem?}
use Rattle.std.specs.Prelude.{◌≡◌, ℕ, ◌<◌, true, cond, ◌==◌, List, [], ◌∷◌, ◌++◌, map}
use Rattle.glb_rules.specs.Joins.{join_to}
use Rattle.glb_rules.specs.World.{WorldEdge, Idle, Setup, has_edge}
use Rattle.glb_rules.specs.Events.{same_name, name_of}
use Rattle.glb_rules.specs.declared.kinds.Kind.{Kind}
use Rattle.glb_rules.specs.declared.kinds.Kind.TheVariants as kind
use Rattle.glb_rules.specs.declared.local.EdgeName.{EdgeName}

-- the state that stands beside the edge's name; Idle for an edge that has none
abbrev pub at_name : {I : Type 0} → List EdgeName → List (WorldEdge I) → Kind → ℕ → ℕ → WorldEdge I
at_name [] es k t v = Idle
at_name (n ∷ ns) [] k t v = Idle
at_name (n ∷ ns) (e ∷ es) k t v = cond (same_name n k t v) e (at_name ns es k t v)

-- the steal edge between two places, where they are different
abbrev pub steal_name : ℕ → ℕ → List EdgeName
steal_name t v = cond (t == v) [] (name_of kind.Steal t v ∷ [])

-- the steal edges of a thief, by rising victim
abbrev pub steals_of : Setup → ℕ → List EdgeName
steals_of s t = join_to s.places (steal_name t)

-- the lines of a thief, by rising dimension
abbrev pub lines_of : Setup → ℕ → List EdgeName
lines_of s t = map (name_of kind.Line t) (s.outs t)

-- the steal edges by thief and then victim, then the lines by thief and then dimension
abbrev pub names : Setup → List EdgeName
names s = join_to s.places (steals_of s) ++ join_to s.places (lines_of s)

-- no name stands twice
abbrev pub NamesOnce : List EdgeName → Type 0
NamesOnce ns = (i j : ℕ) (n : EdgeName) → get_elem? ns i ≡ some n → get_elem? ns j ≡ some n → i ≡ j

-- the list names each edge that is there once, and no other
pub record NamesEdges (s : Setup) (ns : List EdgeName) : Type 0 where
  pub once : NamesOnce ns
  pub there : (i : ℕ) (n : EdgeName) → get_elem? ns i ≡ some n
      → (n.thief < s.places) × (n.victim < s.places) × (has_edge s n.kind n.thief n.victim ≡ true)
  pub all : (k : Kind) (t v : ℕ) → t < s.places → v < s.places → has_edge s k t v ≡ true
      → (i : ℕ) × (get_elem? ns i ≡ some (name_of k t v))
