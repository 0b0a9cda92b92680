-- What a run of whole trees answers.
use Rattle.std.specs.Prelude.{◌≡◌, ℕ, ◌+◌, ◌<◌, ◌≤◌, List, length}
use Rattle.glb_laws.specs.Tree.{IsSmall, nodes, answer}
use Rattle.glb_laws.specs.Expansion.{Expansion}
use Rattle.glb_tree.specs.declared.run.Outcome.{Outcome}
use Rattle.glb_tree.specs.declared.run.RunFault.{RunFault}
use Rattle.glb_tree.specs.declared.run.RunFault.TheVariants.{TooMany, NoMemory}

-- the trees together have at most `limit` nodes, and the outcome has their number and the
-- combination of their values
pub record IsOutcome {X V : Type 0} (children : X → List X) (value : X → V)
    (unit : V) (combine : V → V → V) (roots : List X) (limit : ℕ)
    (outcome : Outcome V) : Type 0 where
  pub small : IsSmall children roots limit
  pub items : outcome.items ≡ length (nodes children roots limit)
  pub value_is : outcome.value ≡ answer children value unit combine roots limit

-- so many items were expanded, which is more than the limit, and the trees together have more nodes
-- than the limit
pub record IsTooMany {X : Type 0} (children : X → List X) (roots : List X)
    (limit items : ℕ) : Type 0 where
  pub above : limit < items
  pub large : ¬ IsSmall children roots limit
  pub expanded : (done : List X) × (left : List X) ×
      Expansion children roots done left × (length done ≡ items)

-- the cause of each fault; want of memory needs none
abbrev pub HasCause : {X : Type 0} → (X → List X) → List X → ℕ → RunFault → Type 0
HasCause children roots limit (TooMany items) = IsTooMany children roots limit items
HasCause children roots limit NoMemory = Unit {0}

-- a run that passed the limit passed it by at most so many items
abbrev pub PassesByAtMost : ℕ → ℕ → RunFault → Type 0
PassesByAtMost most limit (TooMany items) = items ≤ limit + most
PassesByAtMost most limit NoMemory = Unit {0}
