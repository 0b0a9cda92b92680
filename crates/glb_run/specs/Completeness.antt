-- Calls that give a report wherever there is memory.
use Rattle.std.specs.Prelude.{◌≡◌, ◌≤◌, ◌⊎◌, ℕ, Bool, List, Ok, Some, IsSome, length}
use Rattle.glb_io.specs.Faults.{Rose}
use Rattle.glb_words.specs.Rules.{Text}
use Rattle.glb_run.specs.declared.order.Order.{Order}
use Rattle.glb_run.specs.declared.status.Status.{Status}
use Rattle.glb_run.specs.declared.status.Status.TheVariants as status
use Rattle.glb_run.specs.Orders.{read_order}
use Rattle.glb_run.specs.Jobs.{IsWithinLimit}
use Rattle.glb_run.specs.Streams.{Change, input_limit}
use Rattle.glb_run.specs.Ends.{ReadsSource}

-- no fault rose
abbrev pub IsCalm : {X : Type 0} → Change X → Type 0
IsCalm c = ¬ Rose c.before.faults c.after.faults

-- the source tells its bytes before and after, which are no more than an input has, and no fault of
-- it rose
pub record TellsInput {S : Type 0} (input : List ℕ) (source : Change S) : Type 0 where
  pub bytes : source.before.bytes ≡ Some input
  pub told_after : IsSome source.after.bytes
  pub within : length input ≤ input_limit
  pub calm : IsCalm source

-- the words give an order, the source what its job takes, and the trees of the job are within the
-- limit
pub record IsServable {S : Type 0} (calm : Bool) (words : List Text)
    (source : Change S) : Type 0 where
  pub order : Order
  pub words_are : read_order calm words ≡ Ok order
  pub input : List ℕ
  pub told : ReadsSource order.job → TellsInput input source
  pub small : IsWithinLimit order input

-- such a call in which no fault of `out` rose gives its report, or there is no memory
abbrev pub IsComplete : {S K : Type 0} → Bool → List Text → Change S → Change K → Status → Type 0
IsComplete calm words source out s =
    IsServable calm words source → IsCalm out → (s ≡ status.Done) ⊎ (s ≡ status.NoMemory)
