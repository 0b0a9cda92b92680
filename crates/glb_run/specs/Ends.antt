-- How a call of the program ends: what its status says of the words, the source, and the sinks
-- `out` and `err`.
use Rattle.std.specs.Prelude.{◌≡◌, ◌⊎◌, ℕ, Bool, List, [], Result, Ok, Err}
use Rattle.glb_words.specs.Rules.{Text}
use Rattle.glb_words.specs.declared.fault.WordFault.{WordFault}
use Rattle.glb_words.specs.declared.settings.Job.{Job}
use Rattle.glb_words.specs.declared.settings.Job.TheVariants as job
use Rattle.glb_graph.specs.GraphText.{BytesSay, Fault}
use Rattle.glb_graph.specs.GraphText as text
use Rattle.glb_knap.specs.KnapText as knap_text
use Rattle.glb_run.specs.declared.order.Order.{Order}
use Rattle.glb_run.specs.declared.status.GraphKind.{GraphKind}
use Rattle.glb_run.specs.declared.status.GraphKind.TheVariants as graph_kind
use Rattle.glb_run.specs.declared.status.Status.{Status}
use Rattle.glb_run.specs.declared.status.Status.TheVariants as status
use Rattle.glb_run.specs.Orders.{read_order}
use Rattle.glb_run.specs.FaultText.{fault_text}
use Rattle.glb_run.specs.Jobs.{IsReport, HasTooMany}
use Rattle.glb_run.specs.Streams.{Change, CallRule, IsUntouched, Writes, WritesPart, IsOneCall}
use Rattle.glb_run.specs.Streams.{Reads, ReadsAll, ReadsTooMuch, ReadFails}

-- the job's command reads the source
abbrev pub ReadsSource : Job → Type 0
ReadsSource (job.Queens n) = ⊥
ReadsSource (job.Uts b0 m q seed) = ⊥
ReadsSource job.Dist = Unit {0}
ReadsSource (job.Trial k) = ⊥
ReadsSource job.Knap = Unit {0}

-- what the command reads of the source: all for the distances of a graph and for a knapsack, and
-- for other jobs nothing, by no call
abbrev pub HasRead : {S : Type 0} → Job → List ℕ → Change S → Type 0
HasRead (job.Queens n) input source = (input ≡ []) × IsUntouched source
HasRead (job.Uts b0 m q seed) input source = (input ≡ []) × IsUntouched source
HasRead job.Dist input source = ReadsAll input source
HasRead (job.Trial k) input source = (input ≡ []) × IsUntouched source
HasRead job.Knap input source = ReadsAll input source

abbrev pub graph_kind_of : GraphKind → text.FaultKind
graph_kind_of graph_kind.BadLine = text.BadLine
graph_kind_of graph_kind.TooLarge = text.TooLarge
graph_kind_of graph_kind.BadEnd = text.BadEnd

-- what the status says of an order that was carried out; `IsCall` is the rule of the calls of `out`
abbrev pub HasRun : {S K : Type 0} → Order → CallRule K → Change S → Change K → Status → Type 0
HasRun order IsCall source out status.Done =
    (input : List ℕ) × HasRead order.job input source
    × ((report : Text) × IsReport order input report × Writes IsCall report out)
HasRun order IsCall source out (status.BadWords kind word) = ⊥
HasRun order IsCall source out status.ReadFault =
    ReadsSource order.job × IsUntouched out × ReadFails source
HasRun order IsCall source out status.TooLong =
    ReadsSource order.job × IsUntouched out × ReadsTooMuch source
HasRun order IsCall source out (status.BadGraph kind line) =
    (order.job ≡ job.Dist) × IsUntouched out
    × ((input : List ℕ) × ReadsAll input source × BytesSay input (Fault (graph_kind_of kind) line))
HasRun order IsCall source out (status.TooMany items) =
    IsUntouched out
    × ((input : List ℕ) × HasRead order.job input source × HasTooMany order input items)
HasRun order IsCall source out (status.WriteFault taken) =
    (input : List ℕ) × HasRead order.job input source
    × ((report : Text) × IsReport order input report × WritesPart IsCall report taken out)
HasRun order IsCall source out status.NoMemory =
    IsUntouched out
    × (IsUntouched source ⊎ (ReadsSource order.job × ((input : List ℕ) × Reads input source)))
HasRun order IsCall source out (status.BadKnap kind line) =
    (order.job ≡ job.Knap) × IsUntouched out
    × ((input : List ℕ) × ReadsAll input source
    × knap_text.BytesSay input (knap_text.Fault (graph_kind_of kind) line))

-- what the status says of the words, of the source and of `out`
abbrev pub StatusSays : {S K : Type 0} → Result Order WordFault → CallRule K → Change S
    → Change K → Status → Type 0
StatusSays read IsCall source out (status.BadWords kind word) =
    (read ≡ Err (record { kind = kind; word = word })) × IsUntouched source × IsUntouched out
StatusSays read IsCall source out status.NoMemory =
    IsUntouched out
    × (IsUntouched source
    ⊎ ((order : Order) × (read ≡ Ok order) × HasRun order IsCall source out status.NoMemory))
StatusSays read IsCall source out s =
    (order : Order) × (read ≡ Ok order) × HasRun order IsCall source out s

-- the limit on items that the words order
abbrev pub limit_of : Result Order WordFault → ℕ
limit_of (Ok order) = order.params.limit
limit_of (Err fault) = 0

-- after a refusal one line went to `err` by one call, and after Done none was made
abbrev pub IsTold : {E : Type 0} → ℕ → CallRule E → Change E → Status → Type 0
IsTold limit IsCall err status.Done = IsUntouched err
IsTold limit IsCall err s = IsOneCall IsCall (fault_text limit s) err

-- the call ended so; the two rules are those of the calls of `out` and of `err`
pub record Ends {S K E : Type 0} (calm : Bool) (words : List Text) (OutCall : CallRule K)
    (ErrCall : CallRule E) (source : Change S) (out : Change K) (err : Change E)
    (s : Status) : Type 0 where
  pub cause : StatusSays (read_order calm words) OutCall source out s
  pub told : IsTold (limit_of (read_order calm words)) ErrCall err s
