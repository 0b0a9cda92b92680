-- How the stages of a call end early: reading, the run of trees, the writing of a report.
use Rattle.std.specs.Prelude.{◌≡◌, ◌⊎◌, ℕ, List, [], ◌∷◌, Result, Ok, Err}
use Rattle.glb_words.specs.Rules.{Text}
use Rattle.glb_words.specs.declared.fault.OrderFault.{OrderFault}
use Rattle.glb_words.specs.declared.fault.OrderFault.TheVariants as order_fault
use Rattle.glb_tree.specs.Runs.{HasCause}
use Rattle.glb_tree.specs.declared.run.RunFault.{RunFault}
use Rattle.glb_tree.specs.declared.run.RunFault.TheVariants as run_fault
use Rattle.glb_graph.specs.Reading.{HasTextFault}
use Rattle.glb_knap.specs.KnapText.{HasTextFault as HasKnapFault}
use Rattle.glb_knap.specs.Packs.{Problem, packs_below, empty_pack}
use Rattle.glb_graph.specs.declared.text.GraphFault.{GraphFault}
use Rattle.glb_graph.specs.declared.text.GraphFault.TheVariants as graph_fault
use Rattle.glb_run.specs.declared.order.Order.{Order}
use Rattle.glb_run.specs.declared.status.GraphKind.TheVariants as graph_kind
use Rattle.glb_run.specs.declared.status.Status.{Status}
use Rattle.glb_run.specs.declared.status.Status.TheVariants as status
use Rattle.glb_run.specs.declared.reading.ReadStop.{ReadStop}
use Rattle.glb_run.specs.declared.reading.ReadStop.TheVariants as stop
use Rattle.glb_run.specs.Runs.{IsTooLarge}
use Rattle.glb_run.specs.Streams.{Change, CallRule, IsUntouched, Reads, ReadsAll, ReadsTooMuch}
use Rattle.glb_run.specs.Streams.{ReadFails, Writes, WritesPart}

-- a read failed, or there were too many bytes, or memory was wanting after reads without a fault
abbrev pub StopsReading : {S : Type 0} → ReadStop → Change S → Type 0
StopsReading stop.Fault source = ReadFails source
StopsReading stop.TooLong source = ReadsTooMuch source
StopsReading stop.NoMemory source = (input : List ℕ) × Reads input source

-- the run of trees ended early since they are too large, or for want of memory
abbrev pub StopsRun : {X : Type 0} → (X → List X) → X → Order → RunFault → Type 0
StopsRun children root order (run_fault.TooMany items) = IsTooLarge children root order items
StopsRun children root order run_fault.NoMemory = Unit {0}

-- the search through a knapsack's tree ended early, in the same ways
abbrev pub StopsSearch : Problem → Order → RunFault → Type 0
StopsSearch problem order fault =
    HasCause (packs_below problem) (empty_pack ∷ []) order.params.limit fault

-- the status of a run that ended early
abbrev pub status_of : RunFault → Status
status_of (run_fault.TooMany items) = status.TooMany items
status_of run_fault.NoMemory = status.NoMemory

-- one call wrote the report, or a part of it
abbrev pub Wrote : {K : Type 0} → CallRule K → Text → Change K → Status → Type 0
Wrote IsCall report out status.Done = Writes IsCall report out
Wrote IsCall report out (status.WriteFault taken) = WritesPart IsCall report taken out
Wrote IsCall report out _ = ⊥

-- the report was written, in whole or in part, or there was none
abbrev pub Finishes : {K Bytes : Type 0} → CallRule K → (Bytes → Text) → Result Bytes RunFault
    → Change K → Status → Type 0
Finishes IsCall items_of (Ok bytes) out s = Wrote IsCall (items_of bytes) out s
Finishes IsCall items_of (Err fault) out s = (s ≡ status_of fault) × IsUntouched out

-- the status of words that give no order
abbrev pub order_status : OrderFault → Status
order_status (order_fault.Bad fault) = status.BadWords fault.kind fault.word
order_status order_fault.NoMemory = status.NoMemory

-- the status of an input that gave no graph
abbrev pub graph_status : GraphFault → Status
graph_status (graph_fault.BadLine line) = status.BadGraph graph_kind.BadLine line
graph_status (graph_fault.TooLarge line) = status.BadGraph graph_kind.TooLarge line
graph_status (graph_fault.BadEnd line) = status.BadGraph graph_kind.BadEnd line
graph_status graph_fault.NoMemory = status.NoMemory

-- the status of an input that gave no knapsack
abbrev pub knap_status : GraphFault → Status
knap_status (graph_fault.BadLine line) = status.BadKnap graph_kind.BadLine line
knap_status (graph_fault.TooLarge line) = status.BadKnap graph_kind.TooLarge line
knap_status (graph_fault.BadEnd line) = status.BadKnap graph_kind.BadEnd line
knap_status graph_fault.NoMemory = status.NoMemory

-- the status of a source that was not read to its end
abbrev pub read_status : ReadStop → Status
read_status stop.Fault = status.ReadFault
read_status stop.TooLong = status.TooLong
read_status stop.NoMemory = status.NoMemory

-- the source gave no graph: it was not read to its end, or the input has this fault
abbrev pub GivesNoGraph : {S : Type 0} → Change S → Status → Type 0
GivesNoGraph source s =
    ((stop : ReadStop) × StopsReading stop source × (s ≡ read_status stop))
    ⊎ ((input : List ℕ) × (fault : GraphFault) × ReadsAll input source × HasTextFault input fault
    × (s ≡ graph_status fault))

-- the source gave no knapsack, in the same ways
abbrev pub GivesNoKnap : {S : Type 0} → Change S → Status → Type 0
GivesNoKnap source s =
    ((stop : ReadStop) × StopsReading stop source × (s ≡ read_status stop))
    ⊎ ((input : List ℕ) × (fault : GraphFault) × ReadsAll input source × HasKnapFault input fault
    × (s ≡ knap_status fault))
