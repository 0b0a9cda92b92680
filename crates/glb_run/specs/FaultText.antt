-- The line that tells of a refusal.
use Rattle.std.specs.Prelude.{ℕ, [], ◌∷◌, ◌++◌, codes, decimal}
use Rattle.glb_words.specs.Rules.{Text}
use Rattle.glb_words.specs.declared.fault.WordKind.{WordKind}
use Rattle.glb_words.specs.declared.fault.WordKind.TheVariants.{Missing, UnknownJob, NotNumber}
use Rattle.glb_words.specs.declared.fault.WordKind.TheVariants.{OutOfRange, UnknownOption, Repeated}
use Rattle.glb_words.specs.declared.fault.WordKind.TheVariants.{BadChoice, Calm}
use Rattle.glb_run.specs.declared.status.GraphKind.{GraphKind}
use Rattle.glb_run.specs.declared.status.GraphKind.TheVariants as graph_kind
use Rattle.glb_run.specs.declared.status.Status.{Status}
use Rattle.glb_run.specs.declared.status.Status.TheVariants as status

abbrev pub word_kind_text : WordKind → Text
word_kind_text Missing = codes "missing"
word_kind_text UnknownJob = codes "unknown job"
word_kind_text NotNumber = codes "not a number"
word_kind_text OutOfRange = codes "out of range"
word_kind_text UnknownOption = codes "unknown option"
word_kind_text Repeated = codes "repeated"
word_kind_text BadChoice = codes "bad choice"
word_kind_text Calm = codes "threads not allowed"

abbrev pub graph_kind_text : GraphKind → Text
graph_kind_text graph_kind.BadLine = codes "bad line"
graph_kind_text graph_kind.TooLarge = codes "too large"
graph_kind_text graph_kind.BadEnd = codes "bad end"

-- the line without what all lines have in common; `limit` is that of the order
abbrev pub fault_told : ℕ → Status → Text
fault_told limit status.Done = []
fault_told limit (status.BadWords kind word) =
    codes "word " ++ decimal word ++ codes ": " ++ word_kind_text kind
fault_told limit status.ReadFault = codes "read fault"
fault_told limit status.TooLong = codes "input longer than 16777216 bytes"
fault_told limit (status.BadGraph kind line) =
    codes "line " ++ decimal line ++ codes ": " ++ graph_kind_text kind
fault_told limit (status.TooMany items) = codes "more than " ++ decimal limit ++ codes " items"
fault_told limit (status.WriteFault taken) = codes "write fault"
fault_told limit status.NoMemory = codes "out of memory"
fault_told limit (status.BadKnap kind line) =
    codes "line " ++ decimal line ++ codes ": " ++ graph_kind_text kind

-- the whole line
abbrev pub fault_text : ℕ → Status → Text
fault_text limit s = codes "glb: " ++ fault_told limit s ++ 10 ∷ []
