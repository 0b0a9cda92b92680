-- The exit statuses.
use Rattle.std.specs.Prelude.{ℕ}
use Rattle.glb_run.specs.declared.status.Status.{Status}
use Rattle.glb_run.specs.declared.status.Status.TheVariants as status

abbrev pub code_of : Status → ℕ
code_of status.Done = 0
code_of (status.BadWords kind word) = 2
code_of status.ReadFault = 3
code_of status.TooLong = 4
code_of (status.BadGraph kind line) = 5
code_of (status.TooMany items) = 6
code_of (status.WriteFault taken) = 7
code_of status.NoMemory = 8
code_of (status.BadKnap kind line) = 9
