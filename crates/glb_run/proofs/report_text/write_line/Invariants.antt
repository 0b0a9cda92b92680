use Rattle.std.proofs.Common.{◌≡◌, ◌++◌, drop, string_bytes}
use Rattle.glb_run.specs.Reports.{numbers_text}
use Rattle.glb_run.proofs.report_text.write_line.Given as goal

abbrev pub invariant-loop-n : goal.invariant-loop-n
invariant-loop-n l = string_bytes l.out ++ numbers_text (drop l.n-index l.numbers) ≡ string_bytes
    l.fn.out
    ++ l.name ++ numbers_text l.numbers
