-- Sources and sinks in memory, whose failing calls are named beforehand. Calls are numbered from 0.
use Rattle.std.specs.Prelude.{ℕ, ◌+◌, ◌-◌, ◌^◌, ◌==◌, ◌||◌, nat_lt, min, if◌then◌else◌}
use Rattle.std.specs.Prelude.{List, ◌++◌, length, take, Bool, Some, None, is_some}
use Rattle.std.specs.List.{find}
use Rattle.std.specs.Option.{option_map}
use Rattle.std.specs.declared.option.Option.{Option}
use Rattle.glb_io.specs.Faults.{after_fault}

-- a source: the bytes still to come, the most of one call, the numbers of the calls that fail, the
-- number of the next call, the faults so far
pub record ScriptedSource : Type 0 where
  pub left : List ℕ
  pub step : ℕ
  pub fail : List ℕ
  pub calls : ℕ
  pub faults : ℕ

-- a sink: the bytes taken, how many more fit, the number of each call that is to fail with the
-- bytes that it takes before, the number of the next call, the faults so far
pub record ScriptedSink : Type 0 where
  pub taken : List ℕ
  pub room : ℕ
  pub fail : List (ℕ × ℕ)
  pub calls : ℕ
  pub faults : ℕ

-- how many bytes the call of this number is to take before it fails, if it is to fail
abbrev pub plan_at : List (ℕ × ℕ) → ℕ → Option ℕ
plan_at fail call = option_map (λ f. f.1) (find (λ f. f.0 == call) fail)

-- the same, of the next call
abbrev pub planned : ScriptedSink → Option ℕ
planned s = plan_at s.fail s.calls

-- how many bytes a call takes of so many: never more than fit, nor than it is to take before it
-- fails
abbrev pub taken_of : Option ℕ → ℕ → ℕ → ℕ
taken_of None size room = min size room
taken_of (Some most) size room = min (min most size) room

-- how many bytes the next call takes of so many
abbrev pub next_taken : ScriptedSink → ℕ → ℕ
next_taken s size = taken_of (planned s) size s.room

-- the next call fails with so many bytes: it is to fail, or they do not fit
abbrev pub next_fails : ScriptedSink → ℕ → Bool
next_fails s size = is_some (planned s) || nat_lt s.room size

-- the sink after one call with this piece
abbrev pub after_call : ScriptedSink → List ℕ → ScriptedSink
after_call s piece = record {
  taken = s.taken ++ take (next_taken s (length piece)) piece;
  room = s.room - next_taken s (length piece);
  fail = s.fail;
  calls = min (s.calls + 1) (2 ^ 64 - 1);
  faults = if next_fails s (length piece) then after_fault s.faults else s.faults;
}
