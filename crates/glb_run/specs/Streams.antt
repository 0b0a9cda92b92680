-- What a call does to a source or a sink.
use Rattle.std.specs.Prelude.{◌≡◌, ◌≤◌, ◌<◌, ◌⊎◌, ℕ, List, Option, length, take}
use Rattle.glb_io.specs.Bytes.{Gives, Takes, NoneLeft}
use Rattle.glb_io.specs.Faults.{Rose}
use Rattle.glb_words.specs.Rules.{Text}

-- a source or a sink, with its bytes, if it tells them, and its count of faults
pub record Stream (X : Type 0) : Type 0 where
  pub state : X
  pub bytes : Option (List ℕ)
  pub faults : ℕ

-- a source or a sink before a call and after it
pub record Change (X : Type 0) : Type 0 where
  pub before : Stream X
  pub after : Stream X

abbrev pub stream : {X : Type 0} → (X → Option (List ℕ)) → (X → ℕ) → X → Stream X
stream bytes faults x = record { state = x; bytes = bytes x; faults = faults x }

abbrev pub change : {X : Type 0} → (X → Option (List ℕ)) → (X → ℕ) → X → X → Change X
change bytes faults x y = record { before = stream bytes faults x; after = stream bytes faults y }

-- the call did nothing to it
abbrev pub IsUntouched : {X : Type 0} → Change X → Type 0
IsUntouched c = c.after ≡ c.before

-- what one call of a sink with a text may do to it
abbrev pub CallRule : Type 0 → Type 1
CallRule X = X → Text → X → Type 0

-- one call took the whole text
pub record Writes {X : Type 0} (IsCall : CallRule X) (text : Text) (sink : Change X) : Type 0 where
  pub called : IsCall sink.before.state text sink.after.state
  pub given : Gives sink.before.bytes sink.after.bytes text
  pub no_fault : sink.after.faults ≡ sink.before.faults

-- one call with the text took so many bytes of it, and failed
pub record WritesPart {X : Type 0} (IsCall : CallRule X) (text : Text) (taken : ℕ)
    (sink : Change X) : Type 0 where
  pub called : IsCall sink.before.state text sink.after.state
  pub given : Gives sink.before.bytes sink.after.bytes (take taken text)
  pub within : taken ≤ length text
  pub rose : Rose sink.before.faults sink.after.faults

-- one call was made with the text, whatever came of it
abbrev pub IsOneCall : {X : Type 0} → CallRule X → Text → Change X → Type 0
IsOneCall IsCall text sink =
    Writes IsCall text sink ⊎ ((taken : ℕ) × WritesPart IsCall text taken sink)

-- the most bytes of an input
abbrev pub input_limit : ℕ
input_limit = 16777216

-- reads without a fault gave these bytes
pub record Reads {X : Type 0} (input : List ℕ) (source : Change X) : Type 0 where
  pub taken : Takes source.before.bytes source.after.bytes input
  pub no_fault : source.after.faults ≡ source.before.faults

-- reads without a fault gave these bytes, to the end of the source
pub record ReadsAll {X : Type 0} (input : List ℕ) (source : Change X) : Type 0 where
  pub reads : Reads input source
  pub none_left : NoneLeft source.after.bytes
  pub within : length input ≤ input_limit

-- reads without a fault gave more bytes than an input has
pub record ReadsTooMuch {X : Type 0} (source : Change X) : Type 0 where
  pub input : List ℕ
  pub reads : Reads input source
  pub above : input_limit < length input

-- reads gave no more bytes than an input has, and then one failed
pub record ReadFails {X : Type 0} (source : Change X) : Type 0 where
  pub input : List ℕ
  pub taken : Takes source.before.bytes source.after.bytes input
  pub within : length input ≤ input_limit
  pub rose : Rose source.before.faults source.after.faults
