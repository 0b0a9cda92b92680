-- The values that clap finds: those that were given, and `false` for a flag that was not.
use Rattle.std.specs.Prelude.{List, [], ◌∷◌, Option, Some, None, codes, if◌then◌else◌}
use Rattle.glb_words.specs.Words.{is_flag}
use Rattle.glb_words.specs.Rules.{Text, FieldRule}

-- a flag that was not given is off
abbrev pub or_false : Option Text → Option Text
or_false None = Some (codes "false")
or_false (Some text) = Some text

-- the names of the flags
abbrev pub flags_of : List FieldRule → List Text
flags_of [] = []
flags_of (f ∷ left) = if is_flag f.form then f.name ∷ flags_of left else flags_of left
