-- The table of the code, read as that of the definition.
use Rattle.std.specs.Prelude.{◌≡◌, true, false, List, map, Option, Some, None, Result, Err}
use Rattle.std.specs.Borrow.{Bor}
use Rattle.glb_words.specs.declared.fault.WordKind.{WordKind}
use Rattle.glb_words.specs.Rules.{Text, FormRule, Number, Choice, Flag}
use Rattle.glb_words.specs.Rules.{FieldRule, JobRule, field_rule}
use Rattle.glb_words.specs.Words.{Given, NextRule, ReadingState, Words, Value}
use Rattle.glb_words.specs.Words.{has_equals, after_equals}
use Rattle.glb_words.specs.declared.forms.Form.{Form}
use Rattle.glb_words.specs.declared.forms.Form.TheVariants as form
use Rattle.glb_words.specs.declared.forms.Field.{Field}
use Rattle.glb_words.specs.declared.forms.JobForm.{JobForm}
use Rattle.glb_words.specs.declared.reader.Next.{Next}
use Rattle.glb_words.specs.declared.reader.Next.TheVariants as next
use Rattle.glb_words.specs.declared.reader.Reading.{Reading}
use Rattle.glb_words.specs.declared.reader.Stop.{Stop}
use Rattle.glb_words.specs.declared.reader.Stop.TheVariants as stop

-- the rule of a form
abbrev pub form_rule_of : Form → FormRule
form_rule_of (form.Number least most default) = Number least most default
form_rule_of (form.Choice names) = Choice (map (λ n. n.now) names.now)
form_rule_of form.Flag = Flag

-- the rule of a field
abbrev pub field_rule_of : Field → FieldRule
field_rule_of f = field_rule f.name.now (form_rule_of f.form)

-- the rule of a job
abbrev pub rule_of : JobForm → JobRule
rule_of j = record {
  job = j.job;
  name = j.name.now;
  numbers = map field_rule_of j.numbers.now;
  options = map field_rule_of j.options.now;
}

-- what was given, behind its references
abbrev pub given_of : List (Bor Text × Bor Text) → Given
given_of given = map (λ g. (g.0.now, g.1.now)) given

-- the rule of what is read next
abbrev pub next_rule_of : Next → NextRule
next_rule_of (next.Words left) = Words (map field_rule_of left.now)
next_rule_of (next.Value f) = Value (field_rule_of f)

-- the state of a reading
abbrev pub reading_state_of : Reading → ReadingState
reading_state_of r = record { next = next_rule_of r.next; given = given_of r.given.items }

-- a step that went wrong: by the word, or for want of memory
abbrev pub StopsBy : Result ReadingState WordKind → Stop → Type 0
StopsBy r (stop.Bad kind) = r ≡ Err kind
StopsBy r stop.NoMemory = Unit {0}

-- the value that is joined to the name that a word shows, if there is one
abbrev pub IsJoined : Option (Bor Text) → Text → Type 0
IsJoined None word = has_equals word ≡ false
IsJoined (Some v) word = (has_equals word ≡ true) × (v.now ≡ after_equals word)
