-- The clap command of each job takes the words that are read without a fault, and its matches are
-- what was given.
use Rattle.std.proofs.Common.{◌≡◌, ◌&&◌, Bool, true, false, List, [], ◌∷◌}
use Rattle.std.proofs.Common.{◌∙◌, refl, ap, Option, Some, None, Result, Ok, Err, fold}
use Rattle.std.proofs.Common.{filter, is_some}
use Rattle.std.proofs.Common.{map, rules}
use Rattle.std.specs.Str.{bytes_eq}
use Rattle.std.specs.List.{list_any, list_all}
use Rattle.clap.specs.Walk.{Row, Walk, walked, settled_rows, first_of, finished}
use Rattle.clap.specs.Walk.{with_default, walk_from, nothing_held, walk, rows_after}
use Rattle.clap.specs.Simple.{App, Shape, argument_words, entered, built, names_of, is_simple}
use Rattle.clap.specs.Simple.{matches_of}
use Rattle.clap.specs.Takes.{takes, built_takes, level_passes, entered_passes, walk_passes}
use Rattle.clap.specs.Takes.{default_passes, is_valid, settle_passes}
use Rattle.clap.proofs.OnLiterals.{clap_on_literals}
use Rattle.glb_words.specs.Rules.{Text, JobRule, queens_rule, uts_rule, dist_rule, trial_rule}
use Rattle.glb_words.specs.Rules.{knap_rule, job_rules}
use Rattle.glb_words.specs.Words.{Given, given_value, read_from, start_of, rule_named, read_job}
use Rattle.glb_words.specs.Words.{read_words, with_rule}
use Rattle.glb_words.specs.declared.fault.WordFault.{WordFault}
use Rattle.glb_words.specs.Commands.{app_for}
use Rattle.glb_words.specs.inner.Flags.{or_false, flags_of}
use Rattle.glb_words.proofs.TextFacts.{Each, none, more, each_found}
use Rattle.glb_words.proofs.ClapFacts.{flag_built, AreRows, are_rows_first}
use Rattle.glb_words.proofs.Standing.{Served, Numbered}
use Rattle.glb_words.proofs.Accepted.{accepted}
use Rattle.glb_words.proofs.Defaults.{has_default, defaults_only, has_first, others_kept}
use Rattle.glb_words.proofs.Defaults.{flag_value}

-- what has to hold of a job's table: each fact computes
pub record Fits (rule : JobRule) : Type 0 where
  pub simple : is_simple (app_for rule) ≡ true
  pub words : (app_for rule).top.no_binary_name ≡ false
  pub leaf : names_of (built (app_for rule)) ≡ []
  pub override : (built (app_for rule)).top.args_override_self ≡ false
  pub defaults : list_all default_passes (built (app_for rule)).top.rules ≡ true
  pub flags : filter has_default (built (app_for rule)).top.rules
      ≡ map flag_built (flags_of rule.options)
  pub valid : (rows : List Row) → is_valid (built (app_for rule)).top rows false ≡ true
  pub served : Each (Served (built (app_for rule)).top.rules) rule.options
  pub numbered : Numbered (built (app_for rule)).top.rules 1 rule.numbers

-- the table of distances
pub dist_fits : Fits dist_rule
unfolding clap_on_literals
dist_fits = record {
  simple = refl;
  words = refl;
  leaf = refl;
  override = refl;
  defaults = refl;
  flags = refl;
  valid = λ rows. refl;
  served = search (rules, none, more);
  numbered = tt;
}

-- the table of binomial trees
pub uts_fits : Fits uts_rule
unfolding clap_on_literals
uts_fits = record {
  simple = refl;
  words = refl;
  leaf = refl;
  override = refl;
  defaults = refl;
  flags = refl;
  valid = λ rows. refl;
  served = search (rules, none, more);
  numbered = (
    refl,
    refl,
    refl,
    more _ _ refl (more _ _ refl (more _ _ refl none)),
    (
      refl,
      refl,
      refl,
      more _ _ refl (more _ _ refl none),
      (
        refl,
        refl,
        refl,
        more _ _ refl none,
        (refl, refl, refl, none, tt),
      ),
    ),
  );
}

-- the table of queens
pub queens_fits : Fits queens_rule
unfolding clap_on_literals
queens_fits = record {
  simple = refl;
  words = refl;
  leaf = refl;
  override = refl;
  defaults = refl;
  flags = refl;
  valid = λ rows. refl;
  served = search (rules, none, more);
  numbered = search (rules, none);
}

-- the table of trials
pub trial_fits : Fits trial_rule
unfolding clap_on_literals
trial_fits = record {
  simple = refl;
  words = refl;
  leaf = refl;
  override = refl;
  defaults = refl;
  flags = refl;
  valid = λ rows. refl;
  served = search (rules, none, more);
  numbered = search (rules, none);
}

-- the table of knapsacks
pub knap_fits : Fits knap_rule
unfolding clap_on_literals
knap_fits = record {
  simple = refl;
  words = refl;
  leaf = refl;
  override = refl;
  defaults = refl;
  flags = refl;
  valid = λ rows. refl;
  served = search (rules, none, more);
  numbered = tt;
}

-- the two consequences, for the words after the job's
pub record Found (rule : JobRule) (word : Text) (rest : List Text) (given : Given) : Type 0 where
  pub taken : takes (app_for rule) (word ∷ rest) ≡ true
  pub rows : (settled : List Row)
      × (AreRows given settled
      × (matches_of (app_for rule) (word ∷ rest) ≡ fold with_default settled
      (built (app_for rule)).top.rules))

-- two facts are one
and_both : (a b : Bool) → a ≡ true → b ≡ true → (a && b) ≡ true
and_both true b h k = k
and_both false b h k = absurd (cc h)

-- where the walk of a command ends
abbrev pub end_of : App → List Text → Walk
end_of b rest = fold (walked b.top.rules []) (walk_from nothing_held) rest

-- the words behind the name of the program
rest_of : (a : App) (word : Text) (rest : List Text) → a.top.no_binary_name ≡ false
    → argument_words a (word ∷ rest) ≡ rest
rest_of a word rest h = rw h refl

-- a command takes words that its built form takes
taken_of : (a : App) (word : Text) (rest : List Text) → is_simple a ≡ true
    → a.top.no_binary_name ≡ false
    → built_takes (built a) nothing_held rest ≡ true → takes a (word ∷ rest) ≡ true
taken_of a word rest simple words h =
    and_both (is_simple a) _ simple
    (ap (built_takes (built a) nothing_held) (rest_of a word rest words) ∙ h)

-- the words pass where the walk does and ends well
level_of : (top : Shape) (rest : List Text) → top.args_override_self ≡ false
    → list_all default_passes top.rules ≡ true
    → ((rows : List Row) → is_valid top rows false ≡ true)
    → walk_passes top [] (walk_from nothing_held) rest ≡ true
    → settle_passes top.rules false
    (fold (walked top.rules []) (walk_from nothing_held) rest).held ≡ true
    → level_passes top [] nothing_held rest false ≡ true
level_of top rest override defaults valid passes settled =
    and_both _ _ passes
    (and_both _ _ (ap (λ again.
    settle_passes top.rules again (fold (walked top.rules []) (walk_from nothing_held) rest).held)
    override ∙ settled)
    (and_both _ _ defaults (valid (finished top.rules (walk top.rules [] nothing_held rest).held))))

-- a built command without other commands takes words that pass
built_of : (b : App) (rest : List Text) → names_of b ≡ [] → (end_of b rest).stopped ≡ None
    → level_passes b.top [] nothing_held rest false ≡ true → built_takes b nothing_held rest ≡ true
built_of b rest leaf stopped level =
    let stop : (walk b.top.rules (names_of b) nothing_held rest).stopped ≡ None =
    ap (λ names. (walk b.top.rules names nothing_held rest).stopped) leaf ∙ stopped in
    let go : (o : Option (Text × List Text)) → o ≡ None
    → (entered_passes b o && level_passes b.top (names_of b) nothing_held rest
    (is_some (entered b o))) ≡ true =
    λ o e. rw (e, leaf) level in
    go _ stop

-- clap takes words that are read without a fault, and finds the rows of what was given
pub found : (rule : JobRule) (calm : Bool) (word : Text) (rest : List Text) (given : Given)
    → Fits rule
    → read_from rule calm 1 (start_of rule) rest ≡ Ok given → Found rule word rest given
found rule calm word rest given fits h =
    let b = built (app_for rule) in
    let both = accepted b.top fits.override rule calm fits.served rest given fits.numbered h in
    let level = level_of b.top rest fits.override fits.defaults fits.valid both.0 both.1.passes in
    record {
      taken = taken_of (app_for rule) word rest fits.simple fits.words
          (built_of b rest fits.leaf both.1.stopped level);
      rows = (
        settled_rows b.top.rules (end_of b rest).held.pending (end_of b rest).held.rows,
        (
          both.1.rows,
          ap (rows_after b.top.rules (names_of b)) (rest_of (app_for rule) word rest fits.words)
              ∙ ap (λ names. rows_after b.top.rules names rest) fits.leaf,
        ),
      );
    }

-- clap finds the value that was given, of a name that is no flag
pub value_found : (rule : JobRule) (name word : Text) (rest : List Text) (given : Given) → Fits rule
    → list_any (λ f. bytes_eq f name) (flags_of rule.options) ≡ false
    → Found rule word rest given
    → first_of name (matches_of (app_for rule) (word ∷ rest)) ≡ given_value name given
value_found rule name word rest given fits other found =
    let settled = found.rows.0 in
    ap (first_of name) (found.rows.1.1 ∙ defaults_only settled (built (app_for rule)).top.rules
    ∙ ap (fold with_default settled) fits.flags)
    ∙ others_kept name (flags_of rule.options) settled other
    ∙ are_rows_first name given settled found.rows.1.0

-- clap finds the flag that was given, and else its default
pub flag_found : (rule : JobRule) (name word : Text) (rest : List Text) (given : Given) → Fits rule
    → list_any (λ f. bytes_eq f name) (flags_of rule.options) ≡ true
    → Found rule word rest given
    → first_of name (matches_of (app_for rule) (word ∷ rest)) ≡ or_false (given_value name given)
flag_found rule name word rest given fits is found =
    let settled = found.rows.0 in
    let are = found.rows.1.0 in
    ap (first_of name) (found.rows.1.1 ∙ defaults_only settled (built (app_for rule)).top.rules
    ∙ ap (fold with_default settled) fits.flags)
    ∙ flag_value name (flags_of rule.options) settled (has_first given settled name are) is
    ∙ ap or_false (are_rows_first name given settled are)

-- what clap makes of words that are read without a fault
pub record Told (rule : JobRule) (words : List Text) (given : Given) : Type 0 where
  pub simple : is_simple (app_for rule) ≡ true
  pub taken : takes (app_for rule) words ≡ true
  pub value : (name : Text) → list_any (λ f. bytes_eq f name) (flags_of rule.options) ≡ false
      → first_of name (matches_of (app_for rule) words) ≡ given_value name given
  pub flag : (name : Text) → list_any (λ f. bytes_eq f name) (flags_of rule.options) ≡ true
      → first_of name (matches_of (app_for rule) words) ≡ or_false (given_value name given)

-- the table of a job that a word names is fit
job_fits : (word : Text) (rule : JobRule) → rule_named word ≡ Some rule → Fits rule
job_fits word rule h =
    (each_found Fits (λ (r : JobRule). bytes_eq r.name word) job_rules rule
    (more _ _ queens_fits (more _ _ uts_fits (more _ _ dist_fits
    (more _ _ trial_fits (more _ _ knap_fits none))))) h).0

-- what was read of a job is what was given
pub read_inner : (rule : JobRule) (r : Result Given WordFault) (out : JobRule) (given : Given)
    → with_rule rule r ≡ Ok (out, given) → (rule ≡ out) × (r ≡ Ok given)
read_inner rule (Ok g) out given h =
    let pair : (rule, g) ≡ (out, given) = cc h in
    (ap (λ (p : JobRule × Given). p.0) pair, ap (λ (p : JobRule × Given). Ok p.1) pair)
read_inner rule (Err fault) out given h = absurd (cc h)

-- clap tells what was given of words that are read without a fault
pub told : (calm : Bool) (words : List Text) (rule : JobRule) (given : Given)
    → read_words calm words ≡ Ok (rule, given) → Told rule words given
told calm [] rule given h = absurd (cc h)
told calm (word ∷ rest) rule given h = go (rule_named word) refl h
  where
    go : (o : Option JobRule) → rule_named word ≡ o → read_job calm o rest ≡ Ok (rule, given)
        → Told rule (word ∷ rest) given
    go None e h = absurd (cc h)
    go (Some r) e h =
        let inner = read_inner r (read_from r calm 1 (start_of r) rest) rule given h in
        let fits = job_fits word r e in
        let all = found r calm word rest given fits inner.1 in
        rw (← inner.0) (record {
          simple = fits.simple;
          taken = all.taken;
          value = λ name other. value_found r name word rest given fits other all;
          flag = λ name is. flag_found r name word rest given fits is all;
        })
