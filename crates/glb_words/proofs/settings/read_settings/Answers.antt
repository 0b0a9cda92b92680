use Rattle.std.proofs.Common.{ap, sym, subst, ◌∙◌, Ok}
use Rattle.glb_words.specs.Words.{texts_of}
use Rattle.glb_words.specs.inner.Forms.{rule_of, given_of}
use Rattle.glb_words.specs.Settings.{settings_or_fault}
use Rattle.glb_words.specs.Commands.{IsFromClap}
use Rattle.glb_words.specs.declared.settings.Settings.{Settings}
use Rattle.glb_words.specs.Settings.{IsCalmIf}
use Rattle.glb_words.proofs.CalmFacts.{calm_if}
use Rattle.glb_words.proofs.SettingFacts.{matches_fit, matches_agree, from_clap}
use Rattle.glb_words.proofs.settings.read_settings.Goals as goal

pub settings_of-requires : goal.settings_of-requires
settings_of-requires c =
    matches_fit c.args.calm (texts_of c.args.words.now) (rule_of c.in_ok-values.values.form)
    (given_of c.in_ok-values.values.given.items) c.in_ok-values.ensures.ok c.in-Ok.matches
    c.in-Ok.ensures.ok

pub returns-clause-ok : goal.returns-clause-ok
returns-clause-ok c =
    let read = c.in_ok-values.ensures.ok in
    let same = matches_agree c.args.calm (texts_of c.args.words.now)
    (rule_of c.in_ok-values.values.form) (given_of c.in_ok-values.values.given.items) read
    c.in-Ok.matches c.in-Ok.ensures.ok in
    ap settings_or_fault read ∙ ap Ok (sym (c.settings_of.ensures.settings ∙ same))

pub returns-clause-calm : goal.returns-clause-calm
returns-clause-calm c =
    let read = c.in_ok-values.ensures.ok in
    let words = texts_of c.args.words.now in
    let rule = rule_of c.in_ok-values.values.form in
    let given = given_of c.in_ok-values.values.given.items in
    let same = matches_agree c.args.calm words rule given read c.in-Ok.matches c.in-Ok.ensures.ok in
    subst (λ (s : Settings). IsCalmIf c.args.calm s.driver)
    (sym (c.settings_of.ensures.settings ∙ same)) (calm_if c.args.calm words rule given read)

pub returns-clause-clap : goal.returns-clause-clap
returns-clause-clap c =
    let read = c.in_ok-values.ensures.ok in
    let words = texts_of c.args.words.now in
    let rule = rule_of c.in_ok-values.values.form in
    let given = given_of c.in_ok-values.values.given.items in
    let same = matches_agree c.args.calm words rule given read c.in-Ok.matches c.in-Ok.ensures.ok in
    subst (IsFromClap c.args.calm words) (sym (c.settings_of.ensures.settings ∙ same))
    (from_clap c.args.calm words rule given read)
