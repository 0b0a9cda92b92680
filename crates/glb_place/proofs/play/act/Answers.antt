use Rattle.std.proofs.Common.{◌∙◌, ap, subst, ⊎_elim, refl}
use Rattle.glb_rules.specs.Events.{GoesOn}
use Rattle.glb_place.specs.inner.Seeing.{NoLook}
use Rattle.glb_rules.specs.declared.event.Event.TheVariants as event
use Rattle.glb_rules.specs.declared.event.Action.TheVariants.{Do}
use Rattle.glb_place.proofs.ActFacts.{named, mint_looked, mint_wanted, goes_on}
use Rattle.glb_place.proofs.play.act.Goals as goal

pub batch-requires-clause-may : goal.batch-requires-clause-may
batch-requires-clause-may g c =
    (named _ _ _ _ _ _ _ _ _ c.requires.agrees (λ p. event.Batch p) c.in-Batch.place refl
    (c.requires.decided ∙ ap Do c.in-Batch.is)).0

pub try_ask-requires-clause-may : goal.try_ask-requires-clause-may
try_ask-requires-clause-may g c =
    (named _ _ _ _ _ _ _ _ _ c.requires.agrees (λ p. event.Ask p c.in-Ask.victim c.in-Ask.kind)
    c.in-Ask.place refl
    (c.requires.decided ∙ ap Do c.in-Ask.is)).0

pub try_ask-requires-clause-there : goal.try_ask-requires-clause-there
try_ask-requires-clause-there g c =
    (named _ _ _ _ _ _ _ _ _ c.requires.agrees (λ p. event.Ask p c.in-Ask.victim c.in-Ask.kind)
    c.in-Ask.place refl
    (c.requires.decided ∙ ap Do c.in-Ask.is)).1

pub try_deny-requires-clause-may : goal.try_deny-requires-clause-may
try_deny-requires-clause-may g c =
    (named _ _ _ _ _ _ _ _ _ c.requires.agrees (λ p. event.Deny p c.in-Deny.thief c.in-Deny.kind)
    c.in-Deny.place refl (c.requires.decided ∙ ap Do c.in-Deny.is)).0

pub try_deny-requires-clause-there : goal.try_deny-requires-clause-there
try_deny-requires-clause-there g c =
    (named _ _ _ _ _ _ _ _ _ c.requires.agrees (λ p. event.Deny p c.in-Deny.thief c.in-Deny.kind)
    c.in-Deny.place refl (c.requires.decided ∙ ap Do c.in-Deny.is)).1

pub try_mint-requires-clause-may : goal.try_mint-requires-clause-may
try_mint-requires-clause-may g c =
    (named _ _ _ _ _ _ _ _ _ c.requires.agrees (λ p. event.Mint p) c.in-Mint.place refl
    (c.requires.decided ∙ ap Do c.in-Mint.is)).0

pub try_mint-requires-clause-looked : goal.try_mint-requires-clause-looked
try_mint-requires-clause-looked g c =
    mint_looked _ _ _ _ _ _ _ _ _ c.requires.agrees c.in-Mint.place
    (c.requires.decided ∙ ap Do c.in-Mint.is)

pub try_mint-requires-clause-wanted : goal.try_mint-requires-clause-wanted
try_mint-requires-clause-wanted g c =
    mint_wanted _ _ _ _ _ _ _ _ _ c.requires.agrees c.in-Mint.place
    (c.requires.decided ∙ ap Do c.in-Mint.is)

pub try_give-requires-clause-may : goal.try_give-requires-clause-may
try_give-requires-clause-may g c =
    (named _ _ _ _ _ _ _ _ _ c.requires.agrees (λ p. event.Give p c.in-Give.thief c.in-Give.kind)
    c.in-Give.place refl (c.requires.decided ∙ ap Do c.in-Give.is)).0

pub try_give-requires-clause-there : goal.try_give-requires-clause-there
try_give-requires-clause-there g c =
    (named _ _ _ _ _ _ _ _ _ c.requires.agrees (λ p. event.Give p c.in-Give.thief c.in-Give.kind)
    c.in-Give.place refl (c.requires.decided ∙ ap Do c.in-Give.is)).1

pub try_take-requires-clause-may : goal.try_take-requires-clause-may
try_take-requires-clause-may g c =
    (named _ _ _ _ _ _ _ _ _ c.requires.agrees (λ p. event.Take p c.in-Take.victim c.in-Take.kind)
    c.in-Take.place refl (c.requires.decided ∙ ap Do c.in-Take.is)).0

pub try_take-requires-clause-there : goal.try_take-requires-clause-there
try_take-requires-clause-there g c =
    (named _ _ _ _ _ _ _ _ _ c.requires.agrees (λ p. event.Take p c.in-Take.victim c.in-Take.kind)
    c.in-Take.place refl (c.requires.decided ∙ ap Do c.in-Take.is)).1

pub shrug-requires-clause-may : goal.shrug-requires-clause-may
shrug-requires-clause-may g c =
    (named _ _ _ _ _ _ _ _ _ c.requires.agrees
    (λ p. event.Shrug p c.in-Shrug.victim c.in-Shrug.kind) c.in-Shrug.place refl
    (c.requires.decided ∙ ap Do c.in-Shrug.is)).0

pub shrug-requires-clause-there : goal.shrug-requires-clause-there
shrug-requires-clause-there g c =
    (named _ _ _ _ _ _ _ _ _ c.requires.agrees
    (λ p. event.Shrug p c.in-Shrug.victim c.in-Shrug.kind) c.in-Shrug.place refl
    (c.requires.decided ∙ ap Do c.in-Shrug.is)).1

pub sleep-requires-clause-may : goal.sleep-requires-clause-may
sleep-requires-clause-may g c =
    (named _ _ _ _ _ _ _ _ _ c.requires.agrees (λ p. event.Sleep p) c.in-Sleep.place refl
    (c.requires.decided ∙ ap Do c.in-Sleep.is)).0

pub unreachable-requires : goal.unreachable-requires
unreachable-requires g c =
    let h = goes_on _ _ _ _ _ _ _ _ _ c.requires.agrees _ c.requires.decided in
    ⊎_elim (λ x. subst NoLook x.3 c.requires.other)
    (λ y. ⊎_elim (λ x. subst GoesOn x.1 h) (λ x. subst GoesOn x.2 h) y) c.in-Look.is
