use Rattle.std.proofs.Common.{subst, ap, refl, arith}
use Rattle.glb_cube.specs.Lines.{Cube}
use Rattle.glb_rules.specs.World.{Setup}
use Rattle.glb_rules.specs.Events.{NamesBelow}
use Rattle.glb_turns.proofs.StepFacts.{found_enabled, none_found, leads_few, leads_played}
use Rattle.glb_turns.proofs.StepFacts.{leads_turn, failed_played, failed_few}
use Rattle.glb_turns.proofs.driver.turn.Goals as goal

pub returns-in-None-clause-turned : goal.returns-in-None-clause-turned
returns-in-None-clause-turned g c = λ s w stands led. (
  none_found c.args.world.now.params.seed s w stands.proper stands.lawful led c.args.number
      (c.in-None.ensures.finds s w stands),
  refl,
)

pub step-requires-clause-named : goal.step-requires-clause-named
step-requires-clause-named g c =
    let s = c.requires.in_play.played.0 in
    let w = c.requires.in_play.played.1 in
    let stands = c.requires.in_play.played.2 in
    let found = c.in-Some.ensures.finds s w stands in
    let enabled =
    found_enabled c.args.world.now.params.seed s w stands.proper stands.lawful c.args.number
    c.in-Some.found.0 c.in-Some.found.1 found
    in
    subst (λ n. NamesBelow n c.in-Some.found.1) (ap (λ (t : Setup). t.places) stands.shows.setup)
    enabled.0

pub unreachable-requires : goal.unreachable-requires
unreachable-requires g c =
    let s = c.requires.in_play.played.0 in
    let w = c.requires.in_play.played.1 in
    let stands = c.requires.in_play.played.2 in
    let found = c.in-Some.ensures.finds s w stands in
    let enabled =
    found_enabled c.args.world.now.params.seed s w stands.proper stands.lawful c.args.number
    c.in-Some.found.0 c.in-Some.found.1 found
    in
    let fault = rw c.in-Err-NotEnabled.field-0-is at c.in-Err-NotEnabled.ensures.fault in
    fault.0 s w stands enabled.1

pub returns-in-Ok-clause-in_play : goal.returns-in-Ok-clause-in_play
returns-in-Ok-clause-in_play g c =
    let s = c.requires.in_play.played.0 in
    let w = c.requires.in_play.played.1 in
    let stands = c.requires.in_play.played.2 in
    let found = c.in-Some.ensures.finds s w stands in
    let played = leads_played _ _ _ _ _ s w _ _ stands c.in-Some.found.1 _ c.requires.in_play.played.3 c.args.number
    c.in-Some.found.0 found (c.in-Ok.ensures.step s w stands).0 in
    record {
      many = omega (arith, c.step.auto.watches, c.requires.in_play.many, ap (λ (x : Cube). x.places) c.in-Ok.ensures.same.cube);
      watched = c.in-Ok.ensures.watches;
      played = played;
      fit = c.in-Ok.ensures.fits;
    }

pub returns-in-Ok-clause-most : goal.returns-in-Ok-clause-most
returns-in-Ok-clause-most g c =
    let s = c.requires.in_play.played.0 in
    let w = c.requires.in_play.played.1 in
    let stands = c.requires.in_play.played.2 in
    let few =
    leads_few _ _ _ _ _ s w _ _ stands c.in-Some.found.1 _ (c.in-Ok.ensures.step s w stands).0
    in
    let batch = ap (λ (t : Setup). t.batch) stands.shows.setup in
    omega (arith, few, batch)

pub returns-in-Ok-clause-turned : goal.returns-in-Ok-clause-turned
returns-in-Ok-clause-turned g c = λ s w stands led.
    let found = c.in-Some.ensures.finds s w stands in
    let leads = c.in-Ok.ensures.step s w stands in
    leads_turn _ _ _ _ _ s w _ _ stands c.in-Some.found.1 _ led c.args.number c.in-Some.found.0 found
    leads.0 leads.1

pub returns-in-Err-NoMemory-clause-in_play : goal.returns-in-Err-NoMemory-clause-in_play
returns-in-Err-NoMemory-clause-in_play g c =
    let s = c.requires.in_play.played.0 in
    let w = c.requires.in_play.played.1 in
    let stands = c.requires.in_play.played.2 in
    let found = c.in-Some.ensures.finds s w stands in
    let played = failed_played _ _ _ _ _ s w _ _ stands c.requires.in_play.played.3 c.args.number c.in-Some.found.0
    c.in-Some.found.1 found (rw c.in-Err-NoMemory.field-0-is at c.in-Err-NoMemory.ensures.fault) in
    record {
      many = omega (arith, c.step.auto.watches, c.requires.in_play.many, ap (λ (x : Cube). x.places) c.in-Err-NoMemory.ensures.same.cube);
      watched = c.in-Err-NoMemory.ensures.watches;
      played = played;
      fit = c.in-Err-NoMemory.ensures.fits;
    }

pub returns-in-Err-NoMemory-clause-turned : goal.returns-in-Err-NoMemory-clause-turned
returns-in-Err-NoMemory-clause-turned g c = (
  c.in-Some.found.1,
  λ s w stands led. c.in-Some.ensures.finds s w stands,
  rw c.in-Err-NoMemory.field-0-is at c.in-Err-NoMemory.ensures.fault,
)

pub returns-in-Err-NoMemory-clause-most : goal.returns-in-Err-NoMemory-clause-most
returns-in-Err-NoMemory-clause-most g c =
    let s = c.requires.in_play.played.0 in
    let w = c.requires.in_play.played.1 in
    let stands = c.requires.in_play.played.2 in
    let few =
    failed_few _ _ _ _ _ s w _ _ stands c.in-Some.found.1
    (rw c.in-Err-NoMemory.field-0-is at c.in-Err-NoMemory.ensures.fault)
    in
    let batch = ap (λ (t : Setup). t.batch) stands.shows.setup in
    omega (arith, few, batch)

pub returns-in-None-clause-few : goal.returns-in-None-clause-few
returns-in-None-clause-few g c = c.requires.in_play.played.2.shows.limits.batch.1

pub returns-in-Ok-clause-few : goal.returns-in-Ok-clause-few
returns-in-Ok-clause-few g c = c.requires.in_play.played.2.shows.limits.batch.1

pub returns-in-Err-NoMemory-clause-few : goal.returns-in-Err-NoMemory-clause-few
returns-in-Err-NoMemory-clause-few g c = c.requires.in_play.played.2.shows.limits.batch.1
