use Rattle.std.proofs.Common.{◌≡◌, ◌∙◌, sym, subst, ap, inr, ℕ, ◌<◌}
use Rattle.glb_rules.specs.World.{Setup}
use Rattle.glb_rules.specs.Sight.{Sight, state_at}
use Rattle.glb_core.specs.Seen.{sight}
use Rattle.glb_rules.specs.Decision.{MintedSeesWant, decide}
use Rattle.glb_rules.specs.declared.place_state.PlaceState.{PlaceState}
use Rattle.glb_rules.specs.declared.event.Action.{Action}
use Rattle.glb_rules.proofs.CallerLemmas.{minted_sees}
use Rattle.glb_turns.proofs.WatchFacts.{known_by}
use Rattle.glb_turns.proofs.watch.decide.Goals as goal

pub next-requires : goal.next-requires
next-requires g c =
    let s = c.requires.played.0 in
    let w = c.requires.played.1 in
    let stands = c.requires.played.2 in
    let seed : ℕ = c.args.world.now.params.seed in
    let seen = c.refresh.ensures.fresh s w stands in
    let state = c.state-state.ensures s w stands in
    let there : c.args.place < s.places =
    subst (λ n. c.args.place < n) (sym (ap (λ (t : Setup). t.places) stands.shows.setup))
    c.requires.place
    in
    let wants =
    minted_sees seed s w stands.proper stands.lawful c.requires.played.3 c.args.place there
    (λ gone. c.in_default.not-Gone (ap (λ (a : PlaceState). a.phase) state ∙ gone))
    in
    record {
      here = c.in_default.not-Gone;
      minted = subst (λ a. MintedSeesWant a (sight c.refresh.new.watch.seen)) (sym state)
          (subst (λ z. MintedSeesWant (state_at seed s w c.args.place) z) (sym seen) wants);
    }

-- the decision of the state and of what is seen is that of the same state and the same sight
decides : (a b : PlaceState) (y z : Sight) (e : Action) → a ≡ b → y ≡ z → e ≡ decide a y
    → decide b z ≡ e
decides a b y z e p q r = (λ i. decide (sym p i) (sym q i)) ∙ sym r

pub returns-in-Do : goal.returns-in-Do
returns-in-Do g c = record {
  watch = record {
    made = c.refresh.ensures.watch.made;
    known = λ s w stands. known_by c.args.world.now.params.seed s w c.args.place c.state-state.result
        (sight c.refresh.new.watch.seen) c.next_look-watch.result (c.state-state.ensures s w stands)
        (c.refresh.ensures.fresh s w stands) c.next_look-watch.ensures;
  };
  decides = λ s w stands. (
    λ gone. c.in_default.not-Gone
        (ap (λ (a : PlaceState). a.phase) (c.state-state.ensures s w stands) ∙ gone),
    decides _ _ _ _ _ (c.state-state.ensures s w stands) (c.refresh.ensures.fresh s w stands)
        c.in-Do.ensures.rule,
  );
}

pub returns-in-Poll : goal.returns-in-Poll
returns-in-Poll g c = record {
  watch = record {
    made = c.refresh.ensures.watch.made;
    known = λ s w stands. inr (decides _ _ _ _ _ (c.state-state.ensures s w stands)
        (c.refresh.ensures.fresh s w stands) c.in-Poll.ensures.rule);
  };
  decides = λ s w stands. inr (decides _ _ _ _ _ (c.state-state.ensures s w stands)
      (c.refresh.ensures.fresh s w stands) c.in-Poll.ensures.rule);
}
