-- What a place may do by its decision.
use Rattle.std.specs.Prelude.{Option}
use Rattle.std.proofs.Common.{◌≡◌, ◌≢◌, ℕ, true, false, List, refl, sym, ap, ◌∙◌, subst}
use Rattle.rand_pcg.specs.Lcg.{Lcg}
use Rattle.glb_rules.specs.Events.{actor, IsThere}
use Rattle.glb_rules.specs.Events.{GoesOn}
use Rattle.glb_rules.specs.Sight.{Sight, IsIn}
use Rattle.glb_rules.specs.Decision.{decide, is_unseen, is_wanted, MintedSeesWant}
use Rattle.glb_rules.proofs.Decisions.Actors.{decided_goes, decided_mint}
use Rattle.glb_rules.specs.declared.params.Params.{Params}
use Rattle.glb_rules.specs.declared.kinds.Credit.TheVariants as credit
use Rattle.glb_rules.specs.declared.kinds.Phase.TheVariants as phase
use Rattle.glb_rules.specs.declared.place_state.PlaceState.{PlaceState}
use Rattle.glb_rules.specs.declared.edges.InEdge.{InEdge}
use Rattle.glb_rules.specs.declared.event.Event.{Event}
use Rattle.glb_rules.specs.declared.event.Event.TheVariants as event
use Rattle.glb_rules.specs.declared.event.Action.TheVariants.{Do, Poll}
use Rattle.glb_place.specs.declared.record.Record.{Record}
use Rattle.glb_place.specs.Records.{setup_in, May}
use Rattle.glb_place.specs.Places.{decision_in}
use Rattle.glb_place.specs.inner.Seeing.{LookedBefore}
use Rattle.glb_place.specs.inner.Standing.{Agrees}
use Rattle.glb_place.proofs.DecisionFacts.{may_of, decision_same, gives_alone, polls_free, polls_rests, mints_looked, NoGift}

module _ {B I : Type 0} (items : B → List I) (r : Record I) (params : Params) (bag : B)
    (spare : Option B)
    (a : PlaceState) (z : Sight) (first : ℕ) (words : Lcg)
    (A : Agrees items r params bag spare a z first words) where
  -- by what it sees the place decides as by its record
  same_decision : decide a z ≡ decision_in r
  same_decision = decision_same r z first A.tells A.running a A.is

  -- what is decided may be done, by this very place
  pub named : (E : ℕ → Event) (n : ℕ) → actor (E n) ≡ n → decision_in r ≡ Do (E n)
      → May r (E r.place) × IsThere (setup_in r) (E r.place)
  named E n h d =
      let m = may_of r z first A.tells A.running (E n) d in
      let p : n ≡ r.place = sym h ∙ m.0.0 in
      subst (λ q. May r (E q) × IsThere (setup_in r) (E q)) p m

  -- a place that decides on an event other than Give has no credit for a part
  pub free_of : (e : Event) → decision_in r ≡ Do e → NoGift e → r.local.credit ≢ credit.Minted
  free_of e d = gives_alone r z first A.tells A.running a A.is e (same_decision ∙ d)

  -- nor has one that polls
  pub free_poll : decision_in r ≡ Poll → r.local.credit ≢ credit.Minted
  free_poll d = polls_free r z first A.tells A.running a A.is (same_decision ∙ d)

  -- a place that polls does not work
  pub rests_poll : decision_in r ≡ Poll → r.local.phase ≢ phase.Working
  rests_poll d = polls_rests r z first A.tells A.running a A.is (same_decision ∙ d)

  -- a place that takes a credit has looked at all its in-edges
  pub mint_looked : (n : ℕ) → decision_in r ≡ Do (event.Mint n) → (x : InEdge) → IsIn x z.ins
      → is_unseen x ≡ false
  mint_looked n d =
      let m = (named event.Mint n refl d).0 in
      mints_looked r z first A.tells A.running a A.is m.2.0 m.2.1 n (same_decision ∙ d)

  -- and one of them wants work
  pub mint_wanted : (n : ℕ) → decision_in r ≡ Do (event.Mint n) → (x : InEdge) × IsIn x z.ins
      × (is_wanted x ≡ true)
  mint_wanted n d = decided_mint a z n (same_decision ∙ d)

  -- until a stop code or the end was read no decision is to leave or to halt
  pub goes_on : (e : Event) → decision_in r ≡ Do e → GoesOn e
  goes_on e d = decided_goes a z A.tells.not_halted A.tells.goes_on e (same_decision ∙ d)

  -- by what it sees the place decides as by its record
  pub decides : (e : _) → decide a z ≡ e → decision_in r ≡ e
  decides e d = sym same_decision ∙ d

  -- a place with a credit for a part sees somebody to give it to
  pub minted_sees : MintedSeesWant a z
  minted_sees c = A.tells.wanted (sym (ap (λ (b : PlaceState). b.credit) A.is) ∙ c)

  -- a place that plays is not gone
  pub not_gone : a.phase ≢ phase.Gone
  not_gone e = A.running.here (sym (ap (λ (b : PlaceState). b.phase) A.is) ∙ e)

  -- it has looked at the in-edges before another one
  pub agrees_first : (later : ℕ) → LookedBefore z.ins later
      → Agrees items r params bag spare a z later words
  agrees_first later looked = record {
    running = A.running;
    tells = record {
      own = A.tells.own;
      made = A.tells.made;
      ins = A.tells.ins;
      outs = A.tells.outs;
      waited = A.tells.waited;
      goes_on = A.tells.goes_on;
      not_halted = A.tells.not_halted;
      looked_until = looked;
      wanted = A.tells.wanted;
    };
    is = A.is;
    draws = A.draws;
    params_are = A.params_are;
    split = A.split;
    whole = A.whole;
  }
