-- What an event changes a place sees only if it is at one of the ends of the edge that the event
-- changes.
use Rattle.std.specs.Prelude.{min, ◌==◌}
use Rattle.std.proofs.Common.{◌≡◌, ◌≢◌, ◌++◌, ℕ, ◌-◌, ◌^◌, ◌<◌, ◌⊎◌, List, [], ◌∷◌, cond, length}
use Rattle.std.proofs.Common.{map, get_or, set, refl, sym, ap, ◌∙◌, subst, inl, inr, ⊎_elim, arith}
use Rattle.std.proofs.Math.Seq.{map-set_same}
use Rattle.std.proofs.lemmas.Bool.{cases_eq}
use Rattle.std.proofs.lemmas.List.{get_or-set_same, get_or-set_other, length-set}
use Rattle.glb_rules.specs.World.{Setup, World, has_edge, mark_at, state_of}
use Rattle.glb_rules.specs.Draws.{drawn}
use Rattle.glb_rules.specs.Events.{actor, edge_of}
use Rattle.glb_rules.specs.Steps.{Step}
use Rattle.glb_rules.specs.Sight.{sight_at, state_at, in_edge, in_edges, out_edge, edge_waited}
use Rattle.glb_rules.specs.Events.{NamesBelow}
use Rattle.glb_rules.specs.declared.kinds.Kind.{Kind}
use Rattle.glb_rules.specs.declared.kinds.Kind.TheVariants as kind
use Rattle.glb_rules.specs.declared.kinds.Phase.{Phase}
use Rattle.glb_rules.specs.declared.kinds.Phase.TheVariants as phase
use Rattle.glb_rules.specs.declared.local.Local.{Local}
use Rattle.glb_rules.specs.declared.event.Event.{Event}
use Rattle.glb_rules.specs.declared.event.Event.TheVariants as event
use Rattle.glb_rules.proofs.Invariant.Frames.{name_cases}
use Rattle.glb_laws.proofs.Joins.{join_same}
use Rattle.glb_rules.specs.Events.{other_end}

map_same : {A C : Type 0} (f g : A → C) → ((x : A) → g x ≡ f x) → (xs : List A) → map g xs
    ≡ map f xs
map_same f g h [] = refl
map_same f g h (x ∷ xs) = ap (λ y. y ∷ map g xs) (h x) ∙ ap (λ ys. f x ∷ ys) (map_same f g h xs)

-- the place at the other end is there
pub other_below : (n : ℕ) (e : Event) → NamesBelow n e → other_end e < n
other_below n (event.Look q t k) b = b.0
other_below n (event.Batch q) b = b.0
other_below n (event.Ask q v k) b = b.2
other_below n (event.Deny q t k) b = b.1
other_below n (event.Mint q) b = b.0
other_below n (event.Give q t k) b = b.1
other_below n (event.Take q v k) b = b.2
other_below n (event.Burn q) b = b.0
other_below n (event.Shrug q v k) b = b.2
other_below n (event.Sleep q) b = b.0
other_below n (event.Leave q) b = b.0
other_below n (event.Halt q c) b = b.0

-- an event leaves the edge that it names as it was for a place at neither of its ends
named_stays : {I : Type 0} (children : I
    → List I) (s : Setup) (old new : World I) (p : ℕ) (e : Event)
    → Step children s old e new → p ≢ actor e → p ≢ other_end e
    → ((edge_of e).thief ≡ p) ⊎ ((edge_of e).victim ≡ p)
    → new.edge (edge_of e).kind (edge_of e).thief (edge_of e).victim
    ≡ old.edge (edge_of e).kind (edge_of e).thief (edge_of e).victim
named_stays children s old new p (event.Look q t k) st a b h = st.becomes.edge
named_stays children s old new p (event.Batch q) st a b h = st.becomes.edge
named_stays children s old new p (event.Ask q v k) st a b h = absurd
    (⊎_elim (λ e. a (sym e)) (λ e. b (sym e)) h)
named_stays children s old new p (event.Deny q t k) st a b h = absurd
    (⊎_elim (λ e. b (sym e)) (λ e. a (sym e)) h)
named_stays children s old new p (event.Mint q) st a b h = st.becomes.edge
named_stays children s old new p (event.Give q t k) st a b h = absurd
    (⊎_elim (λ e. b (sym e)) (λ e. a (sym e)) h)
named_stays children s old new p (event.Take q v k) st a b h = absurd
    (⊎_elim (λ e. a (sym e)) (λ e. b (sym e)) h)
named_stays children s old new p (event.Burn q) st a b h = st.becomes.edge
named_stays children s old new p (event.Shrug q v k) st a b h = absurd
    (⊎_elim (λ e. a (sym e)) (λ e. b (sym e)) h)
named_stays children s old new p (event.Sleep q) st a b h = st.becomes.edge
named_stays children s old new p (event.Leave q) st a b h = st.becomes.edge
named_stays children s old new p (event.Halt q c) st a b h = st.becomes.edge

module _ {I : Type 0} (children : I → List I) (s : Setup) (old new : World I) (e : Event)
    (st : Step children s old e new) (p : ℕ) (away : p ≢ actor e) (apart : p ≢ other_end e) where
  place_stays : new.place p ≡ old.place p
  place_stays = st.becomes.other_places p away

  pub state_stays : (seed : ℕ) → state_at seed s new p ≡ state_at seed s old p
  state_stays seed =
      let a = place_stays in
      λ i. record {
        place = p;
        phase = (a i).phase;
        credit = (a i).credit;
        tries = (a i).tries;
        victim = drawn seed s.places p (a i).count.asks;
        size = min (length (a i).bag) (2 ^ 64 - 1);
      }

  edge_stays : (k : Kind) (t v : ℕ) → (t ≡ p) ⊎ (v ≡ p) → new.edge k t v ≡ old.edge k t v
  edge_stays k t v h = ⊎_elim
      (λ same.
      let at_end : ((edge_of e).thief ≡ p) ⊎ ((edge_of e).victim ≡ p) =
      ⊎_elim (λ z. inl (sym same.1 ∙ z)) (λ z. inr (sym same.2 ∙ z)) h
      in
      rw (same.0, same.1, same.2) (named_stays children s old new p e st away apart at_end))
      (λ else. st.becomes.other_edges k t v else)
      (name_cases (edge_of e) k t v)

  in_edge_stays : (k : Kind) (t : ℕ) → in_edge new p k t ≡ in_edge old p k t
  in_edge_stays k t =
      let a = place_stays in
      let b = edge_stays k t p (inr refl) in
      λ i. record { thief = t; kind = k; mark = mark_at (a i).marks k t; edge = state_of (b i) }

  in_edges_stay : (k : Kind) → in_edges s new p k ≡ in_edges s old p k
  in_edges_stay k = join_same s.places (λ t. cond (has_edge s k t p) (in_edge old p k t ∷ []) [])
      (λ t. cond (has_edge s k t p) (in_edge new p k t ∷ []) [])
      (λ t l. ap (λ y. cond (has_edge s k t p) (y ∷ []) []) (in_edge_stays k t))

  out_edge_stays : (v : ℕ) → out_edge new p v ≡ out_edge old p v
  out_edge_stays v =
      let b = edge_stays kind.Line p v (inl refl) in λ i. record { victim = v; edge = state_of (b i) }

  waited_stays : (y : Phase) → edge_waited new p y ≡ edge_waited old p y
  waited_stays phase.Working = refl
  waited_stays phase.Idle = refl
  waited_stays (phase.Waiting v k) = ap state_of (edge_stays k p v (inl refl))
  waited_stays phase.Asleep = refl
  waited_stays phase.Gone = refl

  pub sight_stays : (new.live == 0) ≡ (old.live == 0) → new.stop ≡ old.stop
      → sight_at s new p ≡ sight_at s old p
  sight_stays ended stop =
      let steals = in_edges_stay kind.Steal in
      let lines = in_edges_stay kind.Line in
      let outs = map_same (out_edge old p) (out_edge new p) out_edge_stays (s.outs p) in
      let waited =
      ap (λ (a : Local I). edge_waited new p a.phase) place_stays ∙ waited_stays (old.place p).phase
      in
      λ i. record {
        ins = steals i ++ lines i;
        outs = outs i;
        waited = waited i;
        ended = ended i;
        stop = stop i;
      }
