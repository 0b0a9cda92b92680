-- What is known of a place stays known where an event changes nothing that the place sees.
use Rattle.std.specs.Prelude.{◌==◌}
use Rattle.std.proofs.Common.{◌≡◌, ◌≢◌, ℕ, ◌<◌, List, length}
use Rattle.std.proofs.Common.{map, get_or, set, sym, ap, ◌∙◌, subst, inl, inr, ⊎_elim, arith}
use Rattle.std.proofs.Math.Seq.{map-set_same}
use Rattle.std.proofs.lemmas.Bool.{cases_eq}
use Rattle.std.proofs.lemmas.List.{get_or-set_same, get_or-set_other, length-set}
use Rattle.glb_cube.specs.Lines.{Cube}
use Rattle.glb_rules.specs.World.{Setup, World}
use Rattle.glb_rules.specs.Events.{actor, name_of}
use Rattle.glb_rules.specs.Effects.{mark_after_look}
use Rattle.glb_rules.specs.Decision.{decide}
use Rattle.glb_rules.specs.Sight.{Sight, sight_at, state_at}
use Rattle.glb_core.specs.Seen.{IsMadeFor, sight}
use Rattle.glb_core.specs.Tables.{WorldView}
use Rattle.glb_core.specs.Standing.{Represents}
use Rattle.glb_rules.specs.declared.kinds.Kind.{Kind}
use Rattle.glb_rules.specs.declared.params.Params.{Params}
use Rattle.glb_rules.specs.declared.local.EdgeName.{EdgeName}
use Rattle.glb_rules.specs.declared.edges.InEdge.{InEdge}
use Rattle.glb_rules.specs.declared.edges.OutEdge.{OutEdge}
use Rattle.glb_rules.specs.declared.place_state.PlaceState.{PlaceState}
use Rattle.glb_rules.specs.declared.event.Event.{Event}
use Rattle.glb_rules.specs.declared.event.Event.TheVariants as event
use Rattle.glb_core.proofs.CallerLemmas.{sights_agree, states_agree}
use Rattle.glb_rules.proofs.CallerLemmas.{state_stays, sight_stays}
use Rattle.glb_turns.proofs.LookFacts.{look_sight, look_state, looks_on}
use Rattle.glb_rules.specs.Events.{other_end}
use Rattle.glb_turns.specs.inner.Watches.{LooksAt, LooksBy, LooksOn, LookedOn, NotesLook, Knows}
use Rattle.glb_turns.specs.inner.Watches.{IsWatchOf, HasWatches, AreStale, Follows, forgotten}
use Rattle.glb_turns.specs.inner.Watches.{looked_at}
use Rattle.glb_turns.specs.declared.watch.Knowledge.{Knowledge}
use Rattle.glb_turns.specs.declared.watch.Knowledge.TheVariants as knowledge
use Rattle.glb_turns.specs.declared.watch.Watch.{Watch}

-- where two worlds are the same for a place, the same is known of it
knows_moved : {I : Type 0} (seed : ℕ) (s t : Setup) (w v : World I) (p : ℕ) (z : Sight) (k : Knowledge)
    → sight_at t v p ≡ sight_at s w p → state_at seed t v p ≡ state_at seed s w p
    → Knows seed s w p z k → Knows seed t v p z k
knows_moved seed s t w v p z knowledge.Stale a b h = tt
knows_moved seed s t w v p z knowledge.Fresh a b h = h ∙ sym a
knows_moved seed s t w v p z (knowledge.Looks at) a b h =
    (h.0 ∙ sym a, subst (λ y. LooksAt y z at) (sym b) h.1)
knows_moved seed s t w v p z knowledge.Passes a b h = ⊎_elim
    (λ gone. inl (ap (λ (y : PlaceState). y.phase) b ∙ gone))
    (λ polls. inr ((λ i. decide (b i) (a i)) ∙ polls)) h

-- where a watch is put, and the others hold, all hold
pub watch_set : (R : ℕ → Watch → Type 0) (ws : List Watch) (q : ℕ) (z : Watch)
    → ((p : ℕ) (d : Watch) → p < length ws → p ≢ q → R p (get_or ws p d)) → R q z
    → (p : ℕ) (d : Watch) → p < length (set ws q z) → R p (get_or (set ws q z) p d)
watch_set R ws q z all one p d l =
    let within : p < length ws = omega (arith, length-set ws q z) in
    ⊎_elim
    (λ (same : p ≡ q). subst (R p)
    (sym (ap (λ k. get_or (set ws q z) k d) same ∙ get_or-set_same ws q z d (omega arith)))
    (subst (λ k. R k z) (sym same) one))
    (λ (other : p ≢ q). subst (R p) (sym (get_or-set_other ws q p z d other)) (all p d within other))
    (cases_eq p q)

module _ {B I V : Type 0} (items : B → List I) (x : WorldView B V) where
  -- nothing needs to be known
  pub stale_watch : (p : ℕ) (z : Watch) → IsMadeFor x.cube p (sight z.seen)
      → IsWatchOf items x p (forgotten z)
  stale_watch p z made = record { made = made; known = λ s w S. tt }

  pub watches_start : (c : Cube) (ws : List Watch) → c ≡ x.cube → AreStale c ws
      → HasWatches items x ws
  watches_start c ws same stale p d l = record {
    made = subst (λ b. IsMadeFor b p (sight (get_or ws p d).seen)) same (stale p d l).0;
    known = λ s w S. subst (λ k. Knows x.params.seed s w p (sight (get_or ws p d).seen) k)
        (sym (stale p d l).1) tt;
  }

  pub watches_forgotten : (y : WorldView B V) (ws us : List Watch) → y.cube ≡ x.cube
      → length us ≡ length ws
      → ((p : ℕ) (d : Watch) → p < length ws → get_or us p d ≡ forgotten (get_or ws p d))
      → HasWatches items x ws → HasWatches items y us
  watches_forgotten y ws us same many stale all p d l =
      let within : p < length ws = omega (arith, many) in
      let made : IsMadeFor y.cube p (sight (get_or ws p d).seen) =
      subst (λ b. IsMadeFor b p (sight (get_or ws p d).seen)) (sym same) (all p d within).made
      in
      subst (IsWatchOf items y p) (sym (stale p d within))
      (record { made = made; known = λ s w S. tt })

module _ {B I V : Type 0} (items : B → List I) (children : I → List I) (old new : WorldView B V)
    (e : Event) (f : Follows items children old e new)
    (ended : (new.live == 0) ≡ (old.live == 0)) (stop : new.stop ≡ old.stop) where
  -- what is known of a place is still known where the event changes nothing that the place sees
  watch_kept : (p : ℕ) (z : Watch) → p < new.cube.places → p ≢ actor e → p ≢ other_end e
      → IsWatchOf items old p z → IsWatchOf items new p z
  watch_kept p z below away apart h = record {
    made = subst (λ c. IsMadeFor c p (sight z.seen)) (sym f.cube) h.made;
    known = λ t v T.
        let over : (f.next.live == 0) ≡ (f.before.live == 0) =
        ap (λ l. l == 0) (sym f.stands.shows.live) ∙ ended ∙ ap (λ l. l == 0) f.stood.shows.live
        in
        let halt = sym f.stands.shows.stop ∙ stop ∙ f.stood.shows.stop in
        let sees =
        sights_agree items new f.setup t f.next v f.stands T p below
        ∙ sight_stays children f.setup f.before f.next e f.step p away apart over halt
        in
        let is =
        states_agree items new f.setup t f.next v f.stands T p below
        ∙ state_stays children f.setup f.before f.next e f.step p away apart new.params.seed
        in
        let knew : Knows new.params.seed f.setup f.before p (sight z.seen) z.knowledge =
        subst (λ (q : Params). Knows q.seed f.setup f.before p (sight z.seen) z.knowledge) (sym f.params)
        (h.known f.setup f.before f.stood)
        in
        knows_moved new.params.seed f.setup t f.before v p (sight z.seen) z.knowledge sees is knew;
  }

  -- the watch was made for the place, and holds but for where this does not
  abbrev Holds : (ℕ → Type 0) → ℕ → Watch → Type 0
  Holds Q p z = IsMadeFor new.cube p (sight z.seen) × (Q p → IsWatchOf items new p z)

  -- all is known still, but of the two places, which are forgotten
  pub watches_noticed : (ws mid us : List Watch) (a b : ℕ) → length ws ≡ new.cube.places
      → a ≡ actor e → b ≡ other_end e → a < length ws → b < length ws
      → ((d : Watch) → mid ≡ set ws a (forgotten (get_or ws a d)))
      → ((d : Watch) → us ≡ set mid b (forgotten (get_or mid b d)))
      → HasWatches items old ws → HasWatches items new us
  watches_noticed ws mid us a b many is_actor is_other l m first second all p d n =
      let Q : ℕ → Type 0 = λ q. q ≢ other_end e in
      let made : (q : ℕ) (y : Watch) → q < length ws
      → IsMadeFor new.cube q (sight (get_or ws q y).seen) =
      λ q y k. subst (λ c. IsMadeFor c q (sight (get_or ws q y).seen)) (sym f.cube) (all q y k).made
      in
      let one : (q : ℕ) (y : Watch) → q < length mid → Holds Q q (get_or mid q y) =
      λ q y. subst (λ zs. q < length zs → Holds Q q (get_or zs q y)) (sym (first d))
      (watch_set (Holds Q) ws a (forgotten (get_or ws a d))
      (λ j u k other. (
        made j u k,
        λ apart. watch_kept j (get_or ws j u) (omega arith) (λ z. other (z ∙ sym is_actor)) apart
            (all j u k),
      ))
      (made a d l, λ apart. stale_watch items new a (get_or ws a d) (made a d l)) q y)
      in
      let wide : length mid ≡ length ws =
      ap length (first d) ∙ length-set ws a (forgotten (get_or ws a d))
      in
      let here = (one b d (omega arith)).0 in
      subst (λ zs. p < length zs → IsWatchOf items new p (get_or zs p d)) (sym (second d))
      (watch_set (IsWatchOf items new) mid b (forgotten (get_or mid b d))
      (λ j u k other. (one j u k).1 (λ z. other (z ∙ sym is_other)))
      (stale_watch items new b (get_or mid b d) here) p d) n

-- the name of an in-edge
abbrev name_in : ℕ → InEdge → EdgeName
name_in q x = name_of x.kind x.thief q

module _ {B I V : Type 0} (items : B → List I) (children : I → List I) (old new : WorldView B V)
    (q t : ℕ) (k : Kind) (f : Follows items children old (event.Look q t k) new)
    (ended : (new.live == 0) ≡ (old.live == 0)) (stop : new.stop ≡ old.stop)
    (below : q < new.cube.places) where
  module _ (z y : Watch) (h : IsWatchOf items old q z) (n : LookedOn t k z y) where
    knew : Knows old.params.seed f.setup f.before q (sight z.seen) (knowledge.Looks n.at)
    knew = subst (λ j. Knows old.params.seed f.setup f.before q (sight z.seen) j) n.looks
        (h.known f.setup f.before f.stood)

    looked_made : IsMadeFor new.cube q (sight y.seen)
    looked_made =
        let made = subst (λ c. IsMadeFor c q (sight z.seen)) (sym f.cube) h.made in
        record {
          ins = ap (λ (v : Sight). map (name_in q) v.ins) n.sees
              ∙ map-set_same (name_in q) z.seen.ins.items n.at
              (record (n.edge) { mark = mark_after_look n.edge.edge }) n.edge (ap (name_in q) n.found)
              ∙ made.ins;
          outs = ap (λ (v : Sight). map (λ (o : OutEdge). o.victim) v.outs) n.sees ∙ made.outs;
        }

    looked_sees : sight y.seen ≡ sight_at f.setup f.next q
    looked_sees =
        let same = ap (λ (v : Sight). v.ins) knew.0 in
        let within = subst (λ xs. n.at < length xs) same n.within in
        let found = n.found ∙ ap (λ xs. get_or xs n.at n.edge) same in
        n.sees ∙ ap (λ v. looked_at v n.at n.edge) knew.0
        ∙ sym (look_sight children f.setup f.before f.next q t k f.step n.at n.edge within found
        n.thief n.kind)

    looked_knows : (u : Setup) (v : World I) → Represents items u new v → (j : Knowledge)
        → LooksOn y.seen.ins.items n.at j → Knows new.params.seed u v q (sight y.seen) j
    looked_knows u v T knowledge.Stale on = tt
    looked_knows u v T knowledge.Fresh on =
        looked_sees ∙ sym (sights_agree items new f.setup u f.next v f.stands T q below)
    looked_knows u v T (knowledge.Looks i) on =
        let is =
        states_agree items new f.setup u f.next v f.stands T q below
        ∙ look_state children f.setup f.before f.next q t k f.step new.params.seed
        in
        let seeded : LooksAt (state_at new.params.seed f.setup f.before q) (sight z.seen) n.at =
        subst (λ (c : Params). LooksAt (state_at c.seed f.setup f.before q) (sight z.seen) n.at)
        (sym f.params) knew.1
        in
        let here : LooksAt (state_at new.params.seed u v q) (sight z.seen) n.at =
        subst (λ a. LooksAt a (sight z.seen) n.at) (sym is) seeded
        in
        let next =
        subst (λ (c : Sight). LooksOn c.ins n.at (knowledge.Looks i)) n.sees on
        in (
          looked_sees ∙ sym (sights_agree items new f.setup u f.next v f.stands T q below),
          subst (λ c. LooksAt (state_at new.params.seed u v q) c i) (sym n.sees)
              (looks_on (state_at new.params.seed u v q) (sight z.seen) n.at i n.edge here next),
        )
    looked_knows u v T knowledge.Passes on = absurd on

    watch_looked : IsWatchOf items new q y
    watch_looked = record {
      made = looked_made;
      known = λ u v T. looked_knows u v T y.knowledge n.next;
    }

  -- the place that looked sees what it found, or is forgotten, and all is known still of the others
  pub watches_looked : (ws : List Watch) (y : Watch) → length ws ≡ new.cube.places
      → NotesLook t k (get_or ws q y) y → HasWatches items old ws
      → HasWatches items new (set ws q y)
  watches_looked ws y many notes all = watch_set (IsWatchOf items new) ws q y
      (λ p d l other. watch_kept items children old new (event.Look q t k) f ended stop p (get_or ws p d)
      (omega (arith, many)) other other (all p d l))
      (let l : q < length ws = omega (arith, many) in
      let made =
      subst (λ c. IsMadeFor c q (sight (get_or ws q y).seen)) (sym f.cube) (all q y l).made
      in
      ⊎_elim
      (λ (e : y ≡ forgotten (get_or ws q y)). subst (IsWatchOf items new q) (sym e)
      (stale_watch items new q (get_or ws q y) made))
      (λ n. watch_looked (get_or ws q y) y (all q y l) n) notes)

-- what is known of a place by its state and by all that it can see
pub known_by : {I : Type 0} (seed : ℕ) (s : Setup) (w : World I) (p : ℕ) (a : PlaceState) (z : Sight)
    (k : Knowledge) → a ≡ state_at seed s w p → z ≡ sight_at s w p → LooksBy a z k
    → Knows seed s w p z k
known_by seed s w p a z knowledge.Stale is sees h = tt
known_by seed s w p a z knowledge.Fresh is sees h = sees
known_by seed s w p a z (knowledge.Looks at) is sees h = (sees, subst (λ b. LooksAt b z at) is h)
known_by seed s w p a z knowledge.Passes is sees h = absurd h
