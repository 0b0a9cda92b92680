-- What a place knows of its own side after it did something as a thief.
use Rattle.std.proofs.Common.{◌≡◌, ◌≢◌, ℕ, ◌<◌, ⊎_elim, true, false, cond, ◌&&◌, ◌==◌, List, length, refl, sym, ap, ◌∙◌, subst}
use Rattle.glb_rules.specs.World.{Asked, has_edge, mark_at, same_kind, waits_on}
use Rattle.glb_rules.specs.Events.{name_of}
use Rattle.glb_rules.specs.Lawful.{PhaseFits}
use Rattle.glb_rules.specs.inner.OwnSide.{OwnSide}
use Rattle.glb_rules.proofs.EdgeLemmas.Marks.{eq_self, same_kind_true}
use Rattle.glb_rules.specs.declared.kinds.Kind.{Kind}
use Rattle.glb_rules.specs.declared.kinds.Kind.TheVariants as kind
use Rattle.glb_rules.specs.declared.kinds.Edge.{Edge}
use Rattle.glb_rules.specs.declared.kinds.Edge.TheVariants as seen
use Rattle.glb_rules.specs.declared.kinds.Phase.{Phase}
use Rattle.glb_rules.specs.declared.kinds.Phase.TheVariants as phase
use Rattle.glb_rules.specs.declared.local.Local.{Local}
use Rattle.glb_place.specs.declared.record.KnownEdge.{KnownEdge}
use Rattle.glb_place.specs.declared.record.Record.{Record}
use Rattle.glb_place.specs.Records.{known_at, edge_like, setup_in, world_in}
use Rattle.glb_place.proofs.KnownFacts.{with_known, out_known, out_known_in}
use Rattle.glb_place.proofs.TellsFacts.{names_cases}

-- a place waits on the edge that it waits on
pub waits_self : (k : Kind) (v : ℕ) → waits_on k v (phase.Waiting v k) ≡ true
waits_self k v = (λ i. same_kind_true k k refl i && (v == v)) ∙ eq_self v

-- a place that waits on one edge waits on no other
pub waits_else : (k j : Kind) (v u : ℕ) → (same_kind k j && (v == u)) ≡ false
    → waits_on j u (phase.Waiting v k) ≡ false
waits_else k j v u q = ⊎_elim
    (λ (h : (j ≡ k) × (u ≡ v)).
    let e : true ≡ false =
    sym ((λ i. same_kind_true k k refl i && (v == v)) ∙ eq_self v)
    ∙ (λ i. same_kind k (sym h.0 i) && (v == sym h.1 i)) ∙ q in cc)
    (λ e. e) (names_cases j k u v)

-- the edge waited on, if there is one, is there
abbrev pub Near : {I : Type 0} → Record I → Phase → Type 0
Near r phase.Working = Unit {0}
Near r phase.Idle = Unit {0}
Near r (phase.Waiting v k) = (v < r.lines.places) × (has_edge (setup_in r) k r.place v ≡ true)
Near r phase.Asleep = Unit {0}
Near r phase.Gone = Unit {0}

-- the edge waited on is there
pub near_of : {I : Type 0} (r : Record I) (f : Phase) → Near r f → (v : ℕ) (k : Kind)
    → f ≡ phase.Waiting v k → (v < r.lines.places) × (has_edge (setup_in r) k r.place v ≡ true)
near_of r f h v k e = subst (Near r) e h

-- an edge of the place is known to be in another state
module _ {I : Type 0} (r : Record I) (a : Local I) (k : Kind) (v : ℕ) (x : Edge)
    (other : v ≢ r.place)
    (own : OwnSide (setup_in r) (world_in r) r.place) (marks : a.marks ≡ r.local.marks) where
  -- what is known, with the one edge in front
  abbrev known : List KnownEdge
  known = with_known (name_of k r.place v) x r.known

  -- of the own edges one is known to be in another state
  known_out : (j : Kind) (u : ℕ) → known_at known j r.place u
      ≡ cond (same_kind k j && (v == u)) x (known_at r.known j r.place u)
  known_out j u = out_known k v r.place x r.known j u

  -- the own side after one own edge is known to be in another state
  pub own_out : PhaseFits a.phase a.credit (length a.bag) → Near r a.phase
      → (k ≡ kind.Steal → waits_on kind.Steal v a.phase ≡ false → x ≡ seen.Idle)
      → ((u : ℕ) → (same_kind k kind.Steal && (v == u)) ≡ false → waits_on kind.Steal u a.phase
      ≡ false
      → waits_on kind.Steal u r.local.phase ≡ false)
      → (k ≡ kind.Line → x ≡ seen.Asked → waits_on kind.Line v a.phase ≡ true)
      → ((u : ℕ) → (same_kind k kind.Line && (v == u)) ≡ false → waits_on kind.Line u r.local.phase
      ≡ true
      → waits_on kind.Line u a.phase ≡ true)
      → OwnSide (setup_in r) (world_in (record r { known = known; local = a })) r.place
  own_out fits near steal_here steal_else line_here line_else = record {
    fits = fits;
    near = near_of r a.phase near;
    pending = λ j u l e.
        ap (edge_like {I = I}) (out_known_in k v r.place x r.known other j u)
        ∙ own.pending j u l (ap (λ ms. mark_at ms j u) (sym marks) ∙ e);
    steal = λ u l e. ⊎_elim
        (λ (h : (k ≡ kind.Steal) × (v ≡ u)).
        let w : waits_on kind.Steal v a.phase ≡ false = ap (λ n. waits_on kind.Steal n a.phase) h.1
        ∙ e in
        let same : (same_kind k kind.Steal && (v == u)) ≡ true =
        (λ i. same_kind (h.0 i) kind.Steal && (v == sym h.1 i)) ∙ eq_self v in
        ap (edge_like {I = I}) (known_out kind.Steal u
        ∙ ap (λ b. cond b x (known_at r.known kind.Steal r.place u)) same ∙ steal_here h.0 w))
        (λ q. ap (edge_like {I = I}) (known_out kind.Steal u
        ∙ ap (λ b. cond b x (known_at r.known kind.Steal r.place u)) q)
        ∙ own.steal u l (steal_else u q e))
        (names_cases k kind.Steal v u);
    line = λ u l e. ⊎_elim
        (λ (h : (k ≡ kind.Line) × (v ≡ u)).
        let same : (same_kind k kind.Line && (v == u)) ≡ true =
        (λ i. same_kind (h.0 i) kind.Line && (v == sym h.1 i)) ∙ eq_self v in
        let y : edge_like {I = I} x ≡ Asked =
        sym (ap (edge_like {I = I}) (known_out kind.Line u
        ∙ ap (λ b. cond b x (known_at r.known kind.Line r.place u)) same)) ∙ e in
        ap (λ n. waits_on kind.Line n a.phase) (sym h.1) ∙ line_here h.0 (asked_is x y))
        (λ q. line_else u q (own.line u l
        (sym (ap (edge_like {I = I}) (known_out kind.Line u
        ∙ ap (λ b. cond b x (known_at r.known kind.Line r.place u)) q)) ∙ e)))
        (names_cases k kind.Line v u);
  }
    where
      asked_is : (y : Edge) → edge_like {I = I} y ≡ Asked → y ≡ seen.Asked
      asked_is seen.Idle e = absurd (cc)
      asked_is seen.Asked e = refl
      asked_is seen.Refused e = absurd (cc)
      asked_is seen.Loot e = absurd (cc)
