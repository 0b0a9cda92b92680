-- Events that change an edge, by its thief.
use Rattle.std.proofs.Common.{◌≡◌, ◌≢◌, ℕ, ◌+◌, ◌<◌, ◌⊎◌, Bool, true, false, cond, ◌&&◌, refl, sym}
use Rattle.std.proofs.Common.{ap, ◌∙◌, inl, inr, ⊎_elim}
use Rattle.glb_laws.specs.Sums.{sum_to}
use Rattle.glb_rules.specs.World.{Asked, Idle, Setup, World, WorldEdge, busy_count, has_line}
use Rattle.glb_rules.specs.World.{idle_count, same_kind, waits_on}
use Rattle.glb_rules.specs.Events.{name_of}
use Rattle.glb_rules.specs.Effects.{Change}
use Rattle.glb_rules.specs.Steps.{Becomes}
use Rattle.glb_rules.specs.Lawful.{Counted, Inner, IsLawful, ThiefSide, idle_lines_of}
use Rattle.glb_rules.specs.Lawful.{sum_of_own_edges}
use Rattle.glb_rules.proofs.EdgeLemmas.Marks.{eq_other, eq_self, same_kind_false}
use Rattle.glb_rules.proofs.Invariant.Frames.{kind_cases, own_else, own_named, pick}
use Rattle.glb_rules.proofs.Invariant.Keeping.{Balanced, Wants, keeps, touched_at}
use Rattle.glb_rules.specs.declared.kinds.Kind.{Kind}
use Rattle.glb_rules.specs.declared.kinds.Kind.TheVariants as kind
use Rattle.glb_rules.specs.declared.kinds.Phase.TheVariants as phase
use Rattle.glb_rules.specs.declared.kinds.Credit.TheVariants as credit
use Rattle.glb_rules.specs.declared.local.Local.{Local}

-- what an event of a thief owes
pub record ThiefLocal {I : Type 0} (s : Setup) (old : World I) (p : ℕ) (k : Kind) (v : ℕ) (b : Change I) :
    Type 0 where
  pub apart : p ≢ v
  pub inner : Inner s p b.place
  pub live : b.live ≡ old.live
  pub stop : b.stop ≡ old.stop
  pub not_gone : b.place.phase ≢ phase.Gone
  pub thief_else : (j : Kind) (u : ℕ) → u < s.places → (j ≢ k) ⊎ (u ≢ v)
      → ThiefSide s j p u b.place (old.edge j p u)
  pub thief_named : ThiefSide s k p v b.place b.edge
  pub marks : b.place.marks ≡ (old.place p).marks
  pub still_asked : old.edge k p v ≡ Asked → b.edge ≡ Asked
  pub can_give : b.place.phase ≡ phase.Working → b.place.credit ≢ credit.Minted
  pub wants : Wants k (old.edge k p v) → Wants k b.edge
  pub counted : (n m f : ℕ) →
      n + pick kind.Steal k (busy_count (old.edge k p v)) ≡ sum_of_own_edges s old kind.Steal p busy_count + pick kind.Steal k
      (busy_count b.edge) →
      m + pick kind.Line k (busy_count (old.edge k p v)) ≡ sum_of_own_edges s old kind.Line p busy_count + pick kind.Line k
      (busy_count b.edge) →
      f + pick kind.Line k (cond (has_line s p v) (idle_count (old.edge k p v)) 0) ≡ idle_lines_of s old p + pick
      kind.Line k (cond (has_line s p v) (idle_count b.edge) 0) →
      Counted s p b.place n m f
  pub balanced : Balanced k (touched_at old p (name_of k p v)) b

module _ {I : Type 0} (s : Setup) (old new : World I) (p : ℕ) (k : Kind) (v : ℕ) (b : Change I)
    (h : Becomes old new p (name_of k p v) b) (vl : v < s.places) where
  own_pick : (g : ℕ → WorldEdge I → ℕ) (j : Kind) →
      sum_to s.places (λ u. g u (new.edge j p u)) + pick j k (g v (old.edge k p v)) ≡ sum_to s.places
      (λ u. g u (old.edge j p u)) + pick j k (g v b.edge)
  own_pick g j = ⊎_elim (λ e. one j e) (λ d. two j d) (kind_cases j k)
    where
      picked : (n : ℕ) → pick k k n ≡ n
      picked n = elim k as (λ i. pick i i n ≡ n) [ kind.Steal ↦ refl | kind.Line ↦ refl ]

      none : (j i : Kind) (n : ℕ) → j ≢ i → pick j i n ≡ 0
      none kind.Steal kind.Steal n d = absurd (d refl)
      none kind.Steal kind.Line n d = refl
      none kind.Line kind.Steal n d = refl
      none kind.Line kind.Line n d = absurd (d refl)

      one : (j : Kind) → j ≡ k
          → sum_to s.places (λ u. g u (new.edge j p u)) + pick j k (g v (old.edge k p v)) ≡ sum_to
          s.places (λ u. g u (old.edge j p u)) + pick j k (g v b.edge)
      one j e = rw (e, picked (g v (old.edge k p v)), picked (g v b.edge))
          (own_named s old new p (name_of k p v) b h g vl)

      two : (j : Kind) → j ≢ k
          → sum_to s.places (λ u. g u (new.edge j p u)) + pick j k (g v (old.edge k p v)) ≡ sum_to
          s.places (λ u. g u (old.edge j p u)) + pick j k (g v b.edge)
      two j d = rw (none j k (g v (old.edge k p v)) d, none j k (g v b.edge) d)
          (ap (λ x. x + 0) (own_else s old new p (name_of k p v) b h g j p (inl d)))

  pub by_thief : p < s.places → IsLawful s old → ThiefLocal s old p k v b → IsLawful s new
  by_thief l L a = keeps s old new p (name_of k p v) b h l l vl L (record {
    inner = a.inner;
    gone = λ g. absurd (a.not_gone g);
    quiet = λ z. (sym a.stop ∙ z, λ n. a.live ∙ n);
    thief_else = λ j u n d.
        a.thief_else j u n (⊎_elim (λ x. inl x) (λ x. ⊎_elim (λ y. absurd (y refl)) (λ y. inr y) x) d);
    thief_named = rw h.place a.thief_named;
    victim_else = λ j u n d. let o = L.victim j u p n l
        in record { pending = rw a.marks o.pending; unseen = rw a.marks o.unseen };
    victim_named = rw (h.other_places v (λ e. a.apart (sym e)))
        (let o = L.victim k p v l vl
        in record { pending = λ x. a.still_asked (o.pending x); unseen = o.unseen });
    can_give = rw h.place (λ x y. absurd (a.can_give x y));
    wants = λ d. a.wants;
    counted = a.counted _ _ _ (own_pick (λ u. busy_count) kind.Steal) (own_pick (λ u. busy_count) kind.Line)
        (own_pick (λ u e. cond (has_line s p u) (idle_count e) 0) kind.Line);
    counted_else = λ d. absurd (d refl);
    balanced = a.balanced;
  })

-- who waits on an edge waits on no other
pub waits_else : (k : Kind) (v : ℕ) (j : Kind) (u : ℕ) → (j ≢ k) ⊎ (u ≢ v)
    → waits_on j u (phase.Waiting v k) ≡ false
waits_else k v j u d =
    ⊎_elim (λ n. rw (same_kind_false j k n) refl) (λ n. rw (eq_other u v n) (none (same_kind j k))) d
  where
    none : (b : Bool) → (b && false) ≡ false
    none true = refl
    none false = refl

pub waits_self : (k : Kind) (v : ℕ) → waits_on k v (phase.Waiting v k) ≡ true
waits_self kind.Steal v = rw (eq_self v) refl
waits_self kind.Line v = rw (eq_self v) refl

-- the other edges of a thief that becomes Waiting, or stops
pub moved_on : {I : Type 0} {s : Setup} {j : Kind} {p u : ℕ} {a b : Local I} {e : WorldEdge I} →
    ThiefSide s j p u a e → waits_on j u a.phase ≡ false → a.phase ≢ phase.Gone
    → waits_on j u b.phase ≡ false → (b.credit ≡ credit.Zero → a.credit ≡ credit.Zero)
    → ThiefSide s j p u b e
moved_on T w g n c = record {
  there = T.there;
  steal = λ e d x. T.steal e g w;
  waited = λ x. absurd (cc);
  line = λ e d. absurd (⊎_elim (λ x. cc) g (T.line e d));
  armed = λ z. T.armed (c z);
  quiet = λ z. T.quiet (c z);
  loot = T.loot;
}

-- an edge that is Idle again
pub idle_again : {I : Type 0} {s : Setup} {k : Kind} {p v : ℕ} {b : Local I}
    → waits_on k v b.phase ≡ false
    → b.credit ≢ credit.Zero → ThiefSide s k p v b Idle
idle_again w c = record {
  there = λ z. refl;
  steal = λ e d x. refl;
  waited = λ x. absurd (cc);
  line = λ e d. absurd (cc);
  armed = λ z. absurd (c z);
  quiet = λ z e. refl;
  loot = λ xs e. absurd (cc);
}
