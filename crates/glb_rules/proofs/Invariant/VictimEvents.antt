-- Events that change an edge, by its victim.
use Rattle.std.proofs.Common.{◌≡◌, ◌≢◌, ℕ, ◌<◌, ◌⊎◌, true, cond, length, refl, sym, ◌∙◌, inl, inr}
use Rattle.std.proofs.Common.{⊎_elim}
use Rattle.glb_rules.specs.World.{Asked, Setup, World, WorldEdge, busy_count, has_edge, has_line}
use Rattle.glb_rules.specs.World.{idle_count, mark_at, put_mark}
use Rattle.glb_rules.specs.Events.{name_of}
use Rattle.glb_rules.specs.Effects.{Change}
use Rattle.glb_rules.specs.Steps.{Becomes, IsWanted}
use Rattle.glb_rules.specs.Lawful.{Counted, Inner, IsLawful, ThiefSide, VictimSide, idle_lines_of}
use Rattle.glb_rules.specs.Lawful.{sum_of_own_edges}
use Rattle.glb_rules.proofs.EdgeLemmas.Marks.{set_mark_at, set_mark_else}
use Rattle.glb_rules.proofs.Invariant.Frames.{own_else}
use Rattle.glb_laws.proofs.Joins.{same}
use Rattle.glb_rules.proofs.Invariant.Keeping.{Balanced, keeps, touched_at}
use Rattle.glb_rules.proofs.Invariant.PlaceEvents.{thief_same}
use Rattle.glb_rules.specs.declared.kinds.Kind.{Kind}
use Rattle.glb_rules.specs.declared.kinds.Kind.TheVariants as kind
use Rattle.glb_rules.specs.declared.kinds.Phase.TheVariants as phase
use Rattle.glb_rules.specs.declared.kinds.Credit.TheVariants as credit
use Rattle.glb_rules.specs.declared.kinds.Mark.{Mark}
use Rattle.glb_rules.specs.declared.kinds.Mark.TheVariants as mark
use Rattle.glb_rules.specs.declared.local.Local.{Local}

-- what an event of a victim owes
pub record ServedLocal {I : Type 0} (s : Setup) (old new : World I) (p : ℕ) (k : Kind) (t : ℕ)
    (b : Change I) : Type 0 where
  pub apart : t ≢ p
  pub inner : Inner s p b.place
  pub live : b.live ≡ old.live
  pub stop : b.stop ≡ old.stop
  pub same_phase : b.place.phase ≡ (old.place p).phase
  pub not_gone : (old.place p).phase ≢ phase.Gone
  pub same_credit : b.place.credit ≡ credit.Zero → (old.place p).credit ≡ credit.Zero
  pub thief_named : ThiefSide s k t p (old.place t) b.edge
  pub victim_else : (j : Kind) (u : ℕ) → u < s.places → (j ≢ k) ⊎ (u ≢ t)
      → VictimSide s j u p b.place (old.edge j u p)
  pub victim_named : VictimSide s k t p b.place b.edge
  pub can_give : b.place.phase ≡ phase.Working → b.place.credit ≡ credit.Minted
      → (1 < length b.place.bag)
      × IsWanted s new p
  pub counted : Counted s p b.place (sum_of_own_edges s old kind.Steal p busy_count) (sum_of_own_edges s old kind.Line p busy_count)
      (idle_lines_of s old p)
  pub same_busy : busy_count b.edge ≡ busy_count (old.edge k t p)
  pub same_idle : idle_count b.edge ≡ idle_count (old.edge k t p)
  pub balanced : Balanced k (touched_at old p (name_of k t p)) b

pub served : {I : Type 0} (s : Setup) (old new : World I) (p : ℕ) (k : Kind) (t : ℕ) (b : Change I)
    → Becomes old new p (name_of k t p) b →
    p < s.places → t < s.places → IsLawful s old → ServedLocal s old new p k t b → IsLawful s new
served s old new p k t b h l m L a = keeps s old new p (name_of k t p) b h l m l L (record {
  inner = a.inner;
  gone = λ g. absurd (a.not_gone (sym a.same_phase ∙ g));
  quiet = λ z. (sym a.stop ∙ z, λ n. a.live ∙ n);
  thief_else = λ j v n d. thief_same (L.thief j p v l n) a.same_phase a.same_credit;
  thief_named = rw (h.other_places t a.apart) a.thief_named;
  victim_else = λ j u n d.
      a.victim_else j u n (⊎_elim (λ x. inl x) (λ x. ⊎_elim (λ y. inr y) (λ y. absurd (y refl)) x) d);
  victim_named = rw h.place a.victim_named;
  can_give = rw h.place a.can_give;
  wants = λ d. absurd (d refl);
  counted = rw (
    own_else s old new p (name_of k t p) b h (λ v. busy_count) kind.Steal p (inr (λ e. a.apart (sym e))),
    own_else s old new p (name_of k t p) b h (λ v. busy_count) kind.Line p (inr (λ e. a.apart (sym e))),
    own_else s old new p (name_of k t p) b h (λ v e. cond (has_line s p v) (idle_count e) 0) kind.Line p
        (inr (λ e. a.apart (sym e))),
  ) a.counted;
  counted_else = λ d. (a.same_busy, a.same_idle);
  balanced = a.balanced;
})

-- one mark of the victim set
pub victim_set : {I : Type 0} {s : Setup} {a b : Local I} {e : WorldEdge I} (k : Kind) (t : ℕ) (x : Mark)
    (j : Kind) (u p : ℕ) →
    b.marks ≡ put_mark a.marks k t x → (j ≢ k) ⊎ (u ≢ t) → VictimSide s j u p a e
    → VictimSide s j u p b e
victim_set {a = a} k t x j u p same d o = record {
  pending = rw (same, set_mark_else (mark_at a.marks) k t x j u d) o.pending;
  unseen = rw (same, set_mark_else (mark_at a.marks) k t x j u d) o.unseen;
}

pub victim_at : {I : Type 0} {s : Setup} {b : Local I} {e : WorldEdge I} (a : Local I) (k : Kind) (t p : ℕ)
    (x : Mark) →
    b.marks ≡ put_mark a.marks k t x → (x ≡ mark.Pending → e ≡ Asked) → has_edge s k t p ≡ true
    → VictimSide s k t p b e
victim_at a k t p x same d there = record {
  pending = rw (same, set_mark_at (mark_at a.marks) k t x) d;
  unseen = λ f. absurd (cc);
}
