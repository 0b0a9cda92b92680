-- Events that change one place and no edge.
use Rattle.std.proofs.Common.{◌≡◌, ℕ, ◌<◌, ◌≤◌, cond, length, refl, ap, arith}
use Rattle.glb_rules.specs.World.{Setup, World, WorldEdge, busy_count, has_line, idle_count}
use Rattle.glb_rules.specs.World.{credit_count}
use Rattle.glb_rules.specs.Effects.{Change}
use Rattle.glb_rules.specs.Steps.{Becomes, IsWanted}
use Rattle.glb_rules.specs.Lawful.{Counted, Inner, IsLawful, ThiefSide, VictimSide, idle_lines_of}
use Rattle.glb_rules.specs.Lawful.{sum_of_own_edges}
use Rattle.glb_rules.proofs.Invariant.Frames.{own_kept}
use Rattle.glb_rules.proofs.Invariant.Keeping.{Balanced, keeps, touched_at, wanted_kept}
use Rattle.glb_rules.proofs.Sums.Totals.{term_le}
use Rattle.glb_rules.specs.declared.kinds.Kind.{Kind}
use Rattle.glb_rules.specs.declared.kinds.Kind.TheVariants as kind
use Rattle.glb_rules.specs.declared.kinds.Phase.TheVariants as phase
use Rattle.glb_rules.specs.declared.kinds.Credit.TheVariants as credit
use Rattle.glb_rules.specs.declared.local.EdgeName.{EdgeName}
use Rattle.glb_rules.specs.declared.local.Local.{Local}

-- a thief that keeps its phase and gains no Zero
pub thief_same : {I : Type 0} {s : Setup} {k : Kind} {t v : ℕ} {a b : Local I} {e : WorldEdge I} →
    ThiefSide s k t v a e → b.phase ≡ a.phase → (b.credit ≡ credit.Zero → a.credit ≡ credit.Zero)
    → ThiefSide s k t v b e
thief_same T p c = record {
  there = T.there;
  steal = rw p T.steal;
  waited = rw p T.waited;
  line = rw p T.line;
  armed = λ z. T.armed (c z);
  quiet = λ z. T.quiet (c z);
  loot = T.loot;
}

-- a place's credit counts in live
pub worth_le : {I : Type 0} {s : Setup} {w : World I} → IsLawful s w → (p : ℕ) → p < s.places
    → credit_count (w.place p).credit ≤ w.live
worth_le {s = s} {w = w} L p l =
    let t = term_le s.places p (λ q. credit_count (w.place q).credit) l in
    let e = L.sums.live in
    omega arith

-- an edge that is not there
abbrev pub nowhere : ℕ → EdgeName
nowhere p = record { kind = kind.Steal; thief = p; victim = p }

-- what such an event owes
pub record AloneLocal {I : Type 0} (s : Setup) (old : World I) (p : ℕ) (b : Change I) : Type 0 where
  pub edge : b.edge ≡ old.edge kind.Steal p p
  pub inner : Inner s p b.place
  pub gone : b.place.phase ≡ phase.Gone → b.stop ≡ 0 → b.live ≡ 0
  pub quiet : b.stop ≡ 0 → (old.stop ≡ 0) × (old.live ≡ 0 → b.live ≡ 0)
  pub thief : (k : Kind) (v : ℕ) → v < s.places → ThiefSide s k p v b.place (old.edge k p v)
  pub victim : (k : Kind) (t : ℕ) → t < s.places → VictimSide s k t p b.place (old.edge k t p)
  pub can_give : b.place.phase ≡ phase.Working → b.place.credit ≡ credit.Minted
      → (1 < length b.place.bag)
      × IsWanted s old p
  pub counted : Counted s p b.place (sum_of_own_edges s old kind.Steal p busy_count) (sum_of_own_edges s old kind.Line p busy_count)
      (idle_lines_of s old p)
  pub balanced : Balanced kind.Steal (touched_at old p (nowhere p)) b

pub alone : {I : Type 0} (s : Setup) (old new : World I) (p : ℕ) (b : Change I)
    → Becomes old new p (nowhere p) b → p < s.places → IsLawful s old → AloneLocal s old p b
    → IsLawful s new
alone s old new p b h l L a = keeps s old new p (nowhere p) b h l l l L (record {
  inner = a.inner;
  gone = a.gone;
  quiet = a.quiet;
  thief_else = λ k v m d. a.thief k v m;
  thief_named = rw (h.place, a.edge) (a.thief kind.Steal p l);
  victim_else = λ k t m d. a.victim k t m;
  victim_named = rw (h.place, a.edge) (a.victim kind.Steal p l);
  can_give = rw h.place
      (λ x y. (
        (a.can_give x y).0,
        wanted_kept s old new p (nowhere p) b h l l l p (λ e. rw a.edge (λ z. z)) (a.can_give x y).1,
      ));
  wants = λ d. absurd (d refl);
  counted = rw (
    own_kept s old new p (nowhere p) b h (λ v. busy_count) kind.Steal p l (ap busy_count a.edge),
    own_kept s old new p (nowhere p) b h (λ v. busy_count) kind.Line p l (ap busy_count a.edge),
    own_kept s old new p (nowhere p) b h (λ v e. cond (has_line s p v) (idle_count e) 0) kind.Line p l
        (ap (λ e. cond (has_line s p p) (idle_count e) 0) a.edge),
  ) a.counted;
  counted_else = λ d. absurd (d refl);
  balanced = a.balanced;
})
