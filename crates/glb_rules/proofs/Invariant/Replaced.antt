-- The world with one change made.
use Rattle.std.proofs.Common.{◌≡◌, ℕ, Bool, true, false, cond, ◌&&◌, ◌==◌, refl, ⊎_elim}
use Rattle.glb_rules.specs.World.{World, same_kind}
use Rattle.glb_rules.specs.Effects.{Change}
use Rattle.glb_rules.specs.Steps.{Becomes}
use Rattle.glb_rules.proofs.EdgeLemmas.Marks.{eq_other, eq_self, same_kind_false, same_kind_true}
use Rattle.glb_rules.specs.declared.local.EdgeName.{EdgeName}

abbrev pub replaced : {I : Type 0} → World I → ℕ → EdgeName → Change I → World I
replaced w p c b = record {
  place = λ q. cond (q == p) b.place (w.place q);
  edge = λ k t v. cond (same_kind k c.kind && ((t == c.thief) && (v == c.victim))) b.edge (w.edge k t v);
  live = b.live;
  stop = b.stop;
}

false_and : (b : Bool) → (b && false) ≡ false
false_and true = refl
false_and false = refl

pub becomes : {I : Type 0} (w : World I) (p : ℕ) (c : EdgeName) (b : Change I)
    → Becomes w (replaced w p c b) p c b
becomes w p c b = record {
  place = rw (eq_self p) refl;
  edge = rw (same_kind_true c.kind c.kind refl, eq_self c.thief, eq_self c.victim) refl;
  live = refl;
  stop = refl;
  other_places = λ q d. rw (eq_other q p d) refl;
  other_edges = λ k t v d. ⊎_elim
      (λ n. rw (same_kind_false k c.kind n) refl)
      (λ x. ⊎_elim
      (λ n. rw (eq_other t c.thief n, false_and (same_kind k c.kind)) refl)
      (λ n. rw (eq_other v c.victim n, false_and (t == c.thief), false_and (same_kind k c.kind)) refl)
      x)
      d;
}
