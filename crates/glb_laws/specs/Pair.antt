-- Two monoids side by side are one.
use Rattle.std.specs.Prelude.{◌≡◌}
use Rattle.std.proofs.Common.{ap, ◌∙◌}
use Rattle.glb_laws.specs.Monoid.{MonoidLaws}
use Rattle.glb_laws.specs.declared.both.Both.{Both}

-- the pair of two values
abbrev pub both : {A B : Type 0} → A → B → Both A B
both a b = record { 0 = a; 1 = b }

-- equal parts make equal pairs
same_both : {A B : Type 0} (a c : A) (b d : B) → a ≡ c → b ≡ d → both a b ≡ both c d
same_both a c b d p q = ap (λ x. both x b) p ∙ ap (both c) q

-- pairs of two monoids are a monoid
pub both_laws : {A B : Type 0} {IsProper1 : A → Type 0} {unit1 : A} {combine1 : A → A → A}
    {IsProper2 : B → Type 0} {unit2 : B} {combine2 : B → B → B} →
    MonoidLaws IsProper1 unit1 combine1 → MonoidLaws IsProper2 unit2 combine2 →
    MonoidLaws {V = Both A B} (λ a. IsProper1 a.0 × IsProper2 a.1) (both unit1 unit2)
    (λ a b. both (combine1 a.0 b.0) (combine2 a.1 b.1))
both_laws m n = record {
  unit_proper = (m.unit_proper, n.unit_proper);
  combine_proper = λ a b p q. (m.combine_proper a.0 b.0 p.0 q.0, n.combine_proper a.1 b.1 p.1 q.1);
  left_unit = λ a p. same_both _ _ _ _ (m.left_unit a.0 p.0) (n.left_unit a.1 p.1);
  right_unit = λ a p. same_both _ _ _ _ (m.right_unit a.0 p.0) (n.right_unit a.1 p.1);
  assoc = λ a b c p q r. same_both _ _ _ _ (m.assoc a.0 b.0 c.0 p.0 q.0 r.0)
      (n.assoc a.1 b.1 c.1 p.1 q.1 r.1);
  comm = λ a b p q. same_both _ _ _ _ (m.comm a.0 b.0 p.0 q.0) (n.comm a.1 b.1 p.1 q.1);
}
