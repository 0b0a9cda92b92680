-- An edge by its name.
use mathlib.Core.Option.{some, some-injective, some-ne-none}
use lib.ListN.{get_elem?}
use Rattle.std.proofs.Common.{◌≡◌, ◌≢◌, ℕ, zero, suc, Bool, true, false, cond, ◌&&◌, ◌==◌, List, []}
use Rattle.std.proofs.Common.{◌∷◌, set, refl, sym, ap, ◌∙◌, subst, ⊎_elim, arith}
use Rattle.glb_rules.specs.World.{WorldEdge, same_kind}
use Rattle.glb_rules.proofs.EdgeLemmas.Names.{NamesOnce, at_name}
use Rattle.glb_rules.specs.Events.{same_name}
use Rattle.glb_rules.proofs.EdgeLemmas.Marks.{eq_other, eq_self, same_kind_false, same_kind_true}
use Rattle.glb_rules.proofs.Invariant.Frames.{Else, name_cases}
use Rattle.glb_rules.specs.declared.kinds.Kind.{Kind}
use Rattle.glb_rules.specs.declared.local.EdgeName.{EdgeName}

pub same_name_self : (n : EdgeName) → same_name n n.kind n.thief n.victim ≡ true
same_name_self n = rw (same_kind_true n.kind n.kind refl, eq_self n.thief, eq_self n.victim) refl

pub same_name_else : (n : EdgeName) (k : Kind) (t v : ℕ) → Else n k t v → same_name n k t v ≡ false
same_name_else n k t v d =
    ⊎_elim
    (λ x. rw (same_kind_false n.kind k (λ e. x (sym e))) refl)
    (λ y. ⊎_elim
    (λ x. rw (eq_other n.thief t (λ e. x (sym e))) (and_false (same_kind n.kind k)))
    (λ x. rw (eq_other n.victim v (λ e. x (sym e)), and_false (n.thief == t))
    (and_false (same_kind n.kind k)))
    y)
    d
  where
    and_false : (b : Bool) → (b && false) ≡ false
    and_false true = refl
    and_false false = refl

-- a name is its parts
pub name_is : (m n : EdgeName) → (m.kind ≡ n.kind) × (m.thief ≡ n.thief) × (m.victim ≡ n.victim)
    → m ≡ n
name_is m n e = λ i. record { kind = e.0 i; thief = e.1 i; victim = e.2 i }

pub one_rest : (n : EdgeName) (ns : List EdgeName) → NamesOnce (n ∷ ns) → NamesOnce ns
one_rest n ns o i j m a b = let e : suc i ≡ suc j = o (suc i) (suc j) m a b in omega arith

-- two numbers of a list that names each edge once name two edges
pub names_apart : (ns : List EdgeName) → NamesOnce ns → (i j : ℕ) (m n : EdgeName)
    → get_elem? ns i ≡ some m → get_elem? ns j ≡ some n → j ≢ i → Else m n.kind n.thief n.victim
names_apart ns o i j m n a b d =
    ⊎_elim
    (λ (same : (n.kind ≡ m.kind) × (n.thief ≡ m.thief) × (n.victim ≡ m.victim)).
    absurd (d (sym (o i j m a (b ∙ ap some (name_is n m same))))))
    (λ x. x)
    (name_cases m n.kind n.thief n.victim)

module _ {I : Type 0} where
  pub named : (ns : List EdgeName) (es : List (WorldEdge I)) (i : ℕ) (n : EdgeName) (e : WorldEdge I)
      → NamesOnce ns → get_elem? ns i ≡ some n → get_elem? es i ≡ some e
      → at_name ns es n.kind n.thief n.victim ≡ e
  named [] es i n e o a b = absurd (some-ne-none n (sym a))
  named (m ∷ ns) [] i n e o a b = absurd (some-ne-none e (sym b))
  named (m ∷ ns) (x ∷ es) zero n e o a b =
      subst (λ z. cond (same_name z n.kind n.thief n.victim) x (at_name ns es n.kind n.thief n.victim) ≡
      e) (sym (some-injective m n a))
      (rw (same_name_self n) (some-injective x e b))
  named (m ∷ ns) (x ∷ es) (suc i) n e o a b =
      let d : Else m n.kind n.thief n.victim =
      names_apart (m ∷ ns) o 0 (suc i) m n refl a (λ z. omega arith) in
      rw (same_name_else m n.kind n.thief n.victim d) (named ns es i n e (one_rest m ns o) a b)

  pub named_else : (ns : List EdgeName) (es : List (WorldEdge I)) (i : ℕ) (n : EdgeName) (e : WorldEdge I)
      (k : Kind) (t v : ℕ) → get_elem? ns i ≡ some n → Else n k t v
      → at_name ns (set es i e) k t v ≡ at_name ns es k t v
  named_else [] es i n e k t v a d = refl
  named_else (m ∷ ns) [] i n e k t v a d = refl
  named_else (m ∷ ns) (x ∷ es) zero n e k t v a d =
      let f : same_name m k t v ≡ false =
      subst (λ z. same_name z k t v ≡ false) (sym (some-injective m n a)) (same_name_else n k t v d) in
      rw f refl
  named_else (m ∷ ns) (x ∷ es) (suc i) n e k t v a d =
      ap (cond (same_name m k t v) x) (named_else ns es i n e k t v a d)
