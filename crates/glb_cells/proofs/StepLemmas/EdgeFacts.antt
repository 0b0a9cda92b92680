-- An edge by its name.
use mathlib.Core.Option.{some, some-injective, some-ne-none}
use lib.ListN.{get_elem?}
use Rattle.std.proofs.Common.{◌≡◌, ℕ, zero, suc, false, cond, List, [], ◌∷◌, set, refl, sym, ap, subst, arith}
use Rattle.glb_rules.specs.World.{WorldEdge, Setup}
use Rattle.glb_rules.specs.Events.{same_name}
use Rattle.glb_rules.specs.Setups.{IsProper}
use Rattle.glb_rules.proofs.Invariant.Frames.{Else}
use Rattle.glb_rules.proofs.EdgeLemmas.Named.{names_apart, one_rest, same_name_self, same_name_else}
use Rattle.glb_rules.proofs.EdgeLemmas.Made as made
use Rattle.glb_rules.specs.declared.kinds.Kind.{Kind}
use Rattle.glb_rules.specs.declared.local.EdgeName.{EdgeName}
use Rattle.glb_cells.specs.EdgeNames.{NamesOnce, NamesEdges, at_name, names}

-- the list of names names each edge that is there once
pub names_named : (s : Setup) → IsProper s → NamesEdges s (names s)
names_named s P = let m = made.names_named s P in
    record { once = m.once; there = m.there; all = m.all }

module _ {I : Type 0} where
  pub named : (ns : List EdgeName) (es : List (WorldEdge I)) (i : ℕ) (n : EdgeName)
      (e : WorldEdge I)
      → NamesOnce ns → get_elem? ns i ≡ some n → get_elem? es i ≡ some e
      → at_name ns es n.kind n.thief n.victim ≡ e
  named [] es i n e o a b = absurd (some-ne-none n (sym a))
  named (m ∷ ns) [] i n e o a b = absurd (some-ne-none e (sym b))
  named (m ∷ ns) (x ∷ es) zero n e o a b =
      subst (λ z. cond (same_name z n.kind n.thief n.victim) x
      (at_name ns es n.kind n.thief n.victim) ≡
      e) (sym (some-injective m n a))
      (rw (same_name_self n) (some-injective x e b))
  named (m ∷ ns) (x ∷ es) (suc i) n e o a b =
      let d : Else m n.kind n.thief n.victim =
      names_apart (m ∷ ns) o 0 (suc i) m n refl a (λ z. omega arith) in
      rw (same_name_else m n.kind n.thief n.victim d) (named ns es i n e (one_rest m ns o) a b)

  pub named_else : (ns : List EdgeName) (es : List (WorldEdge I)) (i : ℕ) (n : EdgeName)
      (e : WorldEdge I)
      (k : Kind) (t v : ℕ) → get_elem? ns i ≡ some n → Else n k t v
      → at_name ns (set es i e) k t v ≡ at_name ns es k t v
  named_else [] es i n e k t v a d = refl
  named_else (m ∷ ns) [] i n e k t v a d = refl
  named_else (m ∷ ns) (x ∷ es) zero n e k t v a d =
      let f : same_name m k t v ≡ false =
      subst (λ z. same_name z k t v ≡ false) (sym (some-injective m n a))
      (same_name_else n k t v d) in
      rw f refl
  named_else (m ∷ ns) (x ∷ es) (suc i) n e k t v a d =
      ap (cond (same_name m k t v) x) (named_else ns es i n e k t v a d)
