-- Marks that are put, and edges that are there.
use Rattle.std.specs.Prelude.{List}
use Rattle.std.proofs.Common.{◌≡◌, ◌≢◌, ℕ, ◌⊎◌, Bool, true, false, cond, not, ◌&&◌, ◌==◌, refl, sym}
use Rattle.std.proofs.Common.{⊎_elim, arith}
use Rattle.std.proofs.lemmas.Bool.Decides.{nat_tests}
use Rattle.glb_rules.specs.World.{Idle, Setup, WorldEdge, has_edge, has_line, mark_at, put_mark}
use Rattle.glb_rules.specs.World.{same_kind}
use Rattle.glb_rules.specs.Setups.{IsProper}
use Rattle.glb_rules.specs.Lawful.{ThiefSide}
use Rattle.glb_rules.specs.declared.kinds.Kind.{Kind}
use Rattle.glb_rules.specs.declared.kinds.Kind.TheVariants as kind
use Rattle.glb_rules.specs.declared.kinds.Mark.{Mark}
use Rattle.glb_rules.specs.declared.kinds.Mark.TheVariants as mark
use Rattle.glb_rules.specs.declared.local.MarkOn.{MarkOn}
use Rattle.glb_rules.specs.declared.local.Local.{Local}

pub same_kind_true : (k j : Kind) → k ≡ j → same_kind k j ≡ true
same_kind_true kind.Steal kind.Steal e = refl
same_kind_true kind.Steal kind.Line e = cc
same_kind_true kind.Line kind.Steal e = cc
same_kind_true kind.Line kind.Line e = refl

pub same_kind_false : (k j : Kind) → k ≢ j → same_kind k j ≡ false
same_kind_false kind.Steal kind.Steal e = absurd (e refl)
same_kind_false kind.Steal kind.Line e = refl
same_kind_false kind.Line kind.Steal e = refl
same_kind_false kind.Line kind.Line e = absurd (e refl)

pub eq_self : (t : ℕ) → (t == t) ≡ true
eq_self t = grind (arith, nat_tests)

pub eq_other : (t u : ℕ) → t ≢ u → (t == u) ≡ false
eq_other t u d = grind (arith, nat_tests)

and_false : (b : Bool) → (b && false) ≡ false
and_false true = refl
and_false false = refl

-- the marks as a function, with one of them set
abbrev pub set_mark : (Kind → ℕ → Mark) → Kind → ℕ → Mark → Kind → ℕ → Mark
set_mark m k t x j u = cond (same_kind k j && (t == u)) x (m j u)

pub set_mark_at : (m : Kind → ℕ → Mark) (k : Kind) (t : ℕ) (x : Mark) → set_mark m k t x k t ≡ x
set_mark_at m k t x = rw (same_kind_true k k refl, eq_self t) refl

pub set_mark_else : (m : Kind → ℕ → Mark) (k : Kind) (t : ℕ) (x : Mark) (j : Kind) (u : ℕ) → (j ≢ k)
    ⊎ (u ≢ t) → set_mark m k t x j u ≡ m j u
set_mark_else m k t x j u d =
    ⊎_elim
    (λ n. rw (same_kind_false k j (λ e. n (sym e))) refl)
    (λ n. rw (eq_other t u (λ e. n (sym e)), and_false (same_kind k j)) refl)
    d

-- an edge that is there leads to another place
pub apart : (s : Setup) → IsProper s → (k : Kind) (t v : ℕ) → has_edge s k t v ≡ true → t ≢ v
apart s P kind.Steal t v h e = let f : (t == v) ≡ true = rw e (eq_self v) in
    let n : not (t == v) ≡ true = h in let g : not true ≡ true = rw f at n in cc
apart s P kind.Line t v h e = let f : has_line s v v ≡ true = rw e at h in let g = P.no_loop v in cc

pub is_there : {I : Type 0} {s : Setup} {k : Kind} {t v : ℕ} {a : Local I} {e : WorldEdge I}
    → ThiefSide s k t v a e → e ≢ Idle → has_edge s k t v ≡ true
is_there {s = s} {k = k} {t = t} {v = v} {e = e} T n = go (has_edge s k t v) refl
  where
    go : (b : Bool) → has_edge s k t v ≡ b → has_edge s k t v ≡ true
    go true q = q
    go false q = absurd (n (T.there q))

-- a Clear mark makes no mark Pending
pub unmarked_put : (ms : List MarkOn) (k : Kind) (t : ℕ) (j : Kind) (u : ℕ)
    → mark_at ms j u ≢ mark.Pending → mark_at (put_mark ms k t mark.Clear) j u ≢ mark.Pending
unmarked_put ms k t j u n = go (same_kind k j && (t == u))
  where
    go : (b : Bool) → cond b mark.Clear (mark_at ms j u) ≢ mark.Pending
    go true e = cc
    go false e = n e
