-- Each edge has a row of its own.
use Rattle.std.proofs.Common.{◌≡◌, ◌≢◌, ℕ, ◌+◌, ◌*◌, ◌<◌, ◌/◌, ◌%◌, refl, sym, ap, ◌∙◌, ⊎_elim}
use Rattle.std.proofs.Common.{arith, List, [], ◌∷◌, length, get_or, zero, suc, subst}
use Rattle.std.proofs.lemmas.Nat.{div-mul-add, mod-mul-add, mul-add-lt}
use Rattle.glb_rules.proofs.Invariant.Frames.{Else}
use Rattle.glb_rules.specs.declared.kinds.Kind.{Kind}
use Rattle.glb_rules.specs.declared.kinds.Kind.TheVariants as kind
use Rattle.glb_rules.specs.declared.local.EdgeName.{EdgeName}
use Rattle.glb_core.specs.Tables.{edge_index, mark_index, kind_number}

-- a row and a column tell the index
pair_apart : (a b n x y : ℕ) → x < n → y < n → a * n + x ≡ b * n + y → (a ≡ b) × (x ≡ y)
pair_apart a b n x y l m e = (
  sym (div-mul-add a n x l) ∙ ap (λ z. z / n) e ∙ div-mul-add b n y m,
  sym (mod-mul-add a n x l) ∙ ap (λ z. z % n) e ∙ mod-mul-add b n y m,
)

pub kind_below : (k : Kind) → kind_number k < 2
kind_below kind.Steal = omega arith
kind_below kind.Line = omega arith

kind_apart : (k j : Kind) → kind_number k ≡ kind_number j → k ≡ j
kind_apart kind.Steal kind.Steal e = refl
kind_apart kind.Steal kind.Line e = absurd (omega arith)
kind_apart kind.Line kind.Steal e = absurd (omega arith)
kind_apart kind.Line kind.Line e = refl

pub edge_index_apart : (n : ℕ) (c : EdgeName) (k : Kind) (t v : ℕ) → t < n → c.thief < n
    → Else c k t v
    → edge_index n k t v ≢ edge_index n c.kind c.thief c.victim
edge_index_apart n c k t v l o d e =
    let a = pair_apart (v * 2 + kind_number k) (c.victim * 2 + kind_number c.kind) n t c.thief l o e in
    let b = pair_apart v c.victim 2 (kind_number k) (kind_number c.kind) (kind_below k)
    (kind_below c.kind) a.0 in
    ⊎_elim (λ x. x (kind_apart k c.kind b.1)) (λ x. ⊎_elim (λ y. y a.1) (λ y. y b.0) x) d

pub edge_index_below : (n : ℕ) (k : Kind) (t v : ℕ) → t < n → v < n → edge_index n k t v < n * 2 * n
edge_index_below n k t v l m = let z = kind_below k in
    let y : (v * 2 + kind_number k) * n + t < n * (2 * n) =
    mul-add-lt (v * 2 + kind_number k) n t (2 * n) (omega arith) l in omega arith

pub mark_below : (n : ℕ) (k : Kind) (t : ℕ) → t < n → mark_index n k t < 2 * n
mark_below n kind.Steal t l = omega arith
mark_below n kind.Line t l = omega arith

pub mark_apart : (n : ℕ) (k j : Kind) (t u : ℕ) → t < n → u < n → mark_index n k t
    ≡ mark_index n j u
    → (k ≡ j) × (t ≡ u)
mark_apart n k j t u l m e = let a = pair_apart (kind_number k) (kind_number j) n t u l m e
    in (kind_apart k j a.0, a.1)

pub get_or-any : {A : Type 0} (xs : List A) (i : ℕ) (d e : A) → i < length xs
    → get_or xs i d ≡ get_or xs i e
get_or-any [] i d e l = absurd (omega arith)
get_or-any (x ∷ xs) zero d e l = refl
get_or-any (x ∷ xs) (suc i) d e l = get_or-any xs i d e (omega arith)

-- what holds of the member read holds of the member at the index
pub at_index : {A : Type 0} (P : A → Type 0) (xs : List A) (i j : ℕ) (x d : A) → x ≡ get_or xs i x
    → i < length xs → i ≡ j → P x → P (get_or xs j d)
at_index P xs i j x d e l same h =
    subst (λ k. P (get_or xs k d)) same (subst P (e ∙ get_or-any xs i x d l) h)

pub of_index : {A : Type 0} (P : A → Type 0) (xs : List A) (i j : ℕ) (x d : A) → x ≡ get_or xs i x
    → i < length xs → i ≡ j → P (get_or xs j d) → P x
of_index P xs i j x d e l same h =
    subst P (sym (e ∙ get_or-any xs i x d l)) (subst (λ k. P (get_or xs k d)) (sym same) h)

-- some member
pub element : {A : Type 0} (xs : List A) (i : ℕ) → i < length xs → A
element [] i l = absurd (omega arith)
element (x ∷ xs) i l = x
