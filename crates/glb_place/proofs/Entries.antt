-- An element that is there needs no default.
use Rattle.std.proofs.Common.{◌≡◌, ℕ, zero, suc, ◌<◌, List, [], ◌∷◌, length, get_or, refl, arith}

-- an index within the list gives the same member for each default
pub same_or : {A : Type 0} (ys : List A) (i : ℕ) (d e : A) → i < length ys → get_or ys i d
    ≡ get_or ys i e
same_or [] i d e h = absurd (omega arith)
same_or (y ∷ ys) zero d e h = refl
same_or (y ∷ ys) (suc i) d e h = same_or ys i d e (omega arith)
