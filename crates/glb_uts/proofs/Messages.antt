-- A message that is written in two parts.
use Rattle.std.proofs.Common.{◌≡◌, ℕ, Bool, true, false, cond, List, [], ◌++◌, length, drop, refl, ap, ap₂, ◌∙◌, arith, append-nil}
use Rattle.std.proofs.lemmas.List.{take_at, drop_at, drop_all}
use borrow.Rule.Slice.PartMut.{put_mid}
use mir.Val.{bool_byte}

-- 20 bytes and 4 that are written into a message, one part after the other
pub two_parts : (a zeros b p q : List ℕ) → length p ≡ 20 → length zeros ≡ 4 → a ≡ p → b ≡ q
    → put_mid 20 4 (a ++ zeros) b ≡ p ++ q
two_parts a zeros b p q size rest e f =
    let none : drop 4 (drop 20 (a ++ zeros))
    ≡ [] = ap (drop 4) (drop_at a zeros 20 (ap length e ∙ size))
    ∙ drop_all 4 zeros (omega arith) in
    ap₂ (λ u v. u ++ v) (take_at a zeros 20 (ap length e ∙ size) ∙ e)
    (ap₂ (λ u v. u ++ v) f none ∙ append-nil q)

-- a test as a number
pub byte_is : (b : Bool) → bool_byte b ≡ cond b 1 0
byte_is true = refl
byte_is false = refl
