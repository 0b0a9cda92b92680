-- What the reader finds at the front of the bytes that are left.
use Rattle.std.specs.Prelude.{◌≡◌, ℕ, ◌<◌, ◌≤◌, List, [], ◌∷◌, ◌++◌}
use Rattle.glb_graph.specs.GraphText.{IsNumeral, number_from}

-- the bytes do not begin with a digit
abbrev pub NoDigit : List ℕ → Type 0
NoDigit [] = Unit {0}
NoDigit (b ∷ bytes) = 48 ≤ b → b < 58 → ⊥

-- all digits in front are a numeral of this number, before the rest
pub record BeginsWithNumeral (bytes : List ℕ) (n : ℕ) (rest : List ℕ) : Type 0 where
  pub digits : List ℕ
  pub bytes_are : bytes ≡ digits ++ rest
  pub numeral : IsNumeral digits
  pub value : n ≡ number_from 0 digits
  pub ends : NoDigit rest
