-- The first line of bytes, and what follows it.
use Rattle.std.specs.Prelude.{◌≡◌, ℕ, List, ◌∷◌}
use Rattle.glb_graph.specs.GraphText.{lines_of}

-- the first line is such a line, and the rest has the further lines
pub record BeginsWith (IsSuch : List ℕ → Type 0) (bytes rest : List ℕ) : Type 0 where
  pub line : List ℕ
  pub such : IsSuch line
  pub lines_are : lines_of bytes ≡ line ∷ lines_of rest

-- the first line, where there is one, is no such line
abbrev pub BeginsWithout : (List ℕ → Type 0) → List ℕ → Type 0
BeginsWithout IsSuch bytes =
    (line : List ℕ) (lines : List (List ℕ)) → lines_of bytes ≡ line ∷ lines → IsSuch line → ⊥
