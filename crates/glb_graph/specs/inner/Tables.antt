-- The table that a search fills: at each vertex its distance, or a mark.
use Rattle.std.specs.Prelude.{◌≡◌, ◌≢◌, ℕ, ◌<◌, ◌==◌, cond, List, length, get_or, Option, None}
use Rattle.std.specs.Prelude.{Some}
use Rattle.glb_graph.specs.Walks.{Walk, IsDistance}

-- stands for a vertex to which no walk leads
abbrev pub unseen : ℕ
unseen = 65535

-- at each vertex its distance, which is below the number of vertices, or the mark that no walk
-- leads there
pub record IsTable (rows : List (List ℕ)) (s : ℕ) (table : List ℕ) : Type 0 where
  pub same_length : length table ≡ length rows
  pub reached : (t : ℕ) → t < length rows → get_or table t 0 ≢ unseen →
      IsDistance rows s t (get_or table t 0)
  pub bounded : (t : ℕ) → t < length rows → get_or table t 0 ≢ unseen →
      get_or table t 0 < length rows
  pub not_reached : (t : ℕ) → t < length rows → get_or table t 0 ≡ unseen →
      (n : ℕ) → Walk rows s t n → ⊥

-- what a table shows of a vertex
unfoldable pub shown : List ℕ → ℕ → Option ℕ
shown table t = cond (get_or table t 0 == unseen) None (Some (get_or table t 0))
