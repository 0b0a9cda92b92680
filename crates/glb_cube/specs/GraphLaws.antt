-- What a scheduler over the lifeline graph rests on.
use Rattle.std.specs.Prelude.{◌≡◌, ℕ, ◌-◌, ◌*◌, ◌<◌, ◌≤◌, true, false, List, length}
use Rattle.std.specs.List.Sorted.{IsStrictlyIncreasing}
use Rattle.glb_cube.specs.Lines.{Cube, outs_of, ins_of}
use Rattle.glb_laws.specs.Numbers.{has_number, IsDistinct, count_to}
use Rattle.glb_cube.specs.Ways.{IsWay}

-- lifelines lead to different other places, degrees are at most the dimension, and there is a short
-- way between any two places; the lifelines to a place come by rising number, and are those that
-- lead there
pub record GraphLaws (c : Cube) : Type 0 where
  pub near : (p q : ℕ) → has_number q (outs_of c p) ≡ true → q < c.places
  pub no_loop : (p : ℕ) → has_number p (outs_of c p) ≡ false
  pub once : (p : ℕ) → p < c.places → IsDistinct (outs_of c p)
  pub out : (p : ℕ) → length (outs_of c p) ≤ c.dimension
  pub into : (q : ℕ) → count_to c.places (λ p. has_number q (outs_of c p)) ≤ c.dimension
  pub ways : (a b : ℕ) → a < c.places → b < c.places →
      (ps : List ℕ) × IsWay c a ps b × (length ps ≤ c.dimension * (c.base - 1))
  pub ins_few : (q : ℕ) → length (ins_of c q) ≤ c.dimension
  pub ins_rising : (q : ℕ) → IsStrictlyIncreasing (ins_of c q)
  pub ins_lines : (p q : ℕ) → has_number p (ins_of c q) ≡ true →
      (p < c.places) × (has_number q (outs_of c p) ≡ true)
  pub lines_ins : (p q : ℕ) → p < c.places → has_number q (outs_of c p) ≡ true
      → has_number p (ins_of c q) ≡ true
