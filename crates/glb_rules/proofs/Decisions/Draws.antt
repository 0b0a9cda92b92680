-- The drawn victim is another place.
use Rattle.std.specs.Prelude.{cond, nat_lt, true, false, Bool}
use Rattle.std.specs.Int.{w32, rotate_right}
use Rattle.std.proofs.Common.{◌≡◌, ◌≢◌, ℕ, ◌+◌, ◌-◌, ◌*◌, ◌/◌, ◌%◌, ◌^◌, ◌<◌, ◌≤◌, refl, sym, arith}
use Rattle.std.proofs.Math.Nat.{div-le_self, mul-le-mul_right, add-mul}
use Rattle.std.proofs.lemmas.Nat.{or_of_32, div_below, mod_below}
use Rattle.std.proofs.lemmas.Bool.Decides.{nat_tests}
use Rattle.glb_rules.specs.Draws.{victim_of, word, drawn}

-- a word of 32 bits gives one of the other places
pub victim_there : (w places thief : ℕ) → w < 2 ^ 32 → 2 ≤ places → thief < places
    → (victim_of w places thief < places) × (victim_of w places thief ≢ thief)
victim_there w places thief small two t =
    go (w * (places - 1) / 2 ^ 32) below (nat_lt (w * (places - 1) / 2 ^ 32) thief) refl
  where
    below : w * (places - 1) / 2 ^ 32 < places - 1
    below = div_below (w * (places - 1)) (2 ^ 32) (places - 1) (omega arith)
        (let m : (w + 1) * (places - 1) ≤ 2 ^ 32 * (places - 1) =
        mul-le-mul_right (places - 1) (omega arith) in let e = add-mul w 1 (places - 1) in omega arith)

    go : (v : ℕ) → v < places - 1 → (b : Bool) → nat_lt v thief ≡ b → (cond b v (v + 1) < places)
        × (cond b v (v + 1) ≢ thief)
    go v l true e = let q : v < thief = grind (arith, nat_tests, e) in (omega arith, λ s. omega arith)
    go v l false e = let q : thief ≤ v = grind (arith, nat_tests, e) in (omega arith, λ s. omega arith)

rotated_small : (n by : ℕ) → n < 2 ^ 32 → rotate_right w32 n by < 2 ^ 32
rotated_small n by small =
    or_of_32 _ _ (let d = div-le_self n (2 ^ (by % 32)) in omega arith) (mod_below _ (2 ^ 32) (omega arith))

pub word_small : (seed p number : ℕ) → word seed p number < 2 ^ 32
unfolding word
word_small seed p number = rotated_small _ _ (mod_below _ (2 ^ 32) (omega arith))

-- where there are two places, the drawn victim is there, and it is not the thief
pub drawn_there : (seed places p number : ℕ) → 1 < places → p < places
    → (drawn seed places p number < places) × (p ≢ drawn seed places p number)
drawn_there seed places p number two l = go (nat_lt 1 places) refl
  where
    go : (b : Bool) → nat_lt 1 places ≡ b
        → (cond b (victim_of (word seed p number) places p) 0 < places)
        × (p ≢ cond b (victim_of (word seed p number) places p) 0)
    go true e = let v = victim_there (word seed p number) places p (word_small seed p number) two l
        in (v.0, λ s. v.1 (sym s))
    go false e = let q : places ≤ 1 = grind (arith, nat_tests, e) in absurd (omega arith)
