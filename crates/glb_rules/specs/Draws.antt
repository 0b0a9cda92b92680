-- The choice of random victims.
use Rattle.std.specs.Prelude.{ℕ, ◌+◌, ◌-◌, ◌*◌, ◌/◌, ◌^◌, cond, nat_lt}
use Rattle.rand_pcg.specs.Lcg.{advance, started, increment_of}
use Rattle.rand_pcg.specs.Pcg.{multiplier_64, output_xsh_rr}

-- the victim that a word of 32 bits gives: one of the other places
abbrev pub victim_of : ℕ → ℕ → ℕ → ℕ
victim_of word places thief =
    let v = word * (places - 1) / 2 ^ 32 in
    cond (nat_lt v thief) v (v + 1)

-- the words of a place, numbered from 0: those of the generator Pcg32 with the seed as its state
-- and the place as its stream
unfoldable pub word : ℕ → ℕ → ℕ → ℕ
word seed p number =
    output_xsh_rr (advance 64 multiplier_64 number
    (started 64 multiplier_64 seed (increment_of 64 p))).state

-- the victim that the place's word of this number gives; 0 at one place
abbrev pub drawn : ℕ → ℕ → ℕ → ℕ → ℕ
drawn seed places p number = cond (nat_lt 1 places) (victim_of (word seed p number) places p) 0
