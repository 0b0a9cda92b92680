-- Schedules that answer the same numbers.
use Rattle.std.proofs.Common.{◌≡◌, ℕ}

-- they are the same
pub same_schedule : (will numbers : ℕ → ℕ) → ((k : ℕ) → will k ≡ numbers k) → will ≡ numbers
same_schedule will numbers is = λ i k. is k i
