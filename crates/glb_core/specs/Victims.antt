-- The first draw of a victim.
use Rattle.std.specs.Prelude.{◌≡◌, ℕ, ◌<◌, ◌≤◌}
use Rattle.rand_pcg.specs.Lcg.{Lcg, next}
use Rattle.rand_pcg.specs.Pcg.{multiplier_64, output_xsh_rr}
use Rattle.glb_rules.specs.Draws.{victim_of}

-- the first victim is that of the first word, and 0 at one place
pub record FirstVictim (places p : ℕ) (old new : Lcg) (v : ℕ) : Type 0 where
  pub words : 1 < places → new ≡ next 64 multiplier_64 old
  pub victim : 1 < places → v ≡ victim_of (output_xsh_rr old.state) places p
  pub none : places ≤ 1 → v ≡ 0
