-- How often a place has asked its fabric for each edge, for live and for stop.
use Rattle.std.specs.Prelude.{◌≡◌, ℕ, ◌+◌, ◌-◌, ◌^◌, false, min}
use Rattle.glb_rules.specs.Events.{same_name}
use Rattle.glb_rules.specs.declared.local.EdgeName.{EdgeName}

-- a number for each edge, one for live and one for stop
pub record Looks : Type 0 where
  pub edge : EdgeName → ℕ
  pub live : ℕ
  pub stop : ℕ

-- one more, up to the last value of a counter
abbrev pub raised : ℕ → ℕ
raised n = min (n + 1) (2 ^ 64 - 1)

-- nothing was looked at
pub record SameLooks (old new : Looks) : Type 0 where
  pub edge : (n : EdgeName) → new.edge n ≡ old.edge n
  pub live : new.live ≡ old.live
  pub stop : new.stop ≡ old.stop

-- this edge was looked at once
pub record LooksAt (name : EdgeName) (old new : Looks) : Type 0 where
  pub edge : new.edge name ≡ raised (old.edge name)
  pub others : (n : EdgeName) → same_name name n.kind n.thief n.victim ≡ false
      → new.edge n ≡ old.edge n
  pub live : new.live ≡ old.live
  pub stop : new.stop ≡ old.stop

-- live was read once
pub record LooksAtLive (old new : Looks) : Type 0 where
  pub edge : (n : EdgeName) → new.edge n ≡ old.edge n
  pub live : new.live ≡ raised old.live
  pub stop : new.stop ≡ old.stop

-- stop was read once
pub record LooksAtStop (old new : Looks) : Type 0 where
  pub edge : (n : EdgeName) → new.edge n ≡ old.edge n
  pub live : new.live ≡ old.live
  pub stop : new.stop ≡ raised old.stop
