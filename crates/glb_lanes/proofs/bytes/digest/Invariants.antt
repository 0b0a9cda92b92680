use Rattle.std.proofs.Common.{◌≡◌, ◌*◌, length, take}
use Rattle.sha1.specs.Sha1.{digest_bytes}
use Rattle.glb_lanes.specs.inner.Lanes.{lane}
use Rattle.glb_lanes.proofs.bytes.digest.Given as goal

abbrev pub invariant-words : goal.invariant-words
invariant-words g l = (length l.out ≡ 20)
    × (take (4 * l.i) l.out ≡ digest_bytes (lane l.place l.state) l.i)
