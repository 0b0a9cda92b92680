use Rattle.std.proofs.Common.{◌≡◌, ℕ, List, ◌+◌, length, refl, ◌∙◌, arith}
use Rattle.std.specs.Int.{w32, to_be_bytes}
use Rattle.glb_lanes.specs.inner.Lanes.{lane}
use Rattle.glb_lanes.proofs.DigestOfOneBlock.{sha1_24}
use Rattle.glb_lanes.proofs.eight.children.Goals as goal

pub returns : goal.returns
returns c j lt =
    let parent : List ℕ = c.args.parent.now in
    let number : List ℕ = to_be_bytes w32 (c.args.first + j) in
    let state = c.hash_values-state.result in
    let long : length parent ≡ 20 = omega arith in
    c.digests_of.ensures j lt
    ∙ sha1_24 parent number (lane j state) long refl (c.hash_values-state.ensures j lt)
