use Rattle.std.proofs.Common.{ℕ, List, [], slice_index, slice_index_or, refl, ◌∙◌}
use Rattle.std.specs.Int.{w32, to_be_bytes}
use Rattle.glb_lanes.specs.inner.Lanes.{lane}
use Rattle.glb_lanes.proofs.DigestOfOneBlock.{sha1_24}
use Rattle.glb_lanes.proofs.four.digests.Goals as goal

pub returns : goal.returns
returns c j lt =
    let parent : List ℕ = slice_index_or c.args.parents.now j [] in
    let number : List ℕ = to_be_bytes w32 (slice_index c.args.numbers.now j) in
    let state = c.compress-state.result in
    c.digests_of.ensures j lt
    ∙ sha1_24 parent number (lane j state) (c.known.ensures j lt) refl
    (c.compress-state.ensures j lt _ (c.blocks_of.ensures j lt))
