-- Eight blocks that differ in the last three bits of one number: what their words have in common.
use Rattle.std.specs.Prelude.{◌≡◌, ℕ, ◌<◌, List, [], slice_index, slice_index_or, bit_xor}
use Rattle.sha1.specs.Sha1.{schedule}
use Rattle.glb_lanes.specs.declared.row.TheConstants.{ADDED}

-- what the number j adds to word k
abbrev pub added : ℕ → ℕ → ℕ
added k j = slice_index (slice_index_or ADDED k []) j

-- the first n words, each with what the number j adds to it, are those that follow from the block b
abbrev pub IsShared : List ℕ → ℕ → List ℕ → ℕ → Type 0
IsShared b j words n = (k : ℕ) → k < n
    → bit_xor (slice_index words k) (added k j) ≡ slice_index (schedule b 64) k
