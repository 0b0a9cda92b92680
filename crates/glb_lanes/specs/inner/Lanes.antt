-- Blocks side by side: each word is a vector, with one lane for each block.
use Rattle.std.specs.Prelude.{◌≡◌, ℕ, ◌+◌, ◌*◌, ◌<◌, List, map, slice_index}
use Rattle.sha1.specs.Sha1.{word_at, schedule, rounds, initial_hash}

-- the words in lane j
abbrev pub lane : ℕ → List (List ℕ) → List ℕ
lane j vectors = map (λ v. slice_index v j) vectors

-- the first sixteen words are those of the block b
abbrev pub IsBlock : List ℕ → List ℕ → Type 0
IsBlock b words = (k : ℕ) → k < 16 → slice_index words k ≡ word_at b (4 * k)

-- the first n words are those that follow from the block b
abbrev pub IsScheduled : List ℕ → List ℕ → ℕ → Type 0
IsScheduled b words n = (k : ℕ) → k < n → slice_index words k ≡ slice_index (schedule b 64) k

-- five words are those from t on that follow from the block b
abbrev pub AreWords : List ℕ → List ℕ → ℕ → Type 0
AreWords b five t = (k : ℕ) → k < 5 → slice_index five k ≡ slice_index (schedule b 64) (t + k)

-- t rounds over the block b, from the initial hash value, give v
abbrev pub HasRun : List ℕ → List ℕ → ℕ → Type 0
HasRun b v t = v ≡ rounds initial_hash (schedule b 64) t
