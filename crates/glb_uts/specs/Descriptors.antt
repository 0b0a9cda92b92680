-- The descriptors of nodes, and what is read from them.
use Rattle.std.specs.Prelude.{ℕ, ◌%◌, ◌^◌, List, [], ◌∷◌, ◌++◌, replicate, slice_index}
use Rattle.std.specs.Int.{w32, from_be_bytes, to_be_bytes}
use Rattle.sha1.specs.Sha1.{sha1}

-- SHA-1 of 16 zero bytes and the seed as 4 bytes, the most significant first
abbrev pub root_descriptor : ℕ → List ℕ
root_descriptor seed = sha1 (replicate 16 0 ++ to_be_bytes w32 seed)

-- SHA-1 of the parent's descriptor and the child's number as 4 bytes, the most significant first
abbrev pub child_descriptor : List ℕ → ℕ → List ℕ
child_descriptor parent number = sha1 (parent ++ to_be_bytes w32 number)

-- the number of bytes 16 to 19, the most significant first, without its top bit
abbrev pub draw : List ℕ → ℕ
draw descriptor =
    from_be_bytes w32
    (slice_index descriptor 16 ∷ slice_index descriptor 17 ∷ slice_index descriptor 18
    ∷ slice_index descriptor 19 ∷ []) % 2 ^ 31
