use Rattle.std.proofs.Common.{◌≡◌, ℕ, List, [], slice_index, slice_index_or, sym, ap, ◌∙◌, refl}
use Rattle.std.proofs.Math.ListN.{get_or-map}
use Rattle.sha1.specs.Sha1.{compress, initial_hash}
use Rattle.glb_lanes.proofs.eight.after_rounds.Goals as goal

pub returns : goal.returns
unfolding compress
returns c j lt b done =
    let at = λ (v : List ℕ). slice_index v j in
    let first : (k : ℕ) → slice_index (slice_index_or c.initial-first.result k []) j
    ≡ slice_index initial_hash k =
    λ k. sym (get_or-map at c.initial-first.result k []) ∙ ap (λ l. slice_index l k)
    (c.initial-first.ensures j lt) in
    rw (
      c.add-s0.ensures j lt,
      c.add-s1.ensures j lt,
      c.add-s2.ensures j lt,
      c.add-s3.ensures j lt,
      c.add-s4.ensures j lt,
      first 0,
      first 1,
      first 2,
      first 3,
      first 4,
      ← done,
      get_or-map at c.args.v 0 [],
      get_or-map at c.args.v 1 [],
      get_or-map at c.args.v 2 [],
      get_or-map at c.args.v 3 [],
      get_or-map at c.args.v 4 [],
    ) refl
