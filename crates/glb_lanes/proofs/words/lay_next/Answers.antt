use Rattle.std.proofs.Common.{◌≡◌, ℕ, ◌+◌, ◌-◌, List, [], slice_index, ◌∙◌, arith, refl}
use Rattle.std.proofs.Math.ListN.{get_or-map}
use Rattle.sha1.specs.Sha1.{next_word}
use Rattle.glb_lanes.specs.inner.Lanes.{lane}
use Rattle.glb_lanes.proofs.WordsAndRounds.{scheduled_at, scheduled_more, scheduled_next}
use Rattle.glb_lanes.proofs.words.lay_next.Goals as goal

pub returns : goal.returns
returns g c j lt b held =
    let at = λ (v : List ℕ). slice_index v j in
    let words = c.args.words.now in
    let t = c.args.t in
    let e13 : t + 16 - 3 ≡ t + 13 = omega arith in
    let e8 : t + 16 - 8 ≡ t + 8 = omega arith in
    let e2 : t + 16 - 14 ≡ t + 2 = omega arith in
    let e0 : t + 16 - 16 ≡ t = omega arith in
    let follows : slice_index c.next_word.result j ≡ next_word (lane j words) (t + 16) =
    c.next_word.ensures j lt
    ∙ rw (
      e13,
      e8,
      e2,
      e0,
      get_or-map at words (t + 13) [],
      get_or-map at words (t + 8) [],
      get_or-map at words (t + 2) [],
      get_or-map at words t [],
    ) refl in
    scheduled_at b _ _ _ (omega arith)
    (scheduled_more b words (t + 16) j _ (omega arith) (omega arith) held
    (follows ∙ scheduled_next b (lane j words) (t + 16) (omega arith) (omega arith) held))
