use Rattle.std.proofs.Common.{◌≡◌, List, ℕ, [], slice_index, ◌∙◌, sym}
use Rattle.std.proofs.Math.ListN.{get_or-map}
use Rattle.sha1.proofs.Schedule.{round_fn_choose, round_constant_choose}
use Rattle.sha1.specs.Sha1.{ch}
use Rattle.glb_lanes.specs.inner.Lanes.{lane}
use Rattle.glb_lanes.proofs.WordsAndRounds.{one_round}
use Rattle.glb_lanes.proofs.rounds.choose_step.Goals as goal

pub returns : goal.returns
returns g c j t lt high h ws from word =
    let at = λ (v : List ℕ). slice_index v j in
    let v = lane j c.args.v in
    let read : slice_index c.choose-f.result j
    ≡ ch (slice_index v 1) (slice_index v 2) (slice_index v 3) =
    rw (get_or-map at c.args.v 1 [], get_or-map at c.args.v 2 [], get_or-map at c.args.v 3 [])
    (c.choose-f.ensures j lt) in
    one_round h ws v t _ _ _ _ from
    (read ∙ sym (round_fn_choose t (slice_index v 1) (slice_index v 2) (slice_index v 3) high))
    (sym (round_constant_choose t high)) word (c.round.ensures j lt)
