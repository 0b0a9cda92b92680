use Rattle.std.proofs.Common.{ℕ, ◌+◌, arith}
use Rattle.sha1.specs.Sha1.{schedule, initial_hash}
use Rattle.glb_lanes.proofs.WordsAndRounds.{run_at, word_of_five}
use Rattle.glb_lanes.proofs.rounds.choose_five.Goals as goal

pub returns : goal.returns
returns g c j t lt high b laid held =
    let ws = schedule b 64 in
    let word = λ (n k : ℕ). word_of_five b c.args.words t n k j laid in
    let s1 = c.choose_step-v1.ensures j t lt (omega arith) initial_hash ws held
    (word t 0 (omega arith) (omega arith)) in
    let s2 = c.choose_step-v2.ensures j (t + 1) lt (omega arith) initial_hash ws s1
    (word (t + 1) 1 (omega arith) (omega arith)) in
    let s3 = c.choose_step-v3.ensures j (t + 2) lt (omega arith) initial_hash ws
    (run_at b _ _ _ (omega arith) s2) (word (t + 2) 2 (omega arith) (omega arith)) in
    let s4 = c.choose_step-v4.ensures j (t + 3) lt (omega arith) initial_hash ws
    (run_at b _ _ _ (omega arith) s3) (word (t + 3) 3 (omega arith) (omega arith)) in
    let s5 = c.choose_step.ensures j (t + 4) lt (omega arith) initial_hash ws
    (run_at b _ _ _ (omega arith) s4) (word (t + 4) 4 (omega arith) (omega arith)) in
    run_at b _ _ _ (omega arith) s5
