use Rattle.std.proofs.Common.{ℕ, List, [], slice_index, sym, ◌∙◌, arith}
use Rattle.std.proofs.Math.ListN.{get_or-map}
use Rattle.std.proofs.lemmas.List.{length-set}
use Rattle.sha1.proofs.Schedule.{slice_index-schedule_first}
use Rattle.glb_lanes.proofs.WordsAndRounds.{scheduled_more}
use Rattle.glb_lanes.proofs.words.lay_first.Goals as goal

pub first-preserved : goal.first-preserved
first-preserved g c =
    let at : ℕ → List ℕ → ℕ = λ j v. slice_index v j in
    record {
      long = length-set c.first.words c.first.t _ ∙ c.first.invariant.long;
      laid = λ j lt b is. scheduled_more b c.first.words c.first.t j _ c.first.invariant.long
          (omega arith)
          (c.first.invariant.laid j lt b is)
          (sym (get_or-map (at j) c.args.start.now c.first.t []) ∙ is c.first.t (omega arith)
          ∙ sym (slice_index-schedule_first b 64 c.first.t (omega arith)));
    }
