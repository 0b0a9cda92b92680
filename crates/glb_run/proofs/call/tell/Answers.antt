use Rattle.std.proofs.Common.{refl, ◌∙◌}
use Rattle.glb_run.specs.Streams.{change}
use Rattle.glb_run.proofs.RunFacts.{told_fault, told_line}
use Rattle.glb_run.proofs.call.tell.Goals as goal

pub returns-in_default : goal.returns-in_default
returns-in_default g c =
    let err = change g.E.Sink.taken g.E.Sink.faults c.args.err.now c.write_all-told.new.self in
    let told = c.write_all-told.ensures in
    record {
      status = refl;
      told = told_fault g.E.Sink.one_call err c.args.limit c.args.status c.in_default.not-Done
          (told_line g.E.Sink.one_call err _ _
          (c.as_bytes.ensures.value ∙ c.as_str.ensures.value ∙ c.fault_line-line.ensures)
          c.write_all-told.result told.called told.whole told.part told.within told.cause
          told.no_fault);
    }
