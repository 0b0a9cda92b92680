use Rattle.std.proofs.Common.{refl}
use Rattle.glb_run.specs.Streams.{change}
use Rattle.glb_run.proofs.RunFacts.{finished, unprepared}
use Rattle.glb_run.proofs.call.run_order_calmly.Goals as goal

pub returns-in-Ok : goal.returns-in-Ok
returns-in-Ok g c =
    finished g.K.Sink.one_call c.args.order.now
    (change g.S.Source.left g.S.Source.faults c.args.source.now c.prepare.new.source)
    (change g.K.Sink.taken g.K.Sink.faults c.args.out.now c.finish.new.out) (λ bytes. bytes.items)
    c.in-Ok.task c.in-Ok.ensures.task c.report_calm.result c.report_calm.ensures.report
    c.report_calm.ensures.stops c.finish.result c.finish.ensures

pub returns-in-Err : goal.returns-in-Err
returns-in-Err g c =
    unprepared g.K.Sink.one_call c.args.order.now
    (change g.S.Source.left g.S.Source.faults c.args.source.now c.prepare.new.source)
    (change g.K.Sink.taken g.K.Sink.faults c.args.out.now c.args.out.now) c.in-Err.status
    c.in-Err.ensures.stops refl
