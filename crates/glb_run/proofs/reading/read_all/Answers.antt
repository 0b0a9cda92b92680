use Rattle.glb_run.specs.Streams.{stream}
use Rattle.glb_run.proofs.RunFacts.{reads_more}
use Rattle.glb_run.proofs.reading.read_all.Goals as goal

pub returns-then-is_err-clause-stop : goal.returns-then-is_err-clause-stop
returns-then-is_err-clause-stop g c =
    let at = stream g.S.Source.left g.S.Source.faults in (
      _,
      reads_more (at c.args.source.now) (at c.loop-input.source) (at c.read.new.self) _ _
          c.loop-input.invariant.reads c.in-Ok.ensures.taken c.in-Ok.ensures.no_fault,
    )
