use Rattle.std.proofs.Common.{false, refl}
use Rattle.glb_words.specs.Words.{texts_of}
use Rattle.glb_run.specs.Streams.{change}
use Rattle.glb_run.proofs.RunFacts.{ended_order, ended_words}
use Rattle.glb_run.proofs.ServeFacts.{complete}
use Rattle.glb_run.proofs.call.top.Goals as goal

pub returns-in-Ok : goal.returns-in-Ok
returns-in-Ok g c =
    let words = texts_of c.args.words.now in
    let source = change g.S.Source.left g.S.Source.faults c.args.source.now
    c.run_order-status.new.source in
    let out = change g.K.Sink.taken g.K.Sink.faults c.args.out.now c.run_order-status.new.out in
    let err = change g.E.Sink.taken g.E.Sink.faults c.args.err.now c.tell.new.err in
    let ends = ended_order g.K.Sink.one_call g.E.Sink.one_call false words source out err
    c.in-Ok.order c.in-Ok.ensures.ok c.run_order-status.result c.tell.result
    c.run_order-status.ensures c.tell.ensures.status c.tell.ensures.told in
    record {
      ends = ends;
      complete = complete false words g.K.Sink.one_call g.E.Sink.one_call source out err
          c.tell.result ends;
    }

pub returns-in-Err : goal.returns-in-Err
returns-in-Err g c =
    let words = texts_of c.args.words.now in
    let source = change g.S.Source.left g.S.Source.faults c.args.source.now c.args.source.now in
    let out = change g.K.Sink.taken g.K.Sink.faults c.args.out.now c.args.out.now in
    let err = change g.E.Sink.taken g.E.Sink.faults c.args.err.now c.refuse_words.new.err in
    let ends = ended_words g.K.Sink.one_call g.E.Sink.one_call false words source out err
    c.in-Err.fault c.in-Err.ensures.fault refl refl c.refuse_words.result
    c.refuse_words.ensures.status c.refuse_words.ensures.told in
    record {
      ends = ends;
      complete = complete false words g.K.Sink.one_call g.E.Sink.one_call source out err
          c.refuse_words.result ends;
    }
