use Rattle.std.proofs.Common.{arith, subst, take, ◌+◌, ◌≡◌, length-take, length-drop}
use Rattle.glb_io.specs.Bytes.{Gives}
use Rattle.glb_io.proofs.Streams.{write_more, told}
use Rattle.glb_io.proofs.stream.StdSinkSink.write_all.Goals as goal

pub loop-done-preserved-in-Ok : goal.loop-done-preserved-in-Ok
loop-done-preserved-in-Ok g c =
    let bound = simp (length-take, length-drop) at c.in-Ok.ensures.bound in
    record {
      within = omega arith;
      few = c.loop-done.invariant.few;
      given = write_more g.W.Write.contents g.met.W.SteadyWrite.steady _ _ _ _ _ _ _ _
          c.loop-done.invariant.given c.in-Ok.ensures.bytes;
      later = c.loop-done.invariant.later;
    }

pub returns-in-Ok-eq0-clause-part : goal.returns-in-Ok-eq0-clause-part
returns-in-Ok-eq0-clause-part g c =
    let contents = g.W.Write.contents in
    let given = write_more contents g.met.W.SteadyWrite.steady _ _ _ _ _ _ _ _
    c.loop-done.invariant.given c.in-Ok-eq0.ensures.bytes in
    let count : c.loop-done.done + c.in-Ok-eq0.field-0 ≡ c.fault.result.1 =
    omega (arith, c.in-Ok-eq0.field-0-test, c.fault.ensures.done) in
    rw (c.fault.ensures.silent, c.fault.ensures.inner)
    (subst (λ n. Gives (told contents c.args.self.now.silent c.args.self.now.inner)
    (told contents c.loop-done.self.silent c.write.new.self) (take n c.args.piece.now)) count given)
