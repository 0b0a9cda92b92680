use Rattle.glb_io.proofs.Streams.{read_taken}
use Rattle.glb_io.proofs.stream.StdSourceSource.read.Goals as goal

pub returns-in-Ok-clause-taken : goal.returns-in-Ok-clause-taken
returns-in-Ok-clause-taken g c =
    read_taken g.R.Read.remaining g.met.R.SteadyRead.steady c.args.self.now.inner
    c.loop.self.inner c.read.new.self c.args.self.now.silent c.loop.self.silent _
    c.loop.invariant.quiet c.in-Ok.ensures.bytes.0
