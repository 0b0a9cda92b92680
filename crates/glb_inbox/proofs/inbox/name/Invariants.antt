use Rattle.std.proofs.Common.{Some}
use Rattle.glb_inbox.specs.inner.Posted.{tie}
use Rattle.glb_inbox.proofs.inbox.name.Given as goal

abbrev pub ghosts-named : goal.ghosts-named
ghosts-named g a = record { tie = Some (tie a.program.now a.seat.now.table_id) }
