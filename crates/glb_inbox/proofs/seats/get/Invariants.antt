use Rattle.glb_inbox.specs.inner.Acts.{got}
use Rattle.glb_inbox.proofs.seats.get.Given as goal

abbrev pub ghosts-get_as : goal.ghosts-get_as
ghosts-get_as g a = record { becomes = got a.act }
