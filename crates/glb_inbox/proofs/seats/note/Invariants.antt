use Rattle.glb_inbox.specs.inner.Acts.{noted}
use Rattle.glb_inbox.proofs.seats.note.Given as goal

abbrev pub ghosts-note_as : goal.ghosts-note_as
ghosts-note_as g a = record { becomes = λ w r. noted a.act r }
