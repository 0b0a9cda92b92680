use Rattle.glb_inbox.specs.inner.Acts.{sender, sent}
use Rattle.glb_inbox.proofs.seats.send.Given as goal

abbrev pub ghosts-send_as : goal.ghosts-send_as
ghosts-send_as g a = record { sender = λ rest r. sender a.act r; sent = sent a.act }
