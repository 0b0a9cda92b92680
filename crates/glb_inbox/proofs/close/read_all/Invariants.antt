use Rattle.glb_inbox.specs.inner.Begins.{job_of}
use Rattle.glb_inbox.proofs.close.read_all.Given as goal

abbrev pub ghosts-read_live : goal.ghosts-read_live
ghosts-read_live g a = record { job = job_of g.P.Program.children g.B.Bag.items a.words.now.key }

abbrev pub ghosts-read_items : goal.ghosts-read_items
ghosts-read_items g a = record { job = job_of g.P.Program.children g.B.Bag.items a.words.now.key }

abbrev pub ghosts-read_stop : goal.ghosts-read_stop
ghosts-read_stop g a = record { job = job_of g.P.Program.children g.B.Bag.items a.words.now.key }
