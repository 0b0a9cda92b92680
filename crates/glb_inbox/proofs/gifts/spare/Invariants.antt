use Rattle.glb_inbox.proofs.gifts.spare.Given as goal

abbrev pub ghosts-spare_as : goal.ghosts-spare_as
ghosts-spare_as g a = record { part = g.B.Bag.items a.part.now }
