use Rattle.std.proofs.Common.{[], ◌∷◌}
use Rattle.glb_place.specs.Rows.{give_row}
use Rattle.glb_inbox.specs.declared.view.Member.TheVariants.{Parcel}
use Rattle.glb_inbox.proofs.gifts.give.Given as goal

abbrev pub ghosts-give_as : goal.ghosts-give_as
ghosts-give_as g a = record {
  sender = λ rest r. give_row a.thief a.kind (g.B.Bag.items a.part.now) rest r;
  sent = Parcel a.kind (g.B.Bag.items a.part.now) ∷ [];
}
