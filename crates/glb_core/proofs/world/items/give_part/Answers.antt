use Rattle.std.proofs.Common.{refl}
use Rattle.glb_core.proofs.world.items.give_part.Goals as goal

pub returns-clause-given : goal.returns-clause-given
returns-clause-given g c =
    let h = rw c.in-Some.is at c.in_ok-part.ensures.halves in
    let s = rw c.in-Some.is at c.in_ok-part.ensures.same in
    record {
      part = c.in-Some.part;
      edge_row_is = refl;
      some = h.0;
      left = h.1;
      same = s;
      place_row = rw (c.count_given.ensures, c.len.ensures) refl;
    }
