use Rattle.std.proofs.Common.{◌≡◌, ℕ, ◌<◌, [], drop, get_or, length}
use Rattle.glb_inbox.specs.Posts.{DeskView}
use Rattle.glb_inbox.specs.inner.Begins.{first_members}
use Rattle.glb_inbox.specs.inner.Books.{AreWays}
use Rattle.glb_inbox.specs.inner.Desks.{IsBegun}
use Rattle.glb_inbox.proofs.post.first_desks.Given as goal

abbrev pub invariant-loop-place : goal.invariant-loop-place
invariant-loop-place g l =
    let s = l.words.value.shared in record {
      table : l.dealer.table_id ≡ s.table_id;
      free : l.dealer.me.1 ≡ [];
      left : l.dealer.me.0 ≡ drop l.place (first_members g.P.Program.children g.B.Bag.items s.key);
      inboxes : AreWays s.table_id s.key.program.value s.key.lines.value.places l.inboxes.items;
      many : length l.desks.items ≡ l.place;
      begun : (p : ℕ) (d : DeskView _ _) → p < length l.desks.items
          → IsBegun g.P.Program.children g.B.Bag.items s.table_id s.key p
          (get_or l.desks.items p d);
    }
