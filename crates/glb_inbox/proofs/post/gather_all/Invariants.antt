use Rattle.std.proofs.Common.{◌≡◌, [], ◌++◌, All, List, map, vec_len}
use Rattle.glb_inbox.specs.declared.view.Seated.{Seated}
use Rattle.glb_inbox.specs.inner.Close.{as_places, kept_of}
use Rattle.glb_inbox.proofs.post.gather_all.Given as goal

abbrev pub invariant-loop-desk : goal.invariant-loop-desk
invariant-loop-desk g l = record {
  table : l.all.table_id ≡ l.words.table_id;
  free : l.all.me.1 ≡ [];
  rest : All (λ d. d.home.table.table_id ≡ l.words.table_id) l.desks.items;
  places : (xs : List (Seated _)) × (l.all.me.0 ≡ as_places xs)
      × (map (λ d. d.kept) l.desks.items ++ map kept_of xs ≡ map (λ d. d.kept) l.fn.desks.items);
  numbers : All (λ d. d.kept.place ≡ d.home.place) l.desks.items
      → All (λ d. d.kept.place ≡ d.home.place) l.fn.desks.items;
}

abbrev pub decreases-loop-desk : goal.decreases-loop-desk
decreases-loop-desk g l = vec_len l.desks
