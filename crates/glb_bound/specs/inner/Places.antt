-- What a place of a search on threads does to its seat, to the items that wait, and to its best.
use Rattle.std.specs.Prelude.{◌≡◌, ◌⊎◌, ℕ, ◌+◌, ◌*◌, ◌^◌, ◌<◌, ◌≤◌, false, List, [], ◌∷◌, ◌++◌, max}
use Rattle.std.specs.Prelude.{map, get_or, All}
use Rattle.glb_tree.specs.Runs.{IsTooMany}
use Rattle.atomic_table.specs.Seated.{TableId}
use Rattle.glb_bound.specs.Best.{IsNode, IsBest}
use Rattle.glb_bound.specs.declared.place.Place.{Place}
use Rattle.glb_bound.specs.declared.search.Best.{Best}
use Rattle.glb_bound.specs.declared.view.View.{View}
use Rattle.glb_bound.specs.inner.Views.{fresh}
use Rattle.glb_bound.specs.inner.Walks.{IsWalked}

-- a visit of x, with `before` waiting: the children of x wait too, or they are left out, since no
-- item of their trees is worth more than the best that the place has seen then
pub record Passes {X : Type 0} (children : X → List X) (worth cap : X → ℕ) (x : X)
    (before after : List X) (old new : ℕ) : Type 0 where
  pub waiting : (after ≡ before ++ children x) ⊎ ((after ≡ before) × (cap x ≤ new))
  pub least : old ≤ new
  pub own : worth x ≤ new

-- of the view only what is known of the best changed
abbrev pub SameButBest : View → View → Type 0
SameButBest v w = w ≡ record v { raised = w.raised; seen = w.seen }

-- so many items were counted, and stop was raised or read
pub record Settles (more : ℕ) (v w : View) : Type 0 where
  pub same : w ≡ record v {
    counted = v.counted + more;
    total = w.total;
    code = w.code;
    halted = w.halted;
  }
  pub code : w.code ≤ max v.code 1

-- what is claimed is the same, and stop was not raised for want of memory
pub record SameClaims (v w : View) : Type 0 where
  pub places : w.places ≡ v.places
  pub frontier : w.frontier ≡ v.frontier
  pub claimed : w.claimed ≡ v.claimed
  pub ended : w.ended ≡ v.ended
  pub code : w.code ≤ max v.code 1

-- the place has walked the trees of `roots` so far, which lie in the tree of `root`, and its best
-- is a node of that tree
pub record IsWalking {X : Type 0} (children : X → List X) (worth cap : X → ℕ) (root : X)
    (roots : List X) (visited : ℕ) (waiting : List X) (best : Best X) (v : View) : Type 0 where
  pub walked : IsWalked children worth cap roots visited waiting v.seen
  pub nodes : All (IsNode children root) waiting
  pub node : IsNode children root best.item
  pub worth_is : worth best.item ≡ best.worth
  pub raised : v.raised ≤ best.worth

-- the items of the frontier that have these numbers
abbrev pub items_at : {X : Type 0} → List X → X → List ℕ → List X
items_at frontier d numbers = map (λ n. get_or frontier n d) numbers

-- what so many places leave that found memory: they walked the trees of the items that they
-- claimed, to the end or until stop was raised
pub record HasPlayed {X : Type 0} (children : X → List X) (worth cap : X → ℕ) (frontier : List X)
    (first : Best X) (places visited : ℕ) (waiting : List X) (best : Best X) (v : View)
    : Type 0 where
  pub places_are : v.places ≡ places
  pub counted : visited ≡ v.counted
  pub few : visited ≤ places * 2 ^ 41
  pub code : v.code ≤ 1
  pub ends : ((places ≤ v.ended) × (waiting ≡ [])) ⊎ (1 ≤ v.halted)
  pub walking : (root : X) → All (IsNode children root) frontier → IsNode children root first.item
      → worth first.item ≡ first.worth
      → IsWalking children worth cap root (items_at frontier root v.claimed) visited waiting best v

-- a place at the start
pub record IsReady {X : Type 0} (id : TableId) (frontier : ℕ) (first : Best X) (p : Place X)
    : Type 0 where
  pub table : p.seat.table_id ≡ id
  pub fresh_view : p.seat.me ≡ (fresh 1 frontier, [])
  pub found_memory : p.is_refused ≡ false
  pub best : p.best ≡ first

-- a place at the end
pub record IsDone {X : Type 0} (children : X → List X) (worth cap : X → ℕ) (id : TableId)
    (frontier : List X) (first : Best X) (p : Place X) : Type 0 where
  pub table : p.seat.table_id ≡ id
  pub slots : p.seat.me.1 ≡ []
  pub played : p.is_refused ≡ false → (waiting : List X)
      × HasPlayed children worth cap frontier first 1 p.visited waiting p.best p.seat.me.0

-- what a search has found that visited so many items
pub record HasSearched {X : Type 0} (children : X → List X) (worth cap : X → ℕ) (root : X)
    (limit visited : ℕ) (best : Best X) : Type 0 where
  pub exceeds : limit < visited → IsTooMany children (root ∷ []) limit visited
  pub is_best : visited ≤ limit → IsBest children worth root best.worth
  pub node : IsNode children root best.item
  pub worth_is : worth best.item ≡ best.worth
