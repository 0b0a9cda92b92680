-- What the entries of a range bag stand for.
use Rattle.std.specs.Prelude.{◌≡◌, ◌-◌, ◌<◌, ◌≤◌, ◌++◌, List, [], ◌∷◌, length, take, cond, true, false}
use Rattle.std.specs.Prelude.{slice_range}
use Rattle.std.specs.List.{flat_map}
use Rattle.glb_bags.specs.declared.entry.Entry.{Entry}
use Rattle.glb_bags.specs.declared.entry.Entry.TheVariants.{One, Range}
use Rattle.glb_bags.specs.declared.entry.Made.{Made}

-- the items of an entry
abbrev pub entry_items : {X : Type 0} → (X → List X) → Entry X → List X
entry_items children (One x) = x ∷ []
entry_items children (Range parent first made end) = slice_range (children parent) first end

-- the items of all entries
abbrev pub all_items : {X : Type 0} → (X → List X) → List (Entry X) → List X
all_items children es = flat_map (entry_items children) es

-- those items of an entry that are made
abbrev pub made_items : {X : Type 0} → (X → List X) → Entry X → List X
made_items children (One x) = x ∷ []
made_items children (Range parent first made end) = slice_range (children parent) made end

-- those items of all entries that are made
abbrev pub all_made : {X : Type 0} → (X → List X) → List (Entry X) → List X
all_made children es = flat_map (made_items children) es

-- a range has children of its parent, and at least one; the last of them may be made
abbrev pub IsWhole : {X : Type 0} → (X → List X) → Entry X → Type 0
IsWhole children (One x) = Unit {0}
IsWhole children (Range parent first made end) =
    (first < end) × (first ≤ made) × (made ≤ end) × (end ≤ length (children parent))

abbrev pub AllWhole : {X : Type 0} → (X → List X) → List (Entry X) → Type 0
AllWhole children [] = Unit {0}
AllWhole children (e ∷ es) = IsWhole children e × AllWhole children es

-- the entries are whole, and these items are what is made of them
pub record IsKept {X : Type 0} (children : X → List X) (entries : List (Entry X)) (made : List X)
    : Type 0 where
  pub whole : AllWhole children entries
  pub made_is : made ≡ all_made children entries

-- an item that is not opened
abbrev pub closed_item : {X : Type 0} → X → Made X
closed_item x = record { item = x; opened = false }

-- the children of an opened item end the list of what is made before it
abbrev pub IsOpenBehind : {X : Type 0} → (X → List X) → List X → Made X → Type 0
IsOpenBehind children before m =
    m.opened ≡ true
    → take (length before - length (children m.item)) before ++ children m.item ≡ before

-- the items before one that is made, and itself: where it is opened it takes the place of its
-- children
abbrev pub with_item : {X : Type 0} → (X → List X) → List X → Made X → List X
with_item children before m =
    cond m.opened (take (length before - length (children m.item)) before) before ++ m.item ∷ []

-- the items that are made, behind others, without the children of those that are opened
abbrev pub all_closed : {X : Type 0} → (X → List X) → List X → List (Made X) → List X
all_closed children before [] = before
all_closed children before (m ∷ ms) = all_closed children (with_item children before m) ms

abbrev pub AllOpen : {X : Type 0} → (X → List X) → List X → List (Made X) → Type 0
AllOpen children before [] = Unit {0}
AllOpen children before (m ∷ ms) =
    IsOpenBehind children before m × AllOpen children (with_item children before m) ms

-- the entries are whole, and what is made of them is held beside, each opened item behind its
-- children
pub record IsHeld {X : Type 0} (children : X → List X) (entries : List (Entry X))
    (made : List (Made X)) : Type 0 where
  pub kept : IsKept children entries (all_closed children [] made)
  pub all_open : AllOpen children [] made
