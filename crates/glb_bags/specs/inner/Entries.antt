-- What the private functions of a range bag do with entries.
use Rattle.std.specs.Prelude.{◌≡◌, ◌++◌, ℕ, ◌+◌, ◌-◌, ◌<◌, List, [], ◌∷◌, length, cond, nat_lt, map, Bool, true}
use Rattle.std.specs.Prelude.{All, Some, slice_get, slice_index_or}
use Rattle.glb_bags.specs.declared.entry.Entry.{Entry}
use Rattle.glb_bags.specs.declared.entry.Entry.TheVariants.{One, Range}
use Rattle.glb_bags.specs.Ranges.{AllWhole, IsHeld, all_items, all_made}
use Rattle.glb_bags.specs.declared.entry.Made.{Made}

-- how many items an entry has
abbrev pub entry_size : {X : Type 0} → Entry X → ℕ
entry_size (One x) = 1
entry_size (Range parent first made end) = end - first

-- how many of them are made
abbrev pub made_size : {X : Type 0} → Entry X → ℕ
made_size (One x) = 1
made_size (Range parent first made end) = end - made

-- the last item of the entry is made
abbrev pub IsReady : {X : Type 0} → Entry X → Type 0
IsReady (One x) = Unit {0}
IsReady (Range parent first made end) = made < end

-- the last item of all is made
abbrev pub IsLastReady : {X : Type 0} → List (Entry X) → Type 0
IsLastReady {X} es = (e : Entry X) → e ≡ slice_index_or es (length es - 1) e → IsReady e

-- the last item of all is not made
abbrev pub IsLastUnmade : {X : Type 0} → List (Entry X) → Type 0
IsLastUnmade {X} es = (e : Entry X) → e ≡ slice_index_or es (length es - 1) e → ¬ IsReady e

-- what is left of an entry without its last item
abbrev pub without_last : {X : Type 0} → Entry X → List (Entry X)
without_last (One x) = []
without_last (Range parent first made end) =
    cond (nat_lt (first + 1) end) (Range parent first made (end - 1) ∷ []) []

-- the entry of so many children of an item: all of them are made where it is opened, else none is
abbrev pub all_children : {X : Type 0} → X → ℕ → Bool → List (Entry X)
all_children parent fan opened =
    cond (nat_lt 0 fan) (Range parent 0 (cond opened 0 fan) fan ∷ []) []

-- an item whose children are made
abbrev pub opened_item : {X : Type 0} → X → Made X
opened_item x = record { item = x; opened = true }

-- the last children of entries that are not made are asked for, and counted as made
pub record IsAsked {X : Type 0} (children : X → List X) (old new : List (Entry X))
    (asked : List (X × ℕ)) : Type 0 where
  pub whole : AllWhole children new
  pub count : length new ≡ length old
  pub same : all_items children new ≡ all_items children old
  pub numbers : All (λ a. a.1 < length (children a.0)) asked
  pub made_is : map Some (all_made children new)
      ≡ map Some (all_made children old) ++ map (λ a. slice_get (children a.0) a.1) asked
  pub ready : IsLastReady new

-- entries were cut into a part and a rest, neither of them empty, each with what is made of it
pub record IsCut {X : Type 0} (children : X → List X) (old part : List (Entry X))
    (part_made : List (Made X)) (rest : List (Entry X)) (rest_made : List (Made X)) : Type 0 where
  pub part_held : IsHeld children part part_made
  pub rest_held : IsHeld children rest rest_made
  pub joined : all_items children old ≡ all_items children part ++ all_items children rest
  pub part_some : 0 < length (all_items children part)
  pub rest_some : 0 < length (all_items children rest)
