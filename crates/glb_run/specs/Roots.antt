-- The roots with which the places of a run start, and how many each of them has.
use Rattle.std.specs.Prelude.{ℕ, zero, suc, Bool, true, false, List, [], ◌∷◌, length, map}
use Rattle.std.specs.List.{range_with_len}
use Rattle.glb_tree.specs.Spread.{dealt}
use Rattle.glb_rules.specs.Joins.{join_to}
use Rattle.glb_words.specs.declared.settings.Driver.{Driver}
use Rattle.glb_words.specs.declared.settings.Driver.TheVariants as driver
use Rattle.glb_run.specs.declared.order.Order.{Order}

-- the root at place 0, and none elsewhere
abbrev pub at_first : {X : Type 0} → X → ℕ → List X
at_first root zero = root ∷ []
at_first root (suc p) = []

-- by whether the start is spread: the root at place 0, or its children, dealt out to the places
abbrev pub roots_by : {X : Type 0} → Bool → ℕ → (X → List X) → X → ℕ → List X
roots_by false places children root = at_first root
roots_by true places children root = dealt places (children root)

-- the roots with which the places of an order start
abbrev pub roots_of : {X : Type 0} → (X → List X) → Order → X → ℕ → List X
roots_of children order root = roots_by order.spread order.params.places children root

-- the roots of all places
abbrev pub all_roots : {X : Type 0} → (X → List X) → Order → X → List X
all_roots children order root = join_to order.params.places (roots_of children order root)

-- how many roots each of so many places has
abbrev pub numbers_of : {X : Type 0} → ℕ → (ℕ → List X) → List ℕ
numbers_of places roots = map (λ p. length (roots p)) (range_with_len 0 places)

-- the same by the driver: that of one bag has one place, with the roots of all
abbrev pub numbers_by : {X : Type 0} → Driver → ℕ → (ℕ → List X) → List ℕ
numbers_by driver.One places roots = length (join_to places roots) ∷ []
numbers_by driver.Turns places roots = numbers_of places roots
numbers_by driver.Threads places roots = numbers_of places roots

-- how many roots each place has of which the report of an order tells
abbrev pub root_numbers : {X : Type 0} → (X → List X) → Order → X → List ℕ
root_numbers children order root =
    numbers_by order.driver order.params.places (roots_of children order root)
