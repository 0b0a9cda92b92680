-- The lines of a report that tell what each place counted.
use Rattle.std.specs.Prelude.{ℕ, ◌+◌, List, [], ◌∷◌, ◌++◌, length, sum, sum_by, codes, decimal}
use Rattle.glb_stats.specs.declared.counters.Counters.{Counters}
use Rattle.glb_stats.specs.declared.counter.Counter.{Counter}
use Rattle.glb_stats.specs.Counter.{every_counter, name_of, number_of}

-- a name and a number, each behind a space
abbrev pub pair_text : List ℕ → ℕ → List ℕ
pair_text name n = 32 ∷ name ++ 32 ∷ decimal n

-- these counters with the number of each
unfoldable pub numbers_text : (Counter → ℕ) → List Counter → List ℕ
numbers_text number [] = []
numbers_text number (k ∷ ks) = pair_text (name_of k) (number k) ++ numbers_text number ks

-- the line of a place
abbrev pub place_text : ℕ → Counters → List ℕ
place_text place c =
    codes "place " ++ decimal place ++ numbers_text (λ k. number_of k c) every_counter ++ 10 ∷ []

-- the lines of places, numbered from `place` upwards
unfoldable pub places_text : ℕ → List Counters → List ℕ
places_text place [] = []
places_text place (c ∷ cs) = place_text place c ++ places_text (place + 1) cs

-- the line of the sums over all places
abbrev pub total_text : List Counters → List ℕ
total_text all =
    codes "total" ++ numbers_text (λ k. sum_by (number_of k) all) every_counter ++ 10 ∷ []

-- the number of places, a line for each, and their sums
abbrev pub stats_text : List Counters → List ℕ
stats_text all =
    codes "places " ++ decimal (length all) ++ 10 ∷ [] ++ places_text 0 all ++ total_text all

-- the line of a place that was given so many roots
abbrev pub rooted_place_text : ℕ → Counters → ℕ → List ℕ
rooted_place_text place c roots =
    codes "place " ++ decimal place ++ numbers_text (λ k. number_of k c) every_counter
    ++ pair_text (codes "roots") roots ++ 10 ∷ []

-- the lines of places with their roots, numbered from `place` upwards
unfoldable pub rooted_places_text : ℕ → List Counters → List ℕ → List ℕ
rooted_places_text place (c ∷ cs) (roots ∷ others) =
    rooted_place_text place c roots ++ rooted_places_text (place + 1) cs others
rooted_places_text place _ _ = []

-- the line of the sums over all places, and over their roots
abbrev pub rooted_total_text : List Counters → List ℕ → List ℕ
rooted_total_text all roots =
    codes "total" ++ numbers_text (λ k. sum_by (number_of k) all) every_counter
    ++ pair_text (codes "roots") (sum roots) ++ 10 ∷ []

-- the number of places, a line for each with its roots, and their sums
abbrev pub rooted_stats_text : List Counters → List ℕ → List ℕ
rooted_stats_text all roots =
    codes "places " ++ decimal (length all) ++ 10 ∷ [] ++ rooted_places_text 0 all roots
    ++ rooted_total_text all roots
