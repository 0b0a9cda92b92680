-- What a step does to the view of its seat.
use Rattle.std.specs.Prelude.{◌≡◌, ℕ, suc, ◌+◌, ◌-◌, ◌<◌, ◌≤◌, ◌^◌, List, [], ◌∷◌, ◌++◌, max, cond}
use Rattle.std.specs.Prelude.{nat_lt}
use Rattle.atomic_table.specs.Table.{Step, Me}
use Rattle.glb_bound.specs.declared.view.View.{View}

-- the view of so many places that have done nothing
abbrev pub fresh : ℕ → ℕ → View
fresh places frontier = record {
  places = places;
  frontier = frontier;
  claimed = [];
  ended = 0;
  raised = 0;
  seen = 0;
  counted = 0;
  total = 0;
  code = 0;
  halted = 0;
}

-- one place is given away
abbrev pub one_less : View → View
one_less v = record v { places = v.places - 1 }

-- two views together
abbrev pub joined : View → View → View
joined v w = record {
  places = v.places + w.places;
  frontier = max v.frontier w.frontier;
  claimed = v.claimed ++ w.claimed;
  ended = v.ended + w.ended;
  raised = max v.raised w.raised;
  seen = max v.seen w.seen;
  counted = v.counted + w.counted;
  total = max v.total w.total;
  code = max v.code w.code;
  halted = max v.halted w.halted;
}

-- the best was read
abbrev pub has_read : ℕ → View → View
has_read n v = record v { seen = max v.seen n }

-- the best was found at n and raised to a value
abbrev pub has_raised : ℕ → ℕ → View → View
has_raised value n v =
    record v { raised = max v.raised value; seen = max v.seen (max n value) }

-- the number n was claimed, or there was none left
abbrev pub has_claimed : ℕ → View → View
has_claimed n v = cond (nat_lt n v.frontier) (record v { claimed = n ∷ v.claimed })
    (record v { ended = v.ended + 1 })

-- so many items were added to n
abbrev pub has_counted : ℕ → ℕ → View → View
has_counted more n v = record v { counted = v.counted + more; total = n + more }

-- the stop code was found at n and raised
abbrev pub has_halted : ℕ → ℕ → View → View
has_halted code n v = record v { code = max v.code code; halted = max v.halted (max n code) }

-- the stop code was read
abbrev pub has_looked : ℕ → View → View
has_looked n v = record v { halted = max v.halted n }

-- the least number that is above the last one claimed
abbrev pub next_of : List ℕ → ℕ
next_of [] = 0
next_of (n ∷ ns) = suc n

-- what a step tells: the view moved so
abbrev pub Moved : (ℕ → ℕ → View → View) → Step ℕ → Me ℕ View → ℕ → Me ℕ View → Type 0
Moved f st m n m' = m' ≡ (f st.first n m.0, m.1)

abbrev pub Reads : Step ℕ → Me ℕ View → ℕ → Me ℕ View → Type 0
Reads = Moved (λ _. has_read)

abbrev pub Raises : Step ℕ → Me ℕ View → ℕ → Me ℕ View → Type 0
Raises = Moved has_raised

-- besides, the number is above those claimed before
abbrev pub Claims : Step ℕ → Me ℕ View → ℕ → Me ℕ View → Type 0
Claims st m n m' = Moved (λ _. has_claimed) st m n m' × (next_of m.0.claimed ≤ n)

-- besides, the count found has what the seat counted before, and does not wrap around
abbrev pub Counts : Step ℕ → Me ℕ View → ℕ → Me ℕ View → Type 0
Counts st m n m' = Moved has_counted st m n m' × (m.0.counted ≤ n) × (n + st.first < 2 ^ 64)

abbrev pub Halts : Step ℕ → Me ℕ View → ℕ → Me ℕ View → Type 0
Halts = Moved has_halted

abbrev pub Looks : Step ℕ → Me ℕ View → ℕ → Me ℕ View → Type 0
Looks = Moved (λ _. has_looked)
