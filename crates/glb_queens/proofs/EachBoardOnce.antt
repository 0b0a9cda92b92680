-- The nodes of the tree of boards: each safe list once.
use Rattle.std.proofs.Common.{◌≡◌, ◌≢◌, ℕ, zero, suc, ◌+◌, ◌*◌, ◌<◌, ◌≤◌, true, ◌&&◌, ◌==◌, nat_lt, List, [], ◌∷◌, ◌++◌, length, get_or, map, inl, inr, refl, sym, ap, subst, ◌∙◌, arith, append_assoc, append-nil}
use Rattle.std.specs.Int.{bit_at}
use Rattle.std.specs.List.{All, AllPairs, Contains, filter, flat_map, range_with_len}
use Rattle.std.proofs.lemmas.Bool.{cases_lt, cond-true, cond-false, lt-ltb, le-ltb}
use Rattle.std.proofs.lemmas.List.{length_push, length-append, append_cancel_left, get_or_at, get_or_default}
use Rattle.std.proofs.lemmas.List.Elements.{All-nil, All-cons, All-head, All-tail, All-append, All-push, All-filter, All-weaker, filter_passes}
use Rattle.std.proofs.lemmas.List.Kept.{AllPairs-cons, AllPairs-filter}
use Rattle.std.proofs.Math.Nat.{suc-mul, mul-le-mul_right}
use Rattle.glb_laws.specs.Tree.{tree, forest, IsSmall, nodes}
use Rattle.glb_queens.specs.Boards.{IsSafe, IsBoard, IsEachBoardOnce, is_free, boards_below, arrangements}
use Rattle.glb_queens.specs.inner.Masks.{columns_in}
use Rattle.glb_queens.proofs.ColumnsOfMasks.{columns_below}
use Rattle.glb_queens.proofs.SafeColumns.{safe_none, safe_push, safe_front, free_last, apart_where_free}
use Rattle.glb_queens.proofs.MembersOfLists.{Contains-head, Contains-tail, Contains-flat_map, Contains-map, Contains-filter, Contains-range, All-range, AllPairs-range, AllPairs-head, AllPairs-tail, AllPairs-append, different_few}

-- the columns after `columns`
abbrev pub next : List ℕ → ℕ → List ℕ
next columns c = columns ++ c ∷ []

-- the free columns below n, by rising column
free_list : ℕ → List ℕ → List ℕ
free_list n columns = filter (is_free columns) (range_with_len 0 n)

-- the boards below one that is not full
below_more : (n : ℕ) (columns : List ℕ) → length columns < n
    → boards_below n columns ≡ map (next columns) (free_list n columns)
unfolding boards_below free_list
below_more n columns lt = cond-true (nat_lt (length columns) n) _ _ (lt-ltb (length columns) n lt)

-- they are read off the mask of the free columns
pub below_mask : (n : ℕ) (columns : List ℕ) (mask : ℕ) → length columns < n → n ≤ 16
    → ((c : ℕ) → (bit_at mask c == 1) ≡ (nat_lt c n && is_free columns c))
    → boards_below n columns ≡ map (next columns) (columns_in mask)
unfolding free_list
below_mask n columns mask lt le says = below_more n columns lt
    ∙ ap (map (next columns)) (sym (columns_below (is_free columns) mask n le says))

-- below a full board there is none
pub below_none : (n : ℕ) (columns : List ℕ) → n ≤ length columns → boards_below n columns ≡ []
unfolding boards_below
below_none n columns ge = cond-false (nat_lt (length columns) n) _ _ (le-ltb (length columns) n ge)

record IsChoice (n : ℕ) (columns : List ℕ) (c : ℕ) : Type 0 where
  below : c < n
  free : is_free columns c ≡ true

-- each free column may be chosen
free_choices : (n : ℕ) (columns : List ℕ) → All (IsChoice n columns) (free_list n columns)
unfolding free_list
free_choices n columns k d lt = record {
  below = All-filter (is_free columns) (λ c. c < n) (range_with_len 0 n)
      (All-range (λ c. c < n) 0 n (λ j low high. omega arith)) k d lt;
  free = filter_passes (is_free columns) (range_with_len 0 n) k d lt;
}

-- each column that may be chosen is among the free ones
choice_contained : (n : ℕ) (columns : List ℕ) (c : ℕ) → c < n → is_free columns c ≡ true
    → Contains (free_list n columns) c
unfolding free_list
choice_contained n columns c lt free =
    Contains-filter (is_free columns) (range_with_len 0 n) c free
    (Contains-range 0 n c (omega arith) (omega arith))

-- no free column stands twice
choices_differ : (n : ℕ) (columns : List ℕ) → AllPairs (λ x y. x ≢ y) (free_list n columns)
unfolding free_list
choices_differ n columns =
    AllPairs-filter (λ x y. x ≢ y) (is_free columns) (range_with_len 0 n) (AllPairs-range 0 n)

-- a board with a queen in a free column is a board
board_push : (n : ℕ) (columns : List ℕ) (c : ℕ) → length columns < n → IsBoard n columns
    → IsChoice n columns c → IsBoard n (next columns c)
board_push n columns c lt board choice = record {
  safe = safe_push columns c board.safe choice.free;
  below = All-push (λ x. x < n) columns c board.below choice.below;
  rows = omega (arith, length_push columns c);
}

-- how many columns are free
place_of : (columns : List ℕ) (i : ℕ) → i < length columns → (d : ℕ)
    → get_or columns i d ≡ get_or columns i 0
place_of columns i lt d = get_or_default columns i d 0 lt

-- the columns of a safe list differ
safe_differ : (columns : List ℕ) → IsSafe columns → AllPairs (λ x y. x ≢ y) columns
safe_differ columns safe i j d lt within =
    subst (λ a. a ≢ get_or columns j d) (sym (place_of columns i (omega arith) d))
    (subst (λ b. get_or columns i 0 ≢ b) (sym (place_of columns j within d)) (safe i j lt within).0)

-- a free column differs from those that have a queen
free_differ : (n : ℕ) (columns : List ℕ) → All (λ x. All (λ y. x ≢ y) (free_list n columns)) columns
free_differ n columns i d lt j e within =
    let choice = free_choices n columns j e within in
    subst (λ a. a ≢ get_or (free_list n columns) j e) (sym (place_of columns i lt d))
    (apart_where_free columns (get_or (free_list n columns) j e) choice.free i lt).0

-- no more columns are free than have no queen
few_free : (n : ℕ) (columns : List ℕ) → IsBoard n columns
    → length columns + length (free_list n columns) ≤ n
few_free n columns board =
    let all = different_few n (columns ++ free_list n columns)
    (AllPairs-append (λ x y. x ≢ y) columns (free_list n columns) (safe_differ columns board.safe)
    (choices_differ n columns) (free_differ n columns))
    (All-append (λ x. x < n) columns (free_list n columns) board.below
    (All-weaker (IsChoice n columns) (λ x. x < n) (λ x h. h.below) (free_list n columns)
    (free_choices n columns)))
    in
    omega (arith, length-append columns (free_list n columns))

-- the tree below a board
module _ (n : ℕ) where
  below : List ℕ → ℕ → List (List ℕ)
  below columns depth = tree (boards_below n) columns depth

  -- the trees of a board with each of these columns added
  abbrev level : List ℕ → List ℕ → ℕ → List (List ℕ)
  level columns choices depth = flat_map (λ b. below b depth) (map (next columns) choices)

  -- a tree of no depth is empty
  below_zero : (columns : List ℕ) → below columns zero ≡ []
  unfolding below tree
  below_zero columns = refl

  -- a tree of a board that is not full: the board, and a tree for each free column
  below_suc : (columns : List ℕ) (depth : ℕ) → length columns < n
      → below columns (suc depth) ≡ columns ∷ level columns (free_list n columns) depth
  unfolding below tree
  below_suc columns depth lt =
      ap (λ l. columns ∷ flat_map (λ b. tree (boards_below n) b depth) l) (below_more n columns lt)

  -- a tree of a full board: the board alone
  below_full : (columns : List ℕ) (depth : ℕ) → n ≤ length columns
      → below columns (suc depth) ≡ columns ∷ []
  unfolding below tree
  below_full columns depth ge =
      ap (λ l. columns ∷ flat_map (λ b. tree (boards_below n) b depth) l) (below_none n columns ge)

  -- each begins with the columns of the root
  record IsUnder (columns board : List ℕ) : Type 0 where
    more : List ℕ
    is : board ≡ columns ++ more

  -- a board begins with itself
  under_root : (columns : List ℕ) → IsUnder columns columns
  under_root columns = record { more = []; is = sym (append-nil columns) }

  -- what begins with the board and one column more begins with the board
  under_next : (columns : List ℕ) (c : ℕ) (board : List ℕ) → IsUnder (next columns c) board
      → IsUnder columns board
  under_next columns c board u =
      record { more = c ∷ u.more; is = u.is ∙ append_assoc columns (c ∷ []) u.more }

  -- what holds of each tree of a level holds of the level
  level_all : (P : List ℕ → Type 0) (columns choices : List ℕ) (depth : ℕ)
      → ((c : ℕ) → IsChoice n columns c → All P (below (next columns c) depth))
      → All (IsChoice n columns) choices → All P (level columns choices depth)
  level_all P columns [] depth each all = All-nil P
  level_all P columns (c ∷ choices) depth each all =
      All-append P (below (next columns c) depth) (level columns choices depth)
      (each c (All-head (IsChoice n columns) c choices all))
      (level_all P columns choices depth each (All-tail (IsChoice n columns) c choices all))

  -- all boards of a tree begin with its root
  under : (depth : ℕ) (columns : List ℕ) → All (IsUnder columns) (below columns depth)
  under zero columns = subst (All (IsUnder columns)) (sym (below_zero columns))
      (All-nil (IsUnder columns))
  under (suc depth) columns =
      elim (cases_lt (length columns) n) [
        | inl lt ↦
            subst (All (IsUnder columns)) (sym (below_suc columns depth lt))
            (All-cons (IsUnder columns) columns (level columns (free_list n columns) depth)
            (under_root columns)
            (level_all (IsUnder columns) columns (free_list n columns) depth
            (λ c _. All-weaker (IsUnder (next columns c)) (IsUnder columns) (under_next columns c)
            (below (next columns c) depth) (under depth (next columns c)))
            (free_choices n columns)))
        | inr ge ↦
            subst (All (IsUnder columns)) (sym (below_full columns depth ge))
            (All-cons (IsUnder columns) columns [] (under_root columns) (All-nil (IsUnder columns)))
      ]

  -- all boards of a tree are boards
  sound : (depth : ℕ) (columns : List ℕ) → IsBoard n columns → All (IsBoard n) (below columns depth)
  sound zero columns board = subst (All (IsBoard n)) (sym (below_zero columns))
      (All-nil (IsBoard n))
  sound (suc depth) columns board =
      elim (cases_lt (length columns) n) [
        | inl lt ↦
            subst (All (IsBoard n)) (sym (below_suc columns depth lt))
            (All-cons (IsBoard n) columns (level columns (free_list n columns) depth) board
            (level_all (IsBoard n) columns (free_list n columns) depth
            (λ c choice. sound depth (next columns c) (board_push n columns c lt board choice))
            (free_choices n columns)))
        | inr ge ↦
            subst (All (IsBoard n)) (sym (below_full columns depth ge))
            (All-cons (IsBoard n) columns [] board (All-nil (IsBoard n)))
      ]

  -- the root is in its tree
  first_in : (columns : List ℕ) (depth : ℕ) → Contains (below columns (suc depth)) columns
  first_in columns depth =
      elim (cases_lt (length columns) n) [
        | inl lt ↦ subst (λ l. Contains l columns) (sym (below_suc columns depth lt))
            (Contains-head columns (level columns (free_list n columns) depth))
        | inr ge ↦ subst (λ l. Contains l columns) (sym (below_full columns depth ge))
            (Contains-head columns [])
      ]

  -- each board that begins with the root is in the tree, if it is deep enough
  complete : (depth : ℕ) (columns more : List ℕ) → IsBoard n (columns ++ more) → length more < depth
      → Contains (below columns depth) (columns ++ more)
  complete zero columns more board deep = absurd (omega arith)
  complete (suc depth) columns [] board deep =
      subst (Contains (below columns (suc depth))) (sym (append-nil columns))
      (first_in columns depth)
  complete (suc depth) columns (c ∷ more) board deep =
      let e : next columns c ++ more ≡ columns ++ c ∷ more = append_assoc columns (c ∷ []) more in
      let board' = subst (IsBoard n) (sym e) board in
      let size = length-append columns (c ∷ more) in
      let lt : length columns < n = omega (arith, board.rows) in
      let free = free_last columns c (safe_front (next columns c) more board'.safe) in
      let small : c < n =
      subst (λ v. v < n) (get_or_at columns c more 0 (length columns) refl)
      (board.below (length columns) 0 (omega arith)) in
      let inside = Contains-flat_map (λ b. below b depth) (map (next columns) (free_list n columns))
      (next columns c) (columns ++ c ∷ more)
      (Contains-map (next columns) (free_list n columns) c
      (choice_contained n columns c small free))
      (subst (Contains (below (next columns c) depth)) e
      (complete depth (next columns c) more board' (omega arith)))
      in
      subst (λ l. Contains l (columns ++ c ∷ more)) (sym (below_suc columns depth lt))
      (Contains-tail columns (columns ++ c ∷ more)
      (level columns (free_list n columns) depth) inside)

  -- boards under different columns differ
  apart_next : (columns : List ℕ) (c : ℕ) (board : List ℕ) → IsUnder (next columns c) board
      → (d : ℕ)
      → c ≢ d → (other : List ℕ) → IsUnder (next columns d) other → board ≢ other
  apart_next columns c board u d ne other v e =
      let same : columns ++ c ∷ u.more ≡ columns
      ++ d ∷ v.more = sym (append_assoc columns (c ∷ []) u.more) ∙ sym u.is ∙ e ∙ v.is
      ∙ append_assoc columns (d ∷ []) v.more in
      let rest : c ∷ u.more
      ≡ d ∷ v.more = append_cancel_left columns (c ∷ u.more) (d ∷ v.more) same in
      ne (cc rest)

  -- a board under one column is in no tree of a level of other columns
  apart_level : (columns choices : List ℕ) (depth : ℕ) (c : ℕ) (board : List ℕ)
      → IsUnder (next columns c) board → All (λ d. c ≢ d) choices
      → All (λ other. board ≢ other) (level columns choices depth)
  apart_level columns [] depth c board u ne = All-nil (λ other. board ≢ other)
  apart_level columns (d ∷ choices) depth c board u ne =
      All-append (λ other. board ≢ other) (below (next columns d) depth)
      (level columns choices depth)
      (All-weaker (IsUnder (next columns d)) (λ other. board ≢ other)
      (λ other v. apart_next columns c board u d (All-head (λ d. c ≢ d) d choices ne) other v)
      (below (next columns d) depth) (under depth (next columns d)))
      (apart_level columns choices depth c board u (All-tail (λ d. c ≢ d) d choices ne))

  -- no board stands twice in a level
  once_level : (columns choices : List ℕ) (depth : ℕ)
      → ((c : ℕ) → AllPairs (λ a b. a ≢ b) (below (next columns c) depth))
      → AllPairs (λ x y. x ≢ y) choices → AllPairs (λ a b. a ≢ b) (level columns choices depth)
  once_level columns [] depth each differ = λ i j d lt within. absurd (omega arith)
  once_level columns (c ∷ choices) depth each differ =
      AllPairs-append (λ a b. a ≢ b) (below (next columns c) depth) (level columns choices depth)
      (each c)
      (once_level columns choices depth each (AllPairs-tail (λ x y. x ≢ y) c choices differ))
      (All-weaker (IsUnder (next columns c)) (λ a. All (λ b. a ≢ b) (level columns choices depth))
      (λ board u. apart_level columns choices depth c board u
      (AllPairs-head (λ x y. x ≢ y) c choices differ)) (below (next columns c) depth)
      (under depth (next columns c)))

  -- what begins with the board and one column more is not the board
  longer : (columns : List ℕ) (c : ℕ) (board : List ℕ) → IsUnder (next columns c) board
      → columns ≢ board
  longer columns c board u e =
      absurd (omega (
        arith,
        ap length e,
        ap length u.is,
        length-append (next columns c) u.more,
        length_push columns c,
      ))

  -- the root is in no tree of the level below it
  longer_level : (columns choices : List ℕ) (depth : ℕ)
      → All (λ board. columns ≢ board) (level columns choices depth)
  longer_level columns [] depth = All-nil (λ board. columns ≢ board)
  longer_level columns (c ∷ choices) depth =
      All-append (λ board. columns ≢ board) (below (next columns c) depth)
      (level columns choices depth)
      (All-weaker (IsUnder (next columns c)) (λ board. columns ≢ board) (longer columns c)
      (below (next columns c) depth) (under depth (next columns c)))
      (longer_level columns choices depth)

  -- no board stands twice in a tree
  once : (depth : ℕ) (columns : List ℕ) → AllPairs (λ a b. a ≢ b) (below columns depth)
  once zero columns =
      subst (AllPairs (λ a b. a ≢ b)) (sym (below_zero columns))
      (λ i j d lt within. absurd (omega arith))
  once (suc depth) columns =
      elim (cases_lt (length columns) n) [
        | inl lt ↦
            subst (AllPairs (λ a b. a ≢ b)) (sym (below_suc columns depth lt))
            (AllPairs-cons (λ a b. a ≢ b) columns (level columns (free_list n columns) depth)
            (longer_level columns (free_list n columns) depth)
            (once_level columns (free_list n columns) depth (λ c. once depth (next columns c))
            (choices_differ n columns)))
        | inr ge ↦
            subst (AllPairs (λ a b. a ≢ b)) (sym (below_full columns depth ge))
            (λ i j d lt within. absurd (omega arith))
      ]

  -- the tree is small
  level_size : (columns choices : List ℕ) (depth most : ℕ)
      → ((c : ℕ) → IsChoice n columns c → length (below (next columns c) depth) ≤ most)
      → All (IsChoice n columns) choices
      → length (level columns choices depth) ≤ length choices * most
  level_size columns [] depth most each all = omega arith
  level_size columns (c ∷ choices) depth most each all =
      let first = each c (All-head (IsChoice n columns) c choices all) in
      let rest = level_size columns choices depth most each
      (All-tail (IsChoice n columns) c choices all) in
      let size = length-append (below (next columns c) depth) (level columns choices depth) in
      omega (arith, suc-mul (length choices) most)

  -- a tree has no more boards than there are arrangements of the columns that are left
  size : (depth : ℕ) (columns : List ℕ) (free : ℕ) → IsBoard n columns → length columns + free ≡ n
      → length (below columns depth) ≤ arrangements free
  unfolding arrangements
  size zero columns free board e = omega (arith, ap length (below_zero columns))
  size (suc depth) columns zero board e = omega
      (arith, ap length (below_full columns depth (omega arith)))
  size (suc depth) columns (suc free) board e =
      let lt : length columns < n = omega arith in
      let few : length (free_list n columns) ≤ suc free = omega (arith, few_free n columns board) in
      let all = level_size columns (free_list n columns) depth (arrangements free)
      (λ c choice. size depth (next columns c) free (board_push n columns c lt board choice)
      (omega (arith, length_push columns c))) (free_choices n columns) in
      let product : length
      (free_list n columns) * arrangements free ≤ suc free * arrangements free =
      mul-le-mul_right (arrangements free) few in
      omega (arith, ap length (below_suc columns depth lt))

  -- the empty board
  board_none : IsBoard n []
  board_none = record { safe = safe_none; below = All-nil (λ x. x < n); rows = omega arith }

  -- the nodes below the board without queens are its tree
  nodes_are : (most : ℕ) → nodes (boards_below n) ([] ∷ []) most ≡ below [] (suc most)
  unfolding below forest
  nodes_are most = append-nil (tree (boards_below n) [] (suc most))

  -- the nodes are all boards, each once
  pub each_board_once : (most : ℕ) → n ≤ most
      → IsEachBoardOnce n (nodes (boards_below n) ([] ∷ []) most)
  each_board_once most enough =
      subst (IsEachBoardOnce n) (sym (nodes_are most)) (record {
        sound = sound (suc most) [] board_none;
        complete = λ columns board. complete (suc most) [] columns board
            (omega (arith, board.rows));
        once = once (suc most) [];
      })

  -- no depth has more boards than lists of different columns
  pub few_boards : (most : ℕ) → length (nodes (boards_below n) ([] ∷ []) most) ≤ arrangements n
  few_boards most = omega
      (arith, ap length (nodes_are most), size (suc most) [] n board_none (omega arith))

  -- the tree has no more nodes than there are arrangements
  pub boards_small : IsSmall (boards_below n) ([] ∷ []) (arrangements n)
  boards_small = few_boards (arrangements n)
