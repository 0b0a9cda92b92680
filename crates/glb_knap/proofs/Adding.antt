-- What lines add to a value, one after the other.
use Rattle.std.proofs.Common.{◌≡◌, ℕ, suc, ◌+◌, ◌-◌, ◌*◌, ◌/◌, ◌^◌, ◌<◌, ◌≤◌, List, [], ◌∷◌}
use Rattle.std.proofs.Common.{length, refl, sym, ap, subst, ◌∙◌, arith, drop, get_or, take, true, false, cond}
use Rattle.std.proofs.Math.Seq.{drop-cons}
use Rattle.std.proofs.lemmas.List.{nil_from_length, length-drop, take_all}
use Rattle.std.proofs.lemmas.Bool.{lt-ltb, le-ltb}
use Rattle.glb_laws.specs.Bounded.{capped_sum}
use Rattle.glb_knap.specs.declared.line.Line.{Line}
use Rattle.glb_knap.specs.declared.pack.Pack.{Pack}
use Rattle.glb_knap.specs.Ranking.{ranked_lines}
use Rattle.glb_knap.specs.Packs.{most_of, cap_of, room_for, have_weight, AreLines, Problem, IsProblem}
use Rattle.glb_knap.specs.inner.Caps.{most_none, most_share, most_whole}

-- the first that does not fit adds its share
pub add_share : (ls : List Line) (k : ℕ) (d : Line) (total left goal_value : ℕ) → k < length ls
    → left < (get_or ls k d).weight
    → capped_sum total (most_of (drop k ls) left) ≡ goal_value
    → capped_sum total ((get_or ls k d).value * left / (get_or ls k d).weight) ≡ goal_value
add_share ls k d total left goal_value lt low i =
    ap (capped_sum total) (sym (ap (λ l. most_of l left) (drop-cons ls k d lt)
    ∙ most_share (get_or ls k d) (drop (suc k) ls) left low)) ∙ i

-- a line that fits adds its value
pub add_whole : (ls : List Line) (k : ℕ) (d : Line) (total new left goal_value : ℕ)
    → k < length ls → (get_or ls k d).weight ≤ left
    → new ≡ capped_sum total (get_or ls k d).value
    → capped_sum total (most_of (drop k ls) left) ≡ goal_value
    → capped_sum new (most_of (drop (k + 1) ls) (left - (get_or ls k d).weight)) ≡ goal_value
add_whole ls k d total new left goal_value lt low is i =
    let x : Line = get_or ls k d in
    let a : most_of (drop k ls) left ≡ x.value + most_of (drop (suc k) ls) (left - x.weight) =
    ap (λ l. most_of l left) (drop-cons ls k d lt)
    ∙ most_whole x (drop (suc k) ls) left low in
    let e : suc k ≡ k + 1 = omega arith in
    let b = ap (λ n. most_of (drop n ls) (left - x.weight)) e in
    omega (arith, a, b, is, i)

-- after the last line nothing is added
pub add_end : (ls : List Line) (k : ℕ) (total left goal_value : ℕ)
    → capped_sum total (most_of (drop k ls) left) ≡ goal_value → length ls ≤ k → total < 2 ^ 64
    → total ≡ goal_value
add_end ls k total left goal_value i le low =
    let none : drop k ls ≡ [] = nil_from_length (drop k ls) (omega (arith, length-drop k ls)) in
    let a : most_of (drop k ls) left ≡ 0 = ap (λ l. most_of l left) none ∙ most_none left in
    omega (arith, a, i)

-- lines within the limits have weight
lines_have_weight : (ps : List (ℕ × ℕ)) → AreLines ps → have_weight ps ≡ true
lines_have_weight [] a = refl
lines_have_weight (p ∷ ps) a =
    let some = a.0 in
    ap (λ b. cond b (have_weight ps) false) (lt-ltb 0 p.0 (omega arith))
    ∙ lines_have_weight ps a.3

-- the cap of a knapsack within the limits
pub cap_known : (p : Problem) (pack : Pack) → IsProblem p
    → cap_of p pack ≡ capped_sum pack.value (room_for p pack)
cap_known p pack known =
    ap (λ b. cond b (capped_sum pack.value (room_for p pack)) (2 ^ 64 - 1))
    (lines_have_weight p.lines known.lines)

-- a pack that is too heavy, or has no lines left, has its value
pub cap_heavy : (p : Problem) (pack : Pack) → IsProblem p → p.capacity < pack.weight
    → pack.value < 2 ^ 64 → pack.value ≡ cap_of p pack
cap_heavy p pack known lt low =
    let a : room_for p pack ≡ 0 =
    ap (λ b. cond b 0 (most_of (drop pack.next (ranked_lines p.lines)) (p.capacity - pack.weight)))
    (lt-ltb p.capacity pack.weight lt) in
    omega (arith, a, cap_known p pack known)

pub cap_room : (p : Problem) (pack : Pack) → IsProblem p → pack.weight ≤ p.capacity
    → capped_sum pack.value (most_of (drop pack.next (ranked_lines p.lines))
    (p.capacity - pack.weight)) ≡ cap_of p pack
cap_room p pack known le =
    let a : room_for p pack
    ≡ most_of (drop pack.next (ranked_lines p.lines)) (p.capacity - pack.weight) =
    ap (λ b. cond b 0 (most_of (drop pack.next (ranked_lines p.lines)) (p.capacity - pack.weight)))
    (le-ltb p.capacity pack.weight le) in
    ap (capped_sum pack.value) (sym a) ∙ sym (cap_known p pack known)

pub cap_decided : (p : Problem) (pack : Pack) → IsProblem p → pack.weight ≤ p.capacity
    → length (ranked_lines p.lines) ≤ pack.next → pack.value < 2 ^ 64
    → pack.value ≡ cap_of p pack
cap_decided p pack known le all low =
    add_end (ranked_lines p.lines) pack.next pack.value (p.capacity - pack.weight) (cap_of p pack)
    (cap_room p pack known le) all low

-- the same of a knapsack by its parts
module _ (capacity : ℕ) (lines : List (ℕ × ℕ)) (ranked : List Line) (p : Problem) (pack : Pack)
    (view : Problem) (same : view ≡ p) (view_is : view ≡ record { capacity = capacity; lines = lines })
    (known : IsProblem (record { capacity = capacity; lines = lines }))
    (order : ranked ≡ ranked_lines lines) where
  -- the knapsack is the one with these parts
  parts : record { capacity = capacity; lines = lines } ≡ p
  parts = sym view_is ∙ same

  pub heavy_cap : capacity < pack.weight → pack.value < 2 ^ 64 → pack.value ≡ cap_of p pack
  heavy_cap lt low =
      subst (λ q. pack.value ≡ cap_of q pack) parts
      (cap_heavy (record { capacity = capacity; lines = lines }) pack known lt low)

  pub decided_cap : pack.weight ≤ capacity → length ranked ≤ pack.next → pack.value < 2 ^ 64
      → pack.value ≡ cap_of p pack
  decided_cap le all low =
      subst (λ q. pack.value ≡ cap_of q pack) parts
      (cap_decided (record { capacity = capacity; lines = lines }) pack known le
      (subst (λ l. length l ≤ pack.next) order all) low)

  pub room_cap : (all : List Line) (result : ℕ) → pack.weight ≤ capacity → all ≡ ranked
      → result ≡ capped_sum pack.value (most_of (take (length all - pack.next) (drop pack.next all))
      (capacity - pack.weight)) → result ≡ cap_of p pack
  room_cap all result le e r =
      let whole : take (length all - pack.next) (drop pack.next all) ≡ drop pack.next all =
      take_all (length all - pack.next) (drop pack.next all) (omega (arith, length-drop pack.next all))
      in
      r ∙ ap (λ l. capped_sum pack.value (most_of l (capacity - pack.weight)))
      (whole ∙ ap (drop pack.next) (e ∙ order))
      ∙ subst (λ q. capped_sum pack.value (most_of (drop pack.next (ranked_lines lines))
      (capacity - pack.weight)) ≡ cap_of q pack) parts
      (cap_room (record { capacity = capacity; lines = lines }) pack known le)
