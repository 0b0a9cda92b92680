-- A pack's cap is not below its value, nor below the cap of a pack below it.
use Rattle.std.proofs.Common.{◌≡◌, ℕ, ◌+◌, ◌-◌, ◌^◌, ◌<◌, ◌≤◌, inl, inr, Bool, min}
use Rattle.std.proofs.Common.{true, false, List, [], ◌∷◌, refl, sym, ap, subst, ◌∙◌, arith, cond, drop}
use Rattle.std.proofs.Common.{ltb}
use Rattle.std.specs.Prelude.{All}
use Rattle.std.proofs.lemmas.List.Elements.{All-cons, All-nil}
use Rattle.std.proofs.lemmas.Bool.{cases_lt, lt-ltb, le-ltb}
use Rattle.glb_laws.specs.Bounded.{capped_sum}
use Rattle.glb_knap.specs.declared.line.Line.{Line}
use Rattle.glb_knap.specs.declared.pack.Pack.{Pack}
use Rattle.glb_knap.specs.Ranking.{ranked_lines}
use Rattle.glb_knap.specs.Packs.{Problem, without, with_line, packs_by, packs_below, value_of}
use Rattle.glb_knap.specs.Packs.{most_of, room_for, have_weight, cap_of}
use Rattle.glb_knap.specs.inner.Ranks.{IsFalling, ranked_falling, falling_drop, drop_next}
use Rattle.glb_knap.specs.inner.Caps.{most_without, most_whole}

-- values are values of 64 bits
pub value_is_proper : (problem : Problem) (pack : Pack) → (value_of pack).0 < 2 ^ 64
value_is_proper problem pack = omega arith

-- what is said of each of two is said of the one chosen
cond_both : {A : Type 0} (P : A → Type 0) (b : Bool) (x y : A) → P x → P y → P (cond b x y)
cond_both P true x y p q = p
cond_both P false x y p q = q

-- the cap is not below the value
pub caps_value : (problem : Problem) (pack : Pack) → (value_of pack).0 ≤ cap_of problem pack
caps_value problem pack =
    cond_both (λ c. min pack.value (2 ^ 64 - 1) ≤ c) (have_weight problem.lines)
    (capped_sum pack.value (room_for problem pack)) (2 ^ 64 - 1) (omega arith) (omega arith)

module _ (problem : Problem) where
  -- the lines that are left of a pack
  abbrev left : Pack → List Line
  left pack = drop pack.next (ranked_lines problem.lines)

  -- a pack that can carry more has room
  room_of : (pack : Pack) (ls : List Line) → left pack ≡ ls → pack.weight ≤ problem.capacity
      → room_for problem pack ≡ most_of ls (problem.capacity - pack.weight)
  room_of pack ls e le =
      ap (λ b. cond b 0 (most_of (left pack) (problem.capacity - pack.weight)))
      (le-ltb problem.capacity pack.weight le)
      ∙ ap (λ l. most_of l (problem.capacity - pack.weight)) e

  -- a pack that is too heavy has none
  room_none : (pack : Pack) → problem.capacity < pack.weight → room_for problem pack ≡ 0
  room_none pack lt =
      ap (λ b. cond b 0 (most_of (left pack) (problem.capacity - pack.weight)))
      (lt-ltb problem.capacity pack.weight lt)

  -- without a line there is no more room
  room_without : (pack : Pack) (x : Line) (ls : List Line) → left pack ≡ x ∷ ls
      → IsFalling (x ∷ ls) → room_for problem (without pack) ≤ room_for problem pack
  room_without pack x ls e f = elim (cases_lt problem.capacity pack.weight) [
    | inl lt ↦ omega (arith, room_none (without pack) lt, room_none pack lt)
    | inr le ↦
        let next : left (without pack) ≡ ls = drop_next pack.next _ x ls e in
        omega (
          arith,
          room_of (without pack) ls next le,
          room_of pack (x ∷ ls) e le,
          most_without x ls (problem.capacity - pack.weight) f,
        )
  ]

  -- nor is there with the line that is taken
  room_with : (pack : Pack) (x : Line) (ls : List Line) → left pack ≡ x ∷ ls
      → pack.weight + x.weight ≤ problem.capacity
      → room_for problem pack ≡ x.value + room_for problem (with_line x pack)
  room_with pack x ls e le =
      let next : left (with_line x pack) ≡ ls = drop_next pack.next _ x ls e in
      let c : ℕ = problem.capacity - pack.weight in
      let same : c - x.weight ≡ problem.capacity - (pack.weight + x.weight) = omega arith in
      omega (
        arith,
        room_of pack (x ∷ ls) e (omega arith),
        room_of (with_line x pack) ls next le,
        most_whole x ls c (omega arith),
        ap (most_of ls) same,
      )

  -- how the caps of two packs compare
  caps_by : (b : Bool) (v r w s : ℕ) → (b ≡ true → capped_sum v r ≤ capped_sum w s)
      → cond b (capped_sum v r) (2 ^ 64 - 1) ≤ cond b (capped_sum w s) (2 ^ 64 - 1)
  caps_by true v r w s h = h refl
  caps_by false v r w s h = omega arith

  -- the packs that come of the lines that are left
  caps_left : (pack : Pack) (ls : List Line) → left pack ≡ ls
      → All (λ c. cap_of problem c ≤ cap_of problem pack) (packs_by problem.capacity ls pack)
  caps_left pack [] e = All-nil (λ c. cap_of problem c ≤ cap_of problem pack)
  caps_left pack (x ∷ ls) e =
      let Lower : Pack → Type 0 = λ c. cap_of problem c ≤ cap_of problem pack in
      let falls : have_weight problem.lines ≡ true → IsFalling (x ∷ ls) =
      λ h. subst IsFalling e
      (falling_drop pack.next (ranked_lines problem.lines) (ranked_falling problem.lines h)) in
      let first : Lower (without pack) =
      caps_by (have_weight problem.lines) pack.value (room_for problem (without pack)) pack.value
      (room_for problem pack) (λ h. omega (arith, room_without pack x ls e (falls h))) in
      let second : pack.weight + x.weight ≤ problem.capacity → Lower (with_line x pack) =
      λ le. caps_by (have_weight problem.lines) (capped_sum pack.value x.value)
      (room_for problem (with_line x pack)) pack.value (room_for problem pack)
      (λ h. omega (arith, room_with pack x ls e le)) in
      let others : All Lower (cond (ltb problem.capacity (pack.weight + x.weight)) []
      (with_line x pack ∷ [])) =
      elim (cases_lt problem.capacity (pack.weight + x.weight)) [
        | inl lt ↦ subst (λ b. All Lower (cond b [] (with_line x pack ∷ [])))
            (sym (lt-ltb problem.capacity (pack.weight + x.weight) lt)) (All-nil Lower)
        | inr le ↦ subst (λ b. All Lower (cond b [] (with_line x pack ∷ [])))
            (sym (le-ltb problem.capacity (pack.weight + x.weight) le))
            (All-cons Lower (with_line x pack) [] (second le) (All-nil Lower))
      ] in
      All-cons Lower (without pack) _ first others

-- the cap is not below that of a pack below
pub caps_children : (problem : Problem) (pack : Pack)
    → All (λ c. cap_of problem c ≤ cap_of problem pack) (packs_below problem pack)
caps_children problem pack = caps_left problem pack _ refl
