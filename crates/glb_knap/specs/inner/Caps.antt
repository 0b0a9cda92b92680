-- What lines can add at most: less without the first of them, if their value for their weight falls.
use Rattle.std.proofs.Common.{◌≡◌, ℕ, ◌+◌, ◌-◌, ◌*◌, ◌/◌, ◌<◌, ◌≤◌, inl, inr, Bool}
use Rattle.std.proofs.Common.{true, false, List, [], ◌∷◌, refl, sym, ap, subst, arith, cond, ltb}
use Rattle.std.proofs.Math.Nat.{mul_right_comm, mul-le-mul_right, le_of_mul-le-mul_right, mul-add}
use Rattle.std.proofs.Math.Nat.{add-mul, div-mul-le_self, lt-div-mul-add, lt_of_mul-lt-mul_right}
use Rattle.std.proofs.Math.Nat.{le-div_iff_mul-le}
use Rattle.std.proofs.lemmas.Bool.{cases_lt, lt-ltb, le-ltb}
use Rattle.glb_knap.specs.declared.line.Line.{Line}
use Rattle.glb_knap.specs.Packs.{most_of}
use Rattle.glb_knap.specs.inner.Ranks.{NoneDenser, IsFalling}

-- no line adds nothing
pub most_none : (r : ℕ) → most_of [] r ≡ 0
unfolding most_of
most_none r = refl

most_by : (x : Line) (xs : List Line) (r : ℕ) (b : Bool) → ltb r x.weight ≡ b
    → most_of (x ∷ xs) r ≡ cond b (x.value * r / x.weight) (x.value + most_of xs (r - x.weight))
unfolding most_of
most_by x xs r b e =
    ap (λ t. cond t (x.value * r / x.weight) (x.value + most_of xs (r - x.weight))) e

-- of a line that does not fit a share
pub most_share : (x : Line) (xs : List Line) (r : ℕ) → r < x.weight
    → most_of (x ∷ xs) r ≡ x.value * r / x.weight
most_share x xs r lt = most_by x xs r true (lt-ltb r x.weight lt)

-- a line that fits whole
pub most_whole : (x : Line) (xs : List Line) (r : ℕ) → x.weight ≤ r
    → most_of (x ∷ xs) r ≡ x.value + most_of xs (r - x.weight)
most_whole x xs r le = most_by x xs r false (le-ltb r x.weight le)

-- the share of a line has no more for its weight
share_within : (yv yw xv xw r : ℕ) → 1 ≤ yw → yv * xw ≤ xv * yw → yv * r / yw * xw ≤ xv * r
share_within yv yw xv xw r some h =
    let q : ℕ = yv * r / yw in
    let a : q * yw ≤ yv * r = div-mul-le_self (yv * r) yw in
    let b : q * xw * yw ≡ q * yw * xw = mul_right_comm q xw yw in
    let c : q * yw * xw ≤ yv * r * xw = mul-le-mul_right xw a in
    let d : yv * r * xw ≡ yv * xw * r = mul_right_comm yv r xw in
    let e : yv * xw * r ≤ xv * yw * r = mul-le-mul_right r h in
    let f : xv * yw * r ≡ xv * r * yw = mul_right_comm xv yw r in
    le_of_mul-le-mul_right {m = q * xw} {n = xv * r} {k = yw} (omega arith) (omega arith)

-- a whole line and others have no more
whole_within : (yv yw xv xw m s r : ℕ) → r ≡ yw + s → yv * xw ≤ xv * yw → m * xw ≤ xv * s
    → (yv + m) * xw ≤ xv * r
whole_within yv yw xv xw m s r e h k =
    let a : (yv + m) * xw ≡ yv * xw + m * xw = add-mul yv m xw in
    let b : xv * (yw + s) ≡ xv * yw + xv * s = mul-add xv yw s in
    let c : (yv + m) * xw ≤ xv * (yw + s) = omega arith in
    subst (λ z. (yv + m) * xw ≤ xv * z) (sym e) c

-- no lines have more for their weight together
most_within : (x : Line) (ls : List Line) (r : ℕ) → NoneDenser x ls → IsFalling ls
    → most_of ls r * x.weight ≤ x.value * r
most_within x [] r n f =
    subst (λ m. m * x.weight ≤ x.value * r) (sym (most_none r)) (omega arith)
most_within x (y ∷ ls) r n f = elim (cases_lt r y.weight) [
  | inl lt ↦ subst (λ m. m * x.weight ≤ x.value * r) (sym (most_share y ls r lt))
      (share_within y.value y.weight x.value x.weight r f.0 n.0)
  | inr le ↦ subst (λ m. m * x.weight ≤ x.value * r) (sym (most_whole y ls r le))
      (whole_within y.value y.weight x.value x.weight (most_of ls (r - y.weight)) (r - y.weight) r
      (omega arith) n.0 (most_within x ls (r - y.weight) n.1 f.2))
]

-- the share in more room is greater by no more than what has more for its weight
share_more : (z yv yw r d u : ℕ) → 1 ≤ yw → z * yw ≤ yv * (r + d) → yv * d ≤ u * yw
    → z ≤ yv * r / yw + u
share_more z yv yw r d u some h k =
    let s : ℕ = yv * r / yw in
    let a : yv * (r + d) ≡ yv * r + yv * d = mul-add yv r d in
    let b : yv * r < s * yw + yw = lt-div-mul-add {a = yv * r} {b = yw} (omega arith) in
    let c : (s + u) * yw ≡ s * yw + u * yw = add-mul s u yw in
    let e : ((s + u) + 1) * yw ≡ (s + u) * yw + 1 * yw = add-mul (s + u) 1 yw in
    let f : 1 * yw ≡ yw = omega arith in
    let g : z * yw < ((s + u) + 1) * yw = omega arith in
    let t : z < (s + u) + 1 = lt_of_mul-lt-mul_right yw {m = z} {n = (s + u) + 1} g in
    omega arith

-- with as much more room as a line takes, lines that have no more for their weight add no more
-- than it
most_more : (x : Line) (ls : List Line) (r : ℕ) → NoneDenser x ls → IsFalling ls
    → most_of ls (r + x.weight) ≤ most_of ls r + x.value
most_more x [] r n f = omega (arith, most_none (r + x.weight), most_none r)
most_more x (y ∷ ls) r n f = elim (cases_lt r y.weight) [
  | inr le ↦
      let a = most_whole y ls (r + x.weight) (omega arith) in
      let b = most_whole y ls r le in
      let c : (r + x.weight) - y.weight ≡ (r - y.weight) + x.weight = omega arith in
      let d = ap (most_of ls) c in
      omega (arith, a, b, d, most_more x ls (r - y.weight) n.1 f.2)
  | inl lt ↦ elim (cases_lt (r + x.weight) y.weight) [
    | inl lt' ↦
        let a = most_share y ls (r + x.weight) lt' in
        let b = most_share y ls r lt in
        let c = share_more (y.value * (r + x.weight) / y.weight) y.value y.weight r x.weight x.value
        f.0 (div-mul-le_self (y.value * (r + x.weight)) y.weight) n.0 in
        omega (arith, a, b, c)
    | inr le ↦
        let m : ℕ = most_of ls ((r + x.weight) - y.weight) in
        let a = most_whole y ls (r + x.weight) le in
        let b = most_share y ls r lt in
        let c = most_within y ls ((r + x.weight) - y.weight) f.1 f.2 in
        let d = whole_within y.value y.weight y.value y.weight m ((r + x.weight) - y.weight)
        (r + x.weight) (omega arith) (omega arith) c in
        let e = share_more (y.value + m) y.value y.weight r x.weight x.value f.0 d n.0 in
        omega (arith, a, b, e)
  ]
]

-- without the first line there is no more
pub most_without : (x : Line) (ls : List Line) (r : ℕ) → IsFalling (x ∷ ls)
    → most_of ls r ≤ most_of (x ∷ ls) r
most_without x ls r f = elim (cases_lt r x.weight) [
  | inl lt ↦
      let a = most_share x ls r lt in
      let b : most_of ls r ≤ x.value * r / x.weight =
      (le-div_iff_mul-le {k = x.weight} {x = most_of ls r} {y = x.value * r} (omega arith)).1
      (most_within x ls r f.1 f.2) in
      omega (arith, a, b)
  | inr le ↦
      let a = most_whole x ls r le in
      let b = most_more x ls (r - x.weight) f.1 f.2 in
      let c = ap (most_of ls) (let e : (r - x.weight) + x.weight ≡ r = omega arith in e) in
      omega (arith, a, b, c)
]
