-- The lines of one place are distinct and few, and so are the lines to one place.
use Rattle.std.specs.Prelude.{Option, Some, None, List, [], ◌∷◌, ◌++◌, length, Bool, true, false}
use Rattle.std.specs.Prelude.{cond}
use Rattle.std.proofs.Common.{◌≡◌, ◌⊎◌, inl, inr, ℕ, zero, suc, ◌+◌, ◌-◌, ◌*◌, ◌/◌, ◌%◌, ◌<◌, ◌≤◌}
use Rattle.std.proofs.Common.{refl, ap, sym, ◌∙◌, subst, arith, rules}
use Rattle.std.proofs.lemmas.Bool.{eq-eqb, ne_eqb, cond-true, cond-false, cases_lt, cases_eq}
use Rattle.std.proofs.lemmas.Bool.{cases_Bool, cases_order, true≢false}
use Rattle.std.proofs.lemmas.Nat.{div-mul-add, mod-mul-add, div-add-mod', mod_below}
use Rattle.std.proofs.Math.Nat.{mul-le-mul_left}
use Rattle.glb_cube.specs.Digits.{digit, target, targets, one_of}
use Rattle.glb_laws.specs.Numbers.{has_number, IsDistinct, count_to}
use Rattle.glb_cube.proofs.Cycles.{IsCycle, cycle, target_up, target_over, target_none}
use Rattle.glb_cube.proofs.Cycles.{target_small, some_same}
use Rattle.glb_cube.proofs.WayFacts.{targets_more, targets_none}

-- the place with the digit 0 in a place's cycle
abbrev pub foot : ℕ → ℕ → ℕ → ℕ
foot base unit p = p % unit + unit * (base * (p / unit / base))

split_by : (base unit lo m h d p : ℕ) → m * unit + lo ≡ p → h * base + d ≡ m
    → p ≡ lo + unit * (base * h) + unit * d
split_by base unit lo m h d p e f = sym e ∙ ap (λ x. x * unit + lo) (sym f) ∙ omega arith

place_split : (base unit p : ℕ) → p ≡ foot base unit p + unit * digit base unit p
place_split base unit p =
    let e : p / unit * unit + p % unit ≡ p = div-add-mod' p unit in
    let f : p / unit / base * base + p / unit % base ≡ p / unit = div-add-mod' (p / unit) base in
    split_by base unit (p % unit) (p / unit) (p / unit / base) (p / unit % base) p e f

foot_of : (base unit lo h d : ℕ) → lo < unit → d < base
    → foot base unit (lo + unit * (base * h) + unit * d) ≡ lo + unit * (base * h)
foot_of base unit lo h d low small =
    let e : lo + unit * (base * h) + unit * d ≡ (h * base + d) * unit + lo = omega arith in
    let f : (lo + unit * (base * h) + unit * d) % unit ≡ lo = ap (λ x. x % unit) e
    ∙ mod-mul-add (h * base + d) unit lo low in
    let g : (lo + unit * (base * h) + unit * d) / unit / base ≡ h = ap (λ x. x / unit / base) e
    ∙ ap (λ x. x / base) (div-mul-add (h * base + d) unit lo low) ∙ div-mul-add h base d small in
    ap (λ x. x + unit * (base * ((lo + unit * (base * h) + unit * d) / unit / base))) f
    ∙ ap (λ x. lo + unit * (base * x)) g

-- where the line of the place k + unit * d leads
data Leads (places base unit k d q : ℕ) : Type 0 where
  Up : d + 1 < base → q ≡ k + unit * (d + 1) → Leads places base unit k d q
  Over : 0 < d → (d + 1 < base → places ≤ k + unit * (d + 1)) → q ≡ k + unit * 0
      → Leads places base unit k d q

none_some : (q : ℕ) → None ≡ Some q → ⊥
none_some q e = search (rules, e)

leads_over : (places base unit k d q : ℕ) → IsCycle base unit k → 2 ≤ base → d < base
    → k + unit * d < places → target places base unit (k + unit * d) ≡ Some q
    → (d + 1 < base → places ≤ k + unit * (d + 1)) → Leads places base unit k d q
leads_over places base unit k zero q r two small below e above =
    let none : target places base unit (k + unit * 0) ≡ None =
    target_none places base unit k r two (omega (arith, above (omega arith))) in
    absurd (none_some q (sym none ∙ e))
leads_over places base unit k (suc d) q r two small below e above = Over (omega arith) above
    (sym (some_same _ q
    (sym (target_over places base unit k (suc d) r (omega arith) small (omega arith) above) ∙ e)))

leads : (places base unit k d q : ℕ) → IsCycle base unit k → 2 ≤ base → d < base
    → k + unit * d < places
    → target places base unit (k + unit * d) ≡ Some q → Leads places base unit k d q
leads places base unit k d q r two small below e = elim (cases_lt (d + 1) base) [
  | inl more ↦ elim (cases_lt (k + unit * (d + 1)) places) [
    | inl there ↦ Up more (sym (some_same _ q (sym (target_up places base unit k d r more there) ∙ e)))
    | inr above ↦ leads_over places base unit k d q r two small below e (λ _. above)
  ]
  | inr top ↦ leads_over places base unit k d q r two small below e (λ more. absurd (omega arith))
]

-- the same for any place
leads_of : (places base unit p q : ℕ) → 2 ≤ base → 0 < unit → p < places
    → target places base unit p ≡ Some q
    → Leads places base unit (foot base unit p) (digit base unit p) q
leads_of places base unit p q two some below e =
    leads places base unit (foot base unit p) (digit base unit p) q
    (cycle base unit (p % unit) (p / unit / base) (mod_below p unit some)) two
    (mod_below (p / unit) base (omega arith))
    (rw (sym (place_split base unit p)) below)
    (ap (target places base unit) (sym (place_split base unit p)) ∙ e)

-- how far a line of one dimension leads
pub record IsNear (unit base p q : ℕ) : Type 0 where
  pub up : q < p + unit * base
  pub down : p < q + unit * base

abbrev pub IsFar : ℕ → ℕ → ℕ → Type 0
IsFar unit p q = (p + unit ≤ q) ⊎ (q + unit ≤ p)

near_by : (places base unit k d q : ℕ) → 0 < unit → d < base → Leads places base unit k d q
    → IsNear unit base (k + unit * d) q
near_by places base unit k d q some small (Up more e) =
    let a : unit * (d + 1) ≤ unit * base = mul-le-mul_left unit (omega arith) in
    let b : unit * 2 ≤ unit * base = mul-le-mul_left unit (omega arith) in
    record { up = omega arith; down = omega arith }
near_by places base unit k d q some small (Over more above e) =
    let a : unit * (d + 1) ≤ unit * base = mul-le-mul_left unit (omega arith) in
    record { up = omega arith; down = omega arith }

far_by : (places base unit k d q : ℕ) → Leads places base unit k d q → IsFar unit (k + unit * d) q
far_by places base unit k d q (Up more e) = inl (omega arith)
far_by places base unit k d q (Over more above e) =
    let a : unit * 1 ≤ unit * d = mul-le-mul_left unit more in inr (omega arith)

target_near : (places base unit p q : ℕ) → 2 ≤ base → 0 < unit → p < places
    → target places base unit p ≡ Some q → IsNear unit base p q
target_near places base unit p q two some below e =
    subst (λ x. IsNear unit base x q) (sym (place_split base unit p))
    (near_by places base unit (foot base unit p) (digit base unit p) q some
    (mod_below (p / unit) base (omega arith)) (leads_of places base unit p q two some below e))

target_far : (places base unit p q : ℕ) → 2 ≤ base → 0 < unit → p < places
    → target places base unit p ≡ Some q → IsFar unit p q
target_far places base unit p q two some below e =
    subst (λ x. IsFar unit x q) (sym (place_split base unit p))
    (far_by places base unit (foot base unit p) (digit base unit p) q
    (leads_of places base unit p q two some below e))

pub has_append : (q : ℕ) (xs ys : List ℕ) → has_number q (xs ++ ys) ≡ true
    → (has_number q xs ≡ true)
    ⊎ (has_number q ys ≡ true)
has_append q [] ys e = inr e
has_append q (x ∷ xs) ys e = elim (cases_eq q x) [
  | inl same ↦ inl (cond-true _ _ _ (eq-eqb q x same))
  | inr far ↦ elim (has_append q xs ys (sym (cond-false _ _ _ (ne_eqb q x far)) ∙ e)) [
    | inl a ↦ inl (cond-false _ _ _ (ne_eqb q x far) ∙ a)
    | inr b ↦ inr b
  ]
]

has_one : (q : ℕ) (o : Option ℕ) → has_number q (one_of o) ≡ true → o ≡ Some q
has_one q None e = absurd (true≢false (sym e))
has_one q (Some r) e = elim (cases_eq q r) [
  | inl same ↦ ap Some (sym same)
  | inr far ↦ absurd (true≢false (sym e ∙ cond-false _ _ _ (ne_eqb q r far)))
]

has_targets : (places base unit dimensions p q : ℕ)
    → has_number q (targets places base unit (suc dimensions) p) ≡ true
    → (target places base unit p ≡ Some q)
    ⊎ (has_number q (targets places base (unit * base) dimensions p) ≡ true)
has_targets places base unit dimensions p q e =
    elim (has_append q (one_of (target places base unit p)) _
    (rw (sym (targets_more places base unit dimensions p)) e)) [
      | inl a ↦ inl (has_one q _ a)
      | inr b ↦ inr b
    ]

none_in : (places base unit p q : ℕ) → has_number q (targets places base unit zero p) ≡ true → ⊥
none_in places base unit p q e = true≢false (sym e ∙ ap (has_number q) (targets_none places base unit p))

pub targets_small : (dimensions places base unit p q : ℕ)
    → has_number q (targets places base unit dimensions p) ≡ true → q < places
targets_small zero places base unit p q e = absurd (none_in places base unit p q e)
targets_small (suc dimensions) places base unit p q e =
    elim (has_targets places base unit dimensions p q e) [
      | inl a ↦ target_small places base unit p q a
      | inr b ↦ targets_small dimensions places base (unit * base) p q b
    ]

grows : (base unit : ℕ) → 2 ≤ base → 0 < unit → unit < unit * base
grows base unit two some = let a : unit * 2 ≤ unit * base = mul-le-mul_left unit two in omega arith

far_less : (small unit p q : ℕ) → small ≤ unit → IsFar unit p q → IsFar small p q
far_less small unit p q le (inl a) = inl (omega arith)
far_less small unit p q le (inr b) = inr (omega arith)

pub targets_far : (dimensions places base unit p q : ℕ) → 2 ≤ base → 0 < unit → p < places
    → has_number q (targets places base unit dimensions p) ≡ true → IsFar unit p q
targets_far zero places base unit p q two some below e = absurd (none_in places base unit p q e)
targets_far (suc dimensions) places base unit p q two some below e =
    elim (has_targets places base unit dimensions p q e) [
      | inl a ↦ target_far places base unit p q two some below a
      | inr b ↦ far_less unit (unit * base) p q (omega (arith, grows base unit two some))
          (targets_far dimensions places base (unit * base) p q two (omega (arith, grows base unit two some))
          below b)
    ]

apart : (unit base p q : ℕ) → IsNear unit base p q → IsFar (unit * base) p q → ⊥
apart unit base p q n (inl a) = omega (arith, n.up)
apart unit base p q n (inr b) = omega (arith, n.down)

not_self : (unit p : ℕ) → 0 < unit → IsFar unit p p → ⊥
not_self unit p some (inl a) = omega arith
not_self unit p some (inr a) = omega arith

false_by : (b : Bool) → (b ≡ true → ⊥) → b ≡ false
false_by b h = elim (cases_Bool b) [ inl a ↦ absurd (h a) | inr c ↦ c ]

with_one : (unit base p : ℕ) (o : Option ℕ) (rest : List ℕ)
    → ((q : ℕ) → o ≡ Some q → IsNear unit base p q)
    → ((q : ℕ) → has_number q rest ≡ true → IsFar (unit * base) p q) → IsDistinct rest
    → IsDistinct (one_of o ++ rest)
with_one unit base p None rest near far d = d
with_one unit base p (Some q) rest near far d =
    (false_by _ (λ e. apart unit base p q (near q refl) (far q e)), d)

pub targets_distinct : (dimensions places base unit p : ℕ) → 2 ≤ base → 0 < unit → p < places
    → IsDistinct (targets places base unit dimensions p)
targets_distinct zero places base unit p two some below = rw (targets_none places base unit p) tt
targets_distinct (suc dimensions) places base unit p two some below =
    let more : 0 < unit * base = omega (arith, grows base unit two some) in
    rw (targets_more places base unit dimensions p)
    (with_one unit base p (target places base unit p) (targets places base (unit * base) dimensions p)
    (λ q e. target_near places base unit p q two some below e)
    (λ q e. targets_far dimensions places base (unit * base) p q two more below e)
    (targets_distinct dimensions places base (unit * base) p two more below))

pub targets_not_self : (dimensions places base unit p : ℕ) → 2 ≤ base → 0 < unit → p < places
    → has_number p (targets places base unit dimensions p) ≡ false
targets_not_self dimensions places base unit p two some below =
    false_by _ (λ e. not_self unit p some (targets_far dimensions places base unit p p two some below e))

length_one : (o : Option ℕ) (rest : List ℕ) → length (one_of o ++ rest) ≤ length rest + 1
length_one None rest = omega arith
length_one (Some q) rest = omega arith

pub length-targets : (dimensions places base unit p : ℕ)
    → length (targets places base unit dimensions p) ≤ dimensions
length-targets zero places base unit p = rw (targets_none places base unit p) (omega arith)
length-targets (suc dimensions) places base unit p = rw (targets_more places base unit dimensions p)
    (omega (
      arith,
      length_one (target places base unit p)
          (targets places base (unit * base) dimensions p),
      length-targets dimensions places base (unit * base) p,
    ))

foot_by : (places base unit lo h d q : ℕ) → lo < unit → 0 < base
    → Leads places base unit (lo + unit * (base * h)) d q → foot base unit q
    ≡ lo + unit * (base * h)
foot_by places base unit lo h d q low some (Up more e) = ap (foot base unit) e
    ∙ foot_of base unit lo h (d + 1) low more
foot_by places base unit lo h d q low some (Over more above e) = ap (foot base unit) e
    ∙ foot_of base unit lo h 0 low some

-- a place determines the place whose line in a dimension leads to it
foot_same : (places base unit p q : ℕ) → 2 ≤ base → 0 < unit → p < places
    → target places base unit p ≡ Some q → foot base unit q ≡ foot base unit p
foot_same places base unit p q two some below e =
    foot_by places base unit (p % unit) (p / unit / base) (digit base unit p) q (mod_below p unit some)
    (omega arith) (leads_of places base unit p q two some below e)

one_source : (places base unit k d e q : ℕ) → 0 < unit → d < base → e < base → k + unit * d < places
    → k + unit * e < places → Leads places base unit k d q → Leads places base unit k e q
    → k + unit * d ≡ k + unit * e
one_source places base unit k d e q some small smaller below under (Up m1 e1) (Up m2 e2) = omega arith
one_source places base unit k d e q some small smaller below under (Up m1 e1) (Over m2 a2 e2) =
    absurd (omega arith)
one_source places base unit k d e q some small smaller below under (Over m1 a1 e1) (Up m2 e2) =
    absurd (omega arith)
one_source places base unit k d e q some small smaller below under (Over m1 a1 e1) (Over m2 a2 e2) =
    elim (cases_order d e) [
      | inl same ↦ ap (λ x. k + unit * x) same
      | inr other ↦ elim other [
        | inl less ↦ let a : unit * (d + 1) ≤ unit * e = mul-le-mul_left unit (omega arith)
            in absurd (omega (arith, a1 (omega arith)))
        | inr more ↦ let a : unit * (e + 1) ≤ unit * d = mul-le-mul_left unit (omega arith)
            in absurd (omega (arith, a2 (omega arith)))
      ]
    ]

pub target_one : (places base unit p r q : ℕ) → 2 ≤ base → 0 < unit → p < places → r < places
    → target places base unit p ≡ Some q → target places base unit r ≡ Some q → p ≡ r
target_one places base unit p r q two some below under e f =
    let same : foot base unit r ≡ foot base unit p = sym (foot_same places base unit r q two some under f)
    ∙ foot_same places base unit p q two some below e in
    let split : r ≡ foot base unit p + unit * digit base unit r = place_split base unit r
    ∙ ap (λ x. x + unit * digit base unit r) same in
    place_split base unit p
    ∙ one_source places base unit (foot base unit p) (digit base unit p) (digit base unit r) q some
    (mod_below (p / unit) base (omega arith)) (mod_below (r / unit) base (omega arith))
    (rw (sym (place_split base unit p)) below) (rw (sym split) under)
    (leads_of places base unit p q two some below e)
    (subst (λ x. Leads places base unit x (digit base unit r) q) same
    (leads_of places base unit r q two some under f)) ∙ sym split

pub count_none : (n : ℕ) (f : ℕ → Bool) → ((p : ℕ) → p < n → f p ≡ false) → count_to n f ≡ 0
count_none zero f h = refl
count_none (suc n) f h = let b : cond {A = ℕ} (f n) 1 0 ≡ 0 = cond-false _ _ _ (h n (omega arith))
    in omega (arith, b, count_none n f (λ p s. h p (omega arith)))

pub count_one : (n : ℕ) (f : ℕ → Bool)
    → ((p r : ℕ) → p < n → r < n → f p ≡ true → f r ≡ true → p ≡ r)
    → count_to n f ≤ 1
count_one zero f h = omega arith
count_one (suc n) f h = elim (cases_Bool (f n)) [
  | inl is ↦
      let b : cond {A = ℕ} (f n) 1 0 ≡ 1 = cond-true _ _ _ is in
      let c : count_to n f ≡ 0 =
      count_none n f (λ p s.
      false_by _ (λ e. let g : p ≡ n = h p n (omega arith) (omega arith) e is in omega arith)) in
      omega (arith, b, c)
  | inr fails ↦
      let b : cond {A = ℕ} (f n) 1 0 ≡ 0 = cond-false _ _ _ fails in
      omega (arith, b, count_one n f (λ p r s t. h p r (omega arith) (omega arith)))
]

bit_split : (a b c : Bool) → (a ≡ true → (b ≡ true) ⊎ (c ≡ true))
    → cond {A = ℕ} a 1 0 ≤ cond {A = ℕ} b 1 0 + cond {A = ℕ} c 1 0
bit_split false b c h = omega arith
bit_split true b c h = elim (h refl) [ inl e ↦ rw e (omega arith) | inr e ↦ rw e (omega arith) ]

pub count_split : (n : ℕ) (f g h : ℕ → Bool)
    → ((p : ℕ) → p < n → f p ≡ true → (g p ≡ true) ⊎ (h p ≡ true))
    → count_to n f ≤ count_to n g + count_to n h
count_split zero f g h s = omega arith
count_split (suc n) f g h s =
    omega (
      arith,
      bit_split (f n) (g n) (h n) (s n (omega arith)),
      count_split n f g h (λ p t. s p (omega arith)),
    )

-- the places that have a line to one place
pub count_sources : (dimensions places base unit q : ℕ) → 2 ≤ base → 0 < unit
    → count_to places (λ p. has_number q (targets places base unit dimensions p)) ≤ dimensions
count_sources zero places base unit q two some =
    let e : count_to places (λ p. has_number q (targets places base unit zero p)) ≡ 0 =
    count_none places _ (λ p s. false_by _ (none_in places base unit p q)) in omega (arith, e)
count_sources (suc dimensions) places base unit q two some =
    let more : 0 < unit * base = omega (arith, grows base unit two some) in
    let here : count_to places (λ p. has_number q (one_of (target places base unit p))) ≤ 1
    = count_one places _
    (λ p r s t e f. target_one places base unit p r q two some s t (has_one q _ e) (has_one q _ f)) in
    omega (
      arith,
      here,
      count_sources dimensions places base (unit * base) q two more,
      count_split places (λ p. has_number q (targets places base unit (suc dimensions) p))
          (λ p. has_number q (one_of (target places base unit p)))
          (λ p. has_number q (targets places base (unit * base) dimensions p))
          (λ p s e. has_append q (one_of (target places base unit p)) _
          (rw (sym (targets_more places base unit dimensions p)) e)),
    )

-- the line of a place, told from its digit
pub next_up : (places base unit p : ℕ) → 0 < unit → digit base unit p + 1 < base → p + unit < places
    → target places base unit p ≡ Some (p + unit)
next_up places base unit p some more there =
    let split : p ≡ foot base unit p + unit * digit base unit p = place_split base unit p in
    ap (target places base unit) split
    ∙ target_up places base unit (foot base unit p) (digit base unit p)
    (cycle base unit (p % unit) (p / unit / base) (mod_below p unit some)) more
    (omega (arith, split, there))
    ∙ ap Some (omega (arith, split))

pub next_over : (places base unit p : ℕ) → 2 ≤ base → 0 < unit → p < places → 0 < digit base unit p
    → (digit base unit p + 1 < base → places ≤ p + unit)
    → target places base unit p ≡ Some (p - digit base unit p * unit)
next_over places base unit p two some below more above =
    let split : p ≡ foot base unit p + unit * digit base unit p = place_split base unit p in
    ap (target places base unit) split
    ∙ target_over places base unit (foot base unit p) (digit base unit p)
    (cycle base unit (p % unit) (p / unit / base) (mod_below p unit some)) more
    (mod_below (p / unit) base (omega arith)) (omega (arith, split, below))
    (λ m. omega (arith, split, above m))
    ∙ ap Some (omega (arith, split))

pub next_none : (places base unit p : ℕ) → 2 ≤ base → 0 < unit → digit base unit p ≡ 0
    → places ≤ p + unit
    → target places base unit p ≡ None
next_none places base unit p two some low above =
    let split : p ≡ foot base unit p + unit * digit base unit p = place_split base unit p in
    let here : p ≡ foot base unit p + unit * 0 = split ∙ ap (λ x. foot base unit p + unit * x) low in
    ap (target places base unit) here
    ∙ target_none places base unit (foot base unit p)
    (cycle base unit (p % unit) (p / unit / base) (mod_below p unit some)) two
    (omega (arith, here, above))
