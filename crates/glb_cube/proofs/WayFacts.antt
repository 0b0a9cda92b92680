-- The ways reach their ends and are short.
use Rattle.std.specs.Prelude.{Some, List, [], ◌∷◌, ◌++◌, length, true, cond, ltb}
use Rattle.std.proofs.Common.{◌≡◌, inl, inr, ℕ, zero, suc, ◌+◌, ◌-◌, ◌*◌, ◌/◌, ◌%◌, ◌^◌, ◌<◌, ◌≤◌}
use Rattle.std.proofs.Common.{refl, ap, sym, ◌∙◌, subst, arith, rules, length-append}
use Rattle.std.proofs.lemmas.Bool.{lt-ltb, le-ltb, eq-eqb, ne_eqb, cond-true, cond-false, cases_lt}
use Rattle.std.proofs.lemmas.Bool.{cases_eq}
use Rattle.std.proofs.lemmas.Nat.{div-mul-add, mod-mul-add, div-add-mod', mod_below, div_below}
use Rattle.std.proofs.Math.Nat.{div-div-eq-div-mul, mul-le-mul_left, pow-suc, pow-zero}
use Rattle.glb_cube.specs.Digits.{digit, target, targets, one_of}
use Rattle.glb_laws.specs.Numbers.{has_number}
use Rattle.glb_laws.specs.Numbers.{IsPath}
use Rattle.glb_cube.specs.Ways.{last_of, with_next, walk, then_from, descent_in, ascent_in, descent}
use Rattle.glb_cube.specs.Ways.{ascent}
use Rattle.glb_cube.proofs.Cycles.{IsCycle, cycle, target_up, target_over, target_small}

-- a path over `part` to q, with at most n members
pub record Reaches (Line : ℕ → ℕ → Type 0) (p : ℕ) (part : List ℕ) (q n : ℕ) : Type 0 where
  pub path : IsPath Line p part q
  pub short : length part ≤ n

-- a line of one dimension
abbrev pub Joins : ℕ → ℕ → ℕ → ℕ → ℕ → Type 0
Joins places base unit p q = (q < places) × (target places base unit p ≡ Some q)

pub path_last : (Line : ℕ → ℕ → Type 0) (a b : ℕ) (ps : List ℕ) → IsPath Line a ps b
    → last_of a ps ≡ b
path_last Line a b [] e = e
path_last Line a b (p ∷ ps) e = path_last Line p b ps e.1

pub path_append : (Line : ℕ → ℕ → Type 0) (a b c : ℕ) (ps qs : List ℕ) → IsPath Line a ps b
    → IsPath Line b qs c → IsPath Line a (ps ++ qs) c
path_append Line a b c [] qs e f = subst (λ x. IsPath Line x qs c) (sym e) f
path_append Line a b c (p ∷ ps) qs e f = (e.0, path_append Line p b c ps qs e.1 f)

pub path_along : (Line Line2 : ℕ → ℕ → Type 0) → ((p q : ℕ) → Line p q → Line2 p q)
    → (a b : ℕ) (ps : List ℕ) → IsPath Line a ps b → IsPath Line2 a ps b
path_along Line Line2 h a b [] e = e
path_along Line Line2 h a b (p ∷ ps) e = (h a p e.0, path_along Line Line2 h p b ps e.1)

pub walk_there : (places base unit goal p most : ℕ) → digit base unit p ≡ goal
    → walk places base unit goal p (suc most) ≡ []
unfolding walk
walk_there places base unit goal p most e = cond-true _ _ _ (eq-eqb (digit base unit p) goal e)

pub walk_on : (places base unit goal p most q : ℕ) → (digit base unit p ≡ goal → ⊥)
    → target places base unit p ≡ Some q
    → walk places base unit goal p (suc most) ≡ q ∷ walk places base unit goal q most
unfolding walk
walk_on places base unit goal p most q far e = cond-false _ _ _ (ne_eqb (digit base unit p) goal far)
    ∙ ap (λ o. with_next o (λ x. walk places base unit goal x most)) e

one_on : (places base unit goal p most q r n : ℕ) → (digit base unit p ≡ goal → ⊥)
    → target places base unit p ≡ Some q
    → Reaches (Joins places base unit) q (walk places base unit goal q most) r n
    → Reaches (Joins places base unit) p (walk places base unit goal p (suc most)) r (n + 1)
one_on places base unit goal p most q r n far e h =
    subst (λ x. Reaches (Joins places base unit) p x r (n + 1))
    (sym (walk_on places base unit goal p most q far e))
    (record { path = ((target_small places base unit p q e, e), h.path); short = omega (arith, h.short) })

-- from a lower digit
climb : (places base unit k e : ℕ) → IsCycle base unit k → e < base → k + unit * e < places
    → (most d n : ℕ) → d + n ≡ e → n < most
    → Reaches (Joins places base unit) (k + unit * d) (walk places base unit e (k + unit * d) most)
    (k + unit * e) n
climb places base unit k e r small below zero d n sum enough = absurd (omega arith)
climb places base unit k e r small below (suc most) d zero sum enough =
    let same : d ≡ e = omega arith in
    subst (λ x. Reaches (Joins places base unit) (k + unit * d) x (k + unit * e) 0)
    (sym (walk_there places base unit e (k + unit * d) most (r.digit_is d (omega arith) ∙ same)))
    (record { path = ap (λ x. k + unit * x) same; short = omega arith })
climb places base unit k e r small below (suc most) d (suc n) sum enough =
    let up : d + 1 ≤ e = omega arith in
    let low : unit * (d + 1) ≤ unit * e = mul-le-mul_left unit up in
    let rest = climb places base unit k e r small below most (d + 1) n (omega arith) (omega arith) in
    let here : Reaches (Joins places base unit) (k + unit * d)
    (walk places base unit e (k + unit * d) (suc most)) (k + unit * e) (n + 1)
    = one_on places base unit e (k + unit * d) most (k + unit * (d + 1)) (k + unit * e) n
    (λ f. let g : d ≡ e = sym (r.digit_is d (omega arith)) ∙ f in omega arith)
    (target_up places base unit k d r (omega arith) (omega arith)) rest in
    record { path = here.path; short = omega (arith, here.short) }

-- from a higher digit, round through the digit 0
around : (places base unit k e : ℕ) → IsCycle base unit k → (most d n : ℕ) → e < d → d < base
    → k + unit * d < places → d + n ≡ base + e → n < most
    → Reaches (Joins places base unit) (k + unit * d) (walk places base unit e (k + unit * d) most)
    (k + unit * e) n
around places base unit k e r zero d n high small below sum enough = absurd (omega arith)
around places base unit k e r (suc most) d zero high small below sum enough = absurd (omega arith)
around places base unit k e r (suc most) d (suc n) high small below sum enough =
    let far : digit base unit (k + unit * d) ≡ e → ⊥ = λ f. let g : d ≡ e = sym (r.digit_is d small) ∙ f
    in omega arith in
    let low : unit * e ≤ unit * d = mul-le-mul_left unit (omega arith) in
    let back : (d + 1 < base → places ≤ k + unit * (d + 1))
    → Reaches (Joins places base unit) (k + unit * d)
    (walk places base unit e (k + unit * d) (suc most)) (k + unit * e) (e + 1)
    = λ above. one_on places base unit e (k + unit * d) most (k + unit * 0) (k + unit * e) e far
    (target_over places base unit k d r (omega arith) small (omega arith) above)
    (climb places base unit k e r (omega arith) (omega arith) most 0 e (omega arith) (omega arith)) in
    let no_more : Reaches (Joins places base unit) (k + unit * d)
    (walk places base unit e (k + unit * d) (suc most)) (k + unit * e) (e + 1)
    → Reaches (Joins places base unit) (k + unit * d)
    (walk places base unit e (k + unit * d) (suc most)) (k + unit * e) (suc n)
    = λ h. record { path = h.path; short = omega (arith, h.short) } in
    elim (cases_lt (d + 1) base) [
      | inl more ↦ elim (cases_lt (k + unit * (d + 1)) places) [
        | inl there ↦
            let here : Reaches (Joins places base unit) (k + unit * d)
            (walk places base unit e (k + unit * d) (suc most)) (k + unit * e) (n + 1)
            = one_on places base unit e (k + unit * d) most (k + unit * (d + 1)) (k + unit * e) n far
            (target_up places base unit k d r more there)
            (around places base unit k e r most (d + 1) n (omega arith) more there (omega arith)
            (omega arith)) in
            record { path = here.path; short = omega (arith, here.short) }
        | inr above ↦ no_more (back (λ _. above))
      ]
      | inr top ↦ no_more (back (λ more. absurd (omega arith)))
    ]

-- `Line` holds of the lines in so many dimensions from this one on
abbrev pub IsLined : (ℕ → ℕ → Type 0) → ℕ → ℕ → ℕ → ℕ → Type 0
IsLined Line places base unit dimensions = (p q : ℕ) → q < places
    → has_number q (targets places base unit dimensions p) ≡ true → Line p q

pub has_append_l : (q : ℕ) (xs ys : List ℕ) → has_number q xs ≡ true → has_number q (xs ++ ys)
    ≡ true
has_append_l q [] ys e = absurd (search (rules, e))
has_append_l q (x ∷ xs) ys e = elim (cases_eq q x) [
  | inl same ↦ cond-true _ _ _ (eq-eqb q x same)
  | inr far ↦ cond-false _ _ _ (ne_eqb q x far)
      ∙ has_append_l q xs ys (sym (cond-false _ _ _ (ne_eqb q x far)) ∙ e)
]

pub has_append_r : (q : ℕ) (xs ys : List ℕ) → has_number q ys ≡ true → has_number q (xs ++ ys)
    ≡ true
has_append_r q [] ys e = e
has_append_r q (x ∷ xs) ys e = elim (cases_eq q x) [
  | inl same ↦ cond-true _ _ _ (eq-eqb q x same)
  | inr far ↦ cond-false _ _ _ (ne_eqb q x far) ∙ has_append_r q xs ys e
]

pub targets_more : (places base unit dimensions p : ℕ)
    → targets places base unit (suc dimensions) p ≡ one_of (target places base unit p)
    ++ targets places base (unit * base) dimensions p
unfolding targets
targets_more places base unit dimensions p = refl

pub targets_none : (places base unit p : ℕ) → targets places base unit zero p ≡ []
unfolding targets
targets_none places base unit p = refl

lined_here : (Line : ℕ → ℕ → Type 0) (places base unit dimensions : ℕ)
    → IsLined Line places base unit (suc dimensions) → (p q : ℕ) → Joins places base unit p q
    → Line p q
lined_here Line places base unit dimensions h p q j =
    h p q j.0 (rw (targets_more places base unit dimensions p) (
    has_append_l q (one_of (target places base unit p)) _ (rw j.1 (cond-true _ _ _ (eq-eqb q q refl)))))

lined_on : (Line : ℕ → ℕ → Type 0) (places base unit dimensions : ℕ)
    → IsLined Line places base unit (suc dimensions)
    → IsLined Line places base (unit * base) dimensions
lined_on Line places base unit dimensions h p q below e =
    h p q below (rw (targets_more places base unit dimensions p)
    (has_append_r q (one_of (target places base unit p)) _ e))

-- so many digits of m are at most those of n, and the rest are the same
abbrev pub IsUnder : ℕ → ℕ → ℕ → ℕ → Type 0
IsUnder base zero m n = m ≡ n
IsUnder base (suc dimensions) m n = (m % base ≤ n % base) × IsUnder base dimensions (m / base) (n / base)

-- how many of them are less
abbrev pub less : ℕ → ℕ → ℕ → ℕ → ℕ
less base zero m n = 0
less base (suc dimensions) m n =
    cond (ltb (m % base) (n % base)) 1 0 + less base dimensions (m / base) (n / base)

under_le : (base dimensions m n : ℕ) → 0 < base → IsUnder base dimensions m n → m ≤ n
under_le base zero m n some u = omega arith
under_le base (suc dimensions) m n some u =
    let high : m / base ≤ n / base = under_le base dimensions (m / base) (n / base) some u.1 in
    let more : base * (m / base) ≤ base * (n / base) = mul-le-mul_left base high in
    omega (arith, div-add-mod' m base, div-add-mod' n base, u.0, more)

-- a number by its lowest digit and the rest
split_number : (base unit lo m : ℕ) → lo + unit * m
    ≡ lo + unit * (base * (m / base)) + unit * (m % base)
split_number base unit lo m = ap (λ x. lo + unit * x) (sym (div-add-mod' m base)) ∙ omega arith

join_number : (base unit lo t h : ℕ)
    → lo + unit * (base * h) + unit * t ≡ (lo + unit * t) + (unit * base) * h
join_number base unit lo t h = omega arith

low_below : (base unit lo t : ℕ) → lo < unit → t < base → lo + unit * t < unit * base
low_below base unit lo t low small =
    let more : unit * (t + 1) ≤ unit * base = mul-le-mul_left unit (omega arith) in
    omega arith

digits_rest : (base unit b n : ℕ) → b / unit ≡ n → b / (unit * base) ≡ n / base
digits_rest base unit b n e = sym (div-div-eq-div-mul b unit base) ∙ ap (λ x. x / base) e

-- where the descent_in of one digit ends
record IsDown (Line : ℕ → ℕ → Type 0) (base d e k unit : ℕ) (p : ℕ) (part : List ℕ) : Type 0 where
  digit : ℕ
  lower : digit ≤ d
  under : digit ≤ e
  path : IsPath Line p part (k + unit * digit)
  short : length part + (base - 1) * cond (ltb digit e) 1 0 ≤ base - 1

lowering_down : (Line : ℕ → ℕ → Type 0) (places base b unit k d e : ℕ) → IsCycle base unit k
    → ((p q : ℕ) → Joins places base unit p q → Line p q) → d < base → digit base unit b ≡ e
    → k + unit * d < places
    → IsDown Line base d e k unit (k + unit * d) (descent_in places base b unit (k + unit * d))
lowering_down Line places base b unit k d e r lines small there below = elim (cases_lt e d) [
  | inl high ↦
      let is : descent_in places base b unit (k + unit * d) ≡ walk places base unit e (k + unit * d) base
      = simp (there, r.digit_is d small, lt-ltb e d high) refl in
      let h = around places base unit k e r base d (base + e - d) high small below (omega arith)
      (omega arith) in
      record {
        digit = e;
        lower = omega arith;
        under = omega arith;
        path = rw is (path_along _ Line lines _ _ _ h.path);
        short = rw is (rw (cond-false {A = ℕ} _ 1 0 (le-ltb e e (omega arith))) (omega (arith, h.short)));
      }
  | inr low ↦
      let is : descent_in places base b unit (k + unit * d) ≡ []
      = simp (there, r.digit_is d small, le-ltb e d low) refl in
      record {
        digit = d;
        lower = omega arith;
        under = low;
        path = rw is refl;
        short = rw is (elim (cases_lt d e) [
          | inl more ↦ rw (cond-true {A = ℕ} _ 1 0 (lt-ltb d e more)) (omega arith)
          | inr same ↦ rw
              (cond-false {A = ℕ} _ 1 0 (le-ltb d e same)) (omega arith)
        ]);
      }
]

pub descent_more : (places base b unit dimensions p : ℕ)
    → descent places base b unit (suc dimensions) p ≡ then_from p (descent_in places base b unit p)
    (λ q. descent places base b (unit * base) dimensions q)
unfolding descent
descent_more places base b unit dimensions p = refl

pub descent_none : (places base b unit p : ℕ) → descent places base b unit zero p ≡ []
unfolding descent
descent_none places base b unit p = refl

pub ascent_more : (places base b unit dimensions p : ℕ)
    → ascent places base b unit (suc dimensions) p ≡ then_from p (ascent_in places base b unit p)
    (λ q. ascent places base b (unit * base) dimensions q)
unfolding ascent
ascent_more places base b unit dimensions p = refl

pub ascent_none : (places base b unit p : ℕ) → ascent places base b unit zero p ≡ []
unfolding ascent
ascent_none places base b unit p = refl

-- a part of a path and what follows from its end
pub then_from_path : (Line : ℕ → ℕ → Type 0) (p q r : ℕ) (part : List ℕ) (rest : ℕ → List ℕ)
    → IsPath Line p part q → IsPath Line q (rest q) r → IsPath Line p (then_from p part rest) r
then_from_path Line p q r part rest e f =
    path_append Line p q r part _ e
    (subst (λ x. IsPath Line q (rest x) r) (sym (path_last Line p q part e)) f)

pub then_from_length : (Line : ℕ → ℕ → Type 0) (p q : ℕ) (part : List ℕ) (rest : ℕ → List ℕ)
    → IsPath Line p part q → length (then_from p part rest) ≡ length part + length (rest q)
then_from_length Line p q part rest e = length-append part _
    ∙ ap (λ x. length part + length (rest x)) (path_last Line p q part e)

-- where the descent_in of all digits from this one on ends
pub record IsLowered (Line : ℕ → ℕ
    → Type 0) (base dimensions lo unit m n : ℕ) (p : ℕ) (part : List ℕ) :
    Type 0 where
  pub number : ℕ
  pub lower : number ≤ m
  pub under : IsUnder base dimensions number n
  pub path : IsPath Line p part (lo + unit * number)
  pub short : length part + (base - 1) * less base dimensions number n ≤ (base - 1) * dimensions

power_part : (base dimensions m : ℕ) → 0 < base → m < base ^ suc dimensions
    → m / base < base ^ dimensions
power_part base dimensions m some small =
    div_below m base (base ^ dimensions) some (rw (sym (pow-suc base dimensions)) small)

digit_joined : (base t g : ℕ) → t < base → (t + base * g) % base ≡ t
digit_joined base t g small = let e : t + base * g ≡ g * base + t = omega arith in ap (λ x. x % base) e
    ∙ mod-mul-add g base t small

rest_joined : (base t g : ℕ) → t < base → (t + base * g) / base ≡ g
rest_joined base t g small = let e : t + base * g ≡ g * base + t = omega arith in ap (λ x. x / base) e
    ∙ div-mul-add g base t small

pub descent_down : (Line : ℕ → ℕ → Type 0) (places base b : ℕ) → 2 ≤ base
    → (dimensions unit lo m n : ℕ)
    → IsLined Line places base unit dimensions → lo < unit → b / unit ≡ n
    → m < base ^ dimensions → n < base ^ dimensions → lo + unit * m < places
    → IsLowered Line base dimensions lo unit m n (lo + unit * m)
    (descent places base b unit dimensions (lo + unit * m))
descent_down Line places base b two zero unit lo m n lines low there few many below =
    rw (descent_none places base b unit (lo + unit * m)) (record {
      number = m;
      lower = omega arith;
      under = omega (arith, few, many, pow-zero base);
      path = refl;
      short = omega arith;
    })
descent_down Line places base b two (suc dimensions) unit lo m n lines low there few many below =
    let some : 0 < base = omega arith in
    let d : ℕ = m % base in
    let e : ℕ = n % base in
    let k : ℕ = lo + unit * (base * (m / base)) in
    let small : d < base = mod_below m base some in
    let split : lo + unit * m ≡ k + unit * d = split_number base unit lo m in
    let part : IsDown Line base d e k unit (k + unit * d) (descent_in places base b unit (k + unit * d))
    = lowering_down Line places base b unit k d e (cycle base unit lo (m / base) low)
    (λ p q. lined_here Line places base unit dimensions lines p q) small (ap (λ x. x % base) there)
    (rw (sym split) below) in
    let t : ℕ = part.digit in
    let t_small : t < base = omega (arith, part.lower) in
    let join : k + unit * t ≡ (lo + unit * t) + (unit * base) * (m / base) =
    join_number base unit lo t (m / base) in
    let smaller : unit * t ≤ unit * d = mul-le-mul_left unit part.lower in
    let rest : IsLowered Line base dimensions (lo + unit * t) (unit * base) (m / base) (n / base)
    ((lo + unit * t) + (unit * base) * (m / base))
    (descent places base b (unit * base) dimensions ((lo + unit * t) + (unit * base) * (m / base)))
    = descent_down Line places base b two dimensions (unit * base) (lo + unit * t) (m / base) (n / base)
    (lined_on Line places base unit dimensions lines) (low_below base unit lo t low t_small)
    (digits_rest base unit b n there)
    (power_part base dimensions m some few) (power_part base dimensions n some many)
    (omega (arith, join, split, below, smaller)) in
    let g : ℕ = rest.number in
    let digit_of : (t + base * g) % base ≡ t = digit_joined base t g t_small in
    let rest_of : (t + base * g) / base ≡ g = rest_joined base t g t_small in
    let moved : IsPath Line (k + unit * t) (descent places base b (unit * base) dimensions (k + unit * t))
    ((lo + unit * t) + (unit * base) * g)
    = subst (λ x. IsPath Line x (descent places base b (unit * base) dimensions x)
    ((lo + unit * t) + (unit * base) * g)) (sym join) rest.path in
    let long : length (descent places base b (unit * base) dimensions (k + unit * t)) + (base - 1) * less
    base dimensions g (n / base) ≤ (base - 1) * dimensions
    = subst (λ x. length (descent places base b (unit * base) dimensions x) + (base - 1) * less base
    dimensions g (n / base) ≤ (base - 1) * dimensions) (sym join) rest.short in
    let next : ℕ → List ℕ = λ q. descent places base b (unit * base) dimensions q in
    let ending : (lo + unit * t) + (unit * base) * g ≡ lo + unit * (t + base * g) = omega arith in
    let all : IsLowered Line base (suc dimensions) lo unit m n (k + unit * d)
    (then_from (k + unit * d) (descent_in places base b unit (k + unit * d)) next) = record {
      number = t + base * g;
      lower = let up : base * g ≤ base * (m / base) = mul-le-mul_left base rest.lower
          in omega (arith, up, part.lower, div-add-mod' m base);
      under = (rw digit_of part.under, rw rest_of rest.under);
      path = subst (IsPath Line (k + unit * d) _) ending (then_from_path Line _ _ _ _ next part.path moved);
      short = rw (then_from_length Line (k + unit * d) (k + unit * t)
          (descent_in places base b unit (k + unit * d)) next part.path)
          (rw digit_of (rw rest_of (omega (arith, part.short, long))));
    } in
    rw split (rw (descent_more places base b unit dimensions (k + unit * d)) all)

digit_at : (base unit lo n b : ℕ) → lo < unit → b ≡ lo + unit * n → digit base unit b ≡ n % base
digit_at base unit lo n b low is = let e : b ≡ n * unit + lo = omega arith in ap (λ x. x / unit % base) e
    ∙ ap (λ x. x % base) (div-mul-add n unit lo low)

raising_up : (Line : ℕ → ℕ → Type 0) (places base b unit k d e : ℕ) → IsCycle base unit k
    → ((p q : ℕ) → Joins places base unit p q → Line p q) → e < base → d ≤ e → digit base unit b ≡ e
    → k + unit * e < places
    → Reaches Line (k + unit * d) (ascent_in places base b unit (k + unit * d)) (k + unit * e)
    ((base - 1) * cond (ltb d e) 1 0)
raising_up Line places base b unit k d e r lines small under there below = elim (cases_lt d e) [
  | inl low ↦
      let is : ascent_in places base b unit (k + unit * d) ≡ walk places base unit e (k + unit * d) base
      = simp (there, r.digit_is d (omega arith), lt-ltb d e low) refl in
      let h = climb places base unit k e r small below base d (e - d) (omega arith) (omega arith) in
      record {
        path = rw is (path_along _ Line lines _ _ _ h.path);
        short = rw is (rw (cond-true {A = ℕ} _ 1 0 (lt-ltb d e low)) (omega (arith, h.short)));
      }
  | inr high ↦
      let same : d ≡ e = omega arith in
      let is : ascent_in places base b unit (k + unit * d) ≡ []
      = simp (there, r.digit_is d (omega arith), le-ltb d e high) refl in
      record { path = rw is (ap (λ x. k + unit * x) same); short = rw is (omega arith) }
]

pub ascent_up : (Line : ℕ → ℕ → Type 0) (places base b : ℕ) → 2 ≤ base → b < places
    → (dimensions unit lo m n : ℕ) → IsLined Line places base unit dimensions → lo < unit
    → b ≡ lo + unit * n
    → IsUnder base dimensions m n
    → Reaches Line (lo + unit * m) (ascent places base b unit dimensions (lo + unit * m)) b
    ((base - 1) * less base dimensions m n)
ascent_up Line places base b two below zero unit lo m n lines low is under =
    rw (ascent_none places base b unit (lo + unit * m)) (record {
      path = ap (λ x. lo + unit * x) under ∙ sym is;
      short = omega arith;
    })
ascent_up Line places base b two below (suc dimensions) unit lo m n lines low is under =
    let some : 0 < base = omega arith in
    let d : ℕ = m % base in
    let e : ℕ = n % base in
    let k : ℕ = lo + unit * (base * (m / base)) in
    let small : e < base = mod_below n base some in
    let split : lo + unit * m ≡ k + unit * d = split_number base unit lo m in
    let split_b : lo + unit * n ≡ lo + unit * (base * (n / base)) + unit * e =
    split_number base unit lo n in
    let higher : m / base ≤ n / base = under_le base dimensions (m / base) (n / base) some under.1 in
    let high : unit * (base * (m / base)) ≤ unit * (base * (n / base)) =
    mul-le-mul_left unit (mul-le-mul_left base higher) in
    let there : digit base unit b ≡ e = digit_at base unit lo n b low is in
    let part : Reaches Line (k + unit * d) (ascent_in places base b unit (k + unit * d)) (k + unit * e)
    ((base - 1) * cond (ltb d e) 1 0)
    = raising_up Line places base b unit k d e (cycle base unit lo (m / base) low)
    (λ p q. lined_here Line places base unit dimensions lines p q) small under.0 there
    (omega (arith, is, split_b, below, high)) in
    let join : k + unit * e ≡ (lo + unit * e) + (unit * base) * (m / base) =
    join_number base unit lo e (m / base) in
    let join_b : lo + unit * (base * (n / base)) + unit * e ≡ (lo + unit * e) + (unit * base) * (n / base)
    = join_number base unit lo e (n / base) in
    let rest : Reaches Line ((lo + unit * e) + (unit * base) * (m / base))
    (ascent places base b (unit * base) dimensions ((lo + unit * e) + (unit * base) * (m / base))) b
    ((base - 1) * less base dimensions (m / base) (n / base))
    = ascent_up Line places base b two below dimensions (unit * base) (lo + unit * e) (m / base)
    (n / base) (lined_on Line places base unit dimensions lines) (low_below base unit lo e low small)
    (omega (arith, is, split_b, join_b)) under.1 in
    let next : ℕ → List ℕ = λ q. ascent places base b (unit * base) dimensions q in
    let moved : Reaches Line (k + unit * e) (next (k + unit * e)) b
    ((base - 1) * less base dimensions (m / base) (n / base))
    = subst (λ x. Reaches Line x (next x) b ((base - 1) * less base dimensions (m / base) (n / base)))
    (sym join) rest in
    let all : Reaches Line (k + unit * d)
    (then_from (k + unit * d) (ascent_in places base b unit (k + unit * d)) next) b
    ((base - 1) * less base (suc dimensions) m n) = record {
      path = then_from_path Line _ _ _ _ next part.path moved.path;
      short = rw (then_from_length Line (k + unit * d) (k + unit * e)
          (ascent_in places base b unit (k + unit * d)) next part.path)
          (omega (arith, part.short, moved.short));
    } in
    rw split (rw (ascent_more places base b unit dimensions (k + unit * d)) all)
