-- The laws of the line graph that callers cite.
use Rattle.std.specs.Prelude.{List, [], ◌∷◌, ◌++◌, length, Bool, true, false, cond, All, ◌↔◌}
use Rattle.std.proofs.Common.{◌≡◌, inl, inr, ℕ, zero, suc, ◌+◌, ◌-◌, ◌*◌, ◌^◌, ◌<◌, ◌≤◌, refl, ap}
use Rattle.std.proofs.Common.{sym, ◌∙◌, subst, arith, length-append}
use Rattle.std.proofs.Math.Nat.{div-one}
use Rattle.std.specs.List.{filter, range_with_len}
use Rattle.std.specs.List.Sorted.{IsStrictlyIncreasing}
use Rattle.std.proofs.lemmas.List.{map-id}
use Rattle.std.proofs.lemmas.List.Elements.{filter-append}
use Rattle.std.proofs.lemmas.List.FromFn.{length-range_with_len, get_or-range_with_len}
use Rattle.std.proofs.lemmas.List.FromFn.{map-range_with_len_more}
use Rattle.std.proofs.lemmas.List.Kept.{IsStrictlyIncreasing-filter}
use Rattle.glb_laws.specs.Numbers.{has_number, IsDistinct, count_to}
use Rattle.glb_cube.specs.Lines.{Cube, IsCube, IsDimension, cube_of, IsLine, outs_of, ins_below}
use Rattle.glb_cube.specs.Lines.{ins_of}
use Rattle.glb_cube.specs.Ways.{IsWayOf, steps_of, way_of, then_from, descent, ascent}
use Rattle.glb_cube.specs.GraphLaws.{GraphLaws}
use Rattle.std.proofs.lemmas.Bool.{eq-eqb, ne_eqb, cond-true, cond-false, cases_eq, cases_lt}
use Rattle.std.proofs.lemmas.Bool.{cases_Bool, true≢false}
use Rattle.glb_cube.proofs.DegreeFacts.{targets_small, targets_not_self, targets_distinct}
use Rattle.glb_cube.proofs.DegreeFacts.{length-targets, count_sources, has_append}
use Rattle.glb_cube.proofs.WayFacts.{has_append_l, has_append_r, Reaches, IsLowered, IsLined}
use Rattle.glb_cube.proofs.WayFacts.{descent_down, ascent_up, then_from_path, then_from_length}

-- the way that is taken is a way, and short
pub way_reaches : (c : Cube) → IsCube c → (a b : ℕ) → a < c.places → b < c.places
    → Reaches (IsLine c) a (steps_of c a b) b (c.dimension * (c.base - 1))
way_reaches c i a b a_small b_small =
    let enough : c.places ≤ c.base ^ c.dimension = i.dimension.enough in
    let lines : IsLined (IsLine c) c.places c.base 1 c.dimension = λ p q below e. (below, e) in
    let at_a : 0 + 1 * a ≡ a = omega arith in
    let down : IsLowered (IsLine c) c.base c.dimension 0 1 a b (0 + 1 * a)
    (descent c.places c.base b 1 c.dimension (0 + 1 * a))
    = descent_down (IsLine c) c.places c.base b i.base c.dimension 1 0 a b lines (omega arith) (div-one b)
    (omega arith) (omega arith) (omega arith) in
    let up : Reaches (IsLine c) (0 + 1 * down.number)
    (ascent c.places c.base b 1 c.dimension (0 + 1 * down.number)) b ((c.base - 1) * _)
    = ascent_up (IsLine c) c.places c.base b i.base b_small c.dimension 1 0 down.number b lines
    (omega arith) (omega arith) down.under in
    let next : ℕ → List ℕ = λ q. ascent c.places c.base b 1 c.dimension q in
    let all : Reaches (IsLine c) (0 + 1 * a)
    (then_from (0 + 1 * a) (descent c.places c.base b 1 c.dimension (0 + 1 * a)) next) b
    (c.dimension * (c.base - 1)) = record {
      path = then_from_path (IsLine c) _ _ _ _ next down.path up.path;
      short = rw (then_from_length (IsLine c) (0 + 1 * a) (0 + 1 * down.number)
          (descent c.places c.base b 1 c.dimension (0 + 1 * a)) next down.path)
          (omega (arith, down.short, up.short));
    } in
    subst (λ x. Reaches (IsLine c) x (then_from x (descent c.places c.base b 1 c.dimension x) next) b
    (c.dimension * (c.base - 1))) at_a all

pub outs_below : (c : Cube) → (p q : ℕ) → has_number q (outs_of c p) ≡ true → q < c.places
outs_below c p q e = targets_small c.dimension c.places c.base 1 p q e

pub outs_not_self : (c : Cube) → IsCube c → (p : ℕ) → p < c.places → has_number p (outs_of c p)
    ≡ false
outs_not_self c i p below = targets_not_self c.dimension c.places c.base 1 p i.base (omega arith) below

pub outs_distinct : (c : Cube) → IsCube c → (p : ℕ) → p < c.places → IsDistinct (outs_of c p)
outs_distinct c i p below = targets_distinct c.dimension c.places c.base 1 p i.base (omega arith) below

pub length-outs : (c : Cube) (p : ℕ) → length (outs_of c p) ≤ c.dimension
length-outs c p = length-targets c.dimension c.places c.base 1 p

pub count_ins : (c : Cube) → IsCube c → (q : ℕ)
    → count_to c.places (λ p. has_number q (outs_of c p)) ≤ c.dimension
count_ins c i q = count_sources c.dimension c.places c.base 1 q i.base (omega arith)

range_more : (n : ℕ) → range_with_len 0 (suc n) ≡ range_with_len 0 n ++ n ∷ []
range_more n =
    let s : suc n ≡ n + 1 = omega arith in
    ap (range_with_len 0) s ∙ sym (map-id (range_with_len 0 (n + 1)))
    ∙ map-range_with_len_more (λ x. x) 0 n n (omega arith)
    ∙ ap (λ l. l ++ n ∷ []) (map-id (range_with_len 0 n))

pub ins_more : (c : Cube) (q p : ℕ) → ins_below c q (suc p) ≡ ins_below c q p
    ++ cond (has_number q (outs_of c p)) (p ∷ []) []
unfolding ins_below
ins_more c q p = ap (filter (λ x. has_number q (outs_of c x))) (range_more p)
    ∙ filter-append (λ x. has_number q (outs_of c x)) (range_with_len 0 p) (p ∷ [])

pub ins_none : (c : Cube) (q : ℕ) → ins_below c q zero ≡ []
unfolding ins_below
ins_none c q = refl

range_rises : (n : ℕ) → IsStrictlyIncreasing (range_with_len 0 n)
range_rises n k less =
    let below : k + 1 < n = omega (arith, length-range_with_len 0 n) in
    rw (get_or-range_with_len 0 n k 0 (omega arith))
    (rw (get_or-range_with_len 0 n (k + 1) 0 below) (omega arith))

pub ins_rise : (c : Cube) (q : ℕ) → IsStrictlyIncreasing (ins_of c q)
unfolding ins_below
ins_rise c q = IsStrictlyIncreasing-filter (λ p. has_number q (outs_of c p)) (range_with_len 0 c.places)
    (range_rises c.places)

length-bit : (b : Bool) (p : ℕ) → length (cond b (p ∷ []) []) ≡ cond b 1 0
length-bit true p = refl
length-bit false p = refl

length-ins_below : (c : Cube) (q n : ℕ)
    → length (ins_below c q n) ≡ count_to n (λ p. has_number q (outs_of c p))
length-ins_below c q zero = ap length (ins_none c q)
length-ins_below c q (suc n) = ap length (ins_more c q n) ∙ length-append (ins_below c q n) _
    ∙ omega (arith, length-ins_below c q n, length-bit (has_number q (outs_of c n)) n)

pub length-ins : (c : Cube) → IsCube c → (q : ℕ) → length (ins_of c q) ≤ c.dimension
length-ins c i q = omega (arith, length-ins_below c q c.places, count_ins c i q)

in_bit : (b : Bool) (p n : ℕ) → has_number p (cond b (n ∷ []) []) ≡ true → (p ≡ n) × (b ≡ true)
in_bit false p n e = absurd (true≢false (sym e))
in_bit true p n e =
    elim (cases_eq p n)
    [ inl same ↦ (same, refl) | inr far ↦ absurd (true≢false (sym e ∙ cond-false _ _ _ (ne_eqb p n far))) ]

ins_are : (c : Cube) (q p n : ℕ) → has_number p (ins_below c q n) ≡ true → (p < n)
    × (has_number q (outs_of c p) ≡ true)
ins_are c q p zero e = absurd (true≢false (sym e ∙ ap (has_number p) (ins_none c q)))
ins_are c q p (suc n) e = elim (has_append p (ins_below c q n) _ (rw (sym (ins_more c q n)) e)) [
  | inl a ↦ let h = ins_are c q p n a in (omega (arith, h.0), h.1)
  | inr b ↦ let h = in_bit (has_number q (outs_of c n)) p n b
      in (omega (arith, h.0), ap (λ x. has_number q (outs_of c x)) h.0 ∙ h.1)
]

line_bit : (b : Bool) (p n : ℕ) → p ≡ n → b ≡ true → has_number p (cond b (n ∷ []) []) ≡ true
line_bit false p n same e = absurd (true≢false (sym e))
line_bit true p n same e = cond-true _ _ _ (eq-eqb p n same)

are_ins : (c : Cube) (q p n : ℕ) → p < n → has_number q (outs_of c p) ≡ true
    → has_number p (ins_below c q n) ≡ true
are_ins c q p zero small e = absurd (omega arith)
are_ins c q p (suc n) small e = rw (ins_more c q n) (elim (cases_eq p n) [
  | inl same ↦ has_append_r p (ins_below c q n) _
      (line_bit (has_number q (outs_of c n)) p n same (ap (λ x. has_number q (outs_of c x)) (sym same) ∙ e))
  | inr far ↦ has_append_l p (ins_below c q n) _ (are_ins c q p n (omega arith) e)
])

-- a place is among the in-lines of another exactly where it has a line to it
pub in_of_line : (c : Cube) (p q : ℕ) → p < c.places → has_number q (outs_of c p) ≡ true
    → has_number p (ins_of c q) ≡ true
in_of_line c p q small e = are_ins c q p c.places small e

pub line_of_in : (c : Cube) (p q : ℕ) → has_number p (ins_of c q) ≡ true → (p < c.places)
    × (has_number q (outs_of c p) ≡ true)
line_of_in c p q e = ins_are c q p c.places e

pub way_is_way : (c : Cube) → IsCube c → (a b : ℕ) → a < c.places → b < c.places → (way : List ℕ)
    → way ≡ way_of c a b → IsWayOf c a b way
way_is_way c i a b s t way e = (steps_of c a b, e, (way_reaches c i a b s t).path)

pub way_short : (c : Cube) → IsCube c → (a b : ℕ) → a < c.places → b < c.places → (way : List ℕ)
    → way ≡ way_of c a b → length way ≤ c.dimension * (c.base - 1) + 1
way_short c i a b s t way e =
    let h : length (steps_of c a b) ≤ c.dimension * (c.base - 1) = (way_reaches c i a b s t).short
    in rw e (omega (arith, h))

none_beyond : (c : Cube) (p : ℕ) → c.places ≤ p → has_number p (outs_of c p) ≡ false
none_beyond c p beyond =
    elim (cases_Bool (has_number p (outs_of c p)))
    [ inl is ↦ absurd (omega (arith, outs_below c p p is)) | inr fails ↦ fails ]

later : (x q : ℕ) (xs : List ℕ) → has_number q xs ≡ true → has_number q (x ∷ xs) ≡ true
later x q xs e = elim (cases_eq q x)
    [ inl same ↦ cond-true _ _ _ (eq-eqb q x same) | inr far ↦ cond-false _ _ _ (ne_eqb q x far) ∙ e ]

-- what holds of each number of a list holds at each index
pub All-has_number : (P : ℕ → Type 0) (xs : List ℕ) → ((q : ℕ) → has_number q xs ≡ true → P q)
    → All P xs
All-has_number P [] h k d small = absurd (omega arith)
All-has_number P (x ∷ xs) h zero d small = h x (cond-true _ _ _ (eq-eqb x x refl))
All-has_number P (x ∷ xs) h (suc k) d small =
    All-has_number P xs (λ q e. h q (later x q xs e)) k d (omega arith)

pub exact_ins : (c : Cube) (q p : ℕ)
    → (has_number p (ins_of c q) ≡ true) ↔ ((p < c.places) × IsLine c p q)
exact_ins c q p = (
  λ e. let l = line_of_in c p q e
      in (l.0, (outs_below c p q l.1, l.1)),
  λ l. in_of_line c p q l.0 l.1.1,
)

pub cube_holds : (places base dimension : ℕ) → 1 ≤ places → 2 ≤ base
    → IsDimension places base dimension
    → IsCube (cube_of places base dimension)
cube_holds places base dimension some two least = record { some = some; base = two; dimension = least }

pub no_loop : (c : Cube) → IsCube c → (p : ℕ) → has_number p (outs_of c p) ≡ false
no_loop c i p = elim (cases_lt p c.places)
    [ inl small ↦ outs_not_self c i p small | inr beyond ↦ none_beyond c p beyond ]

pub graph_laws : (c : Cube) → IsCube c → GraphLaws c
graph_laws c i = record {
  near = outs_below c;
  no_loop = no_loop c i;
  once = outs_distinct c i;
  out = length-outs c;
  into = count_ins c i;
  ways = λ a b s t. (steps_of c a b, (way_reaches c i a b s t).path, (way_reaches c i a b s t).short);
  ins_few = length-ins c i;
  ins_rising = ins_rise c;
  ins_lines = line_of_in c;
  lines_ins = in_of_line c;
}
