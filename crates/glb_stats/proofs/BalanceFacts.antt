-- How the tests of the balances come together.
use Rattle.std.proofs.Common.{◌≡◌, ℕ, ◌+◌, ◌<◌, ◌≤◌, ◌↔◌, Bool, inl, inr, List, length, get_or}
use Rattle.std.proofs.Common.{sum_by, sym, ap, subst, ◌∙◌, arith}
use Rattle.std.specs.Prelude.{Some, slice_get, IsTrue, ◌==◌, nat_lt}
use Rattle.std.proofs.lemmas.Bool.{cases_Bool, eqb-true, eq-eqb, ltb-true, ltb-false}
use Rattle.std.proofs.lemmas.Option.{get_or_from_slice_get, slice_get_within}
use Rattle.glb_stats.specs.declared.counters.Counters.{Counters}
use Rattle.glb_stats.specs.Balances.{SumsBalance, PlaceBalances, EachPlaceBalances, IsBalanced}
use Rattle.glb_stats.specs.Balances.{StartsByRoots}

-- each of the first places balances by itself
abbrev pub FirstBalance : ℕ → List Counters → List ℕ → List Bool → Type 0
FirstBalance n all degrees awake =
    (p : ℕ) (c : Counters) (degree : ℕ) (is_awake : Bool)
    → p < n → slice_get all p ≡ Some c
    → slice_get degrees p ≡ Some degree → slice_get awake p ≡ Some is_awake
    → PlaceBalances c degree is_awake

-- a place balances, told by equal values
same_place : (c c' : Counters) (d d' : ℕ) (a a' : Bool) → c ≡ c' → d ≡ d' → a ≡ a'
    → PlaceBalances c d a → PlaceBalances c' d' a'
same_place c c' d d' a a' e f g b =
    subst (λ x. PlaceBalances c' d' x) g
    (subst (λ x. PlaceBalances c' x a) f (subst (λ x. PlaceBalances x d a) e b))

-- one more place balances
pub first_more : (n : ℕ) (all : List Counters) (degrees : List ℕ) (awake : List Bool) (c : Counters)
    (d : ℕ) (a : Bool)
    → d ≡ get_or degrees n d → a ≡ get_or awake n a → PlaceBalances (get_or all n c) d a
    → FirstBalance n all degrees awake → FirstBalance (n + 1) all degrees awake
first_more n all degrees awake c d a e f b below p c' d' a' h i j k =
    elim (cases_Bool (nat_lt p n)) [
      | inl lt ↦ below p c' d' a' (ltb-true p n lt) i j k
      | inr ge ↦
          let le : n ≤ p = ltb-false p n ge in
          let same : p ≡ n = omega arith in
          let i' = subst (λ m. slice_get all m ≡ Some c') same i in
          let j' = subst (λ m. slice_get degrees m ≡ Some d') same j in
          let k' = subst (λ m. slice_get awake m ≡ Some a') same k in
          same_place (get_or all n c) c' d d' a a' (get_or_from_slice_get all n c' c i')
          (e ∙ get_or_from_slice_get degrees n d' d j') (f ∙ get_or_from_slice_get awake n a' a k')
          b
    ]

-- all places balance
pub first_all : (n : ℕ) (all : List Counters) (degrees : List ℕ) (awake : List Bool)
    → length all ≤ n
    → FirstBalance n all degrees awake → EachPlaceBalances all degrees awake
first_all n all degrees awake h below p c d a i j k =
    below p c d a (omega (arith, slice_get_within all p c i)) i j k

-- the last of the tests of the sums decides
pub sums_decided : (all : List Counters)
    (nodes items asks denied given got line_given line_got sent_units got_units : ℕ)
    → items ≡ sum_by (λ c. c.items) all → asks ≡ sum_by (λ c. c.asks) all
    → denied ≡ sum_by (λ c. c.denied) all
    → given ≡ sum_by (λ c. c.given) all → got ≡ sum_by (λ c. c.got) all
    → line_given ≡ sum_by (λ c. c.line_given) all → line_got ≡ sum_by (λ c. c.line_got) all
    → sent_units ≡ sum_by (λ c. c.sent_units) all → got_units ≡ sum_by (λ c. c.got_units) all
    → items ≡ nodes → given ≡ got → line_given ≡ line_got → sent_units ≡ got_units
    → IsTrue (asks == denied + given) ↔ SumsBalance all nodes
sums_decided all nodes items asks denied given got line_given line_got sent_units got_units i a d g
    t lg
    lt su gu e f h k = (
      λ yes. record {
        items = sym i ∙ e;
        given = sym g ∙ f ∙ t;
        line_given = sym lg ∙ h ∙ lt;
        units = sym su ∙ k ∙ gu;
        answers = sym a ∙ eqb-true _ _ yes ∙ ap (λ m. m + given) d
            ∙ ap (λ m. sum_by (λ c. c.denied) all + m) g;
      },
      λ b. eq-eqb _ _
          (a ∙ b.answers
          ∙ sym (ap (λ m. m + given) d ∙ ap (λ m. sum_by (λ c. c.denied) all + m) g)),
    )

-- each of the first places started awake exactly where it had roots
abbrev pub FirstStart : ℕ → List Bool → List ℕ → Type 0
FirstStart n awake roots =
    (p : ℕ) (is_awake : Bool) (number : ℕ)
    → p < n → slice_get awake p ≡ Some is_awake → slice_get roots p ≡ Some number
    → is_awake ≡ nat_lt 0 number

-- where the sums balance, the places decide
pub places_decided : (all : List Counters) (nodes : ℕ) (degrees : List ℕ) (awake : List Bool)
    (b : Bool)
    → SumsBalance all nodes → (IsTrue b ↔ EachPlaceBalances all degrees awake)
    → IsTrue b ↔ IsBalanced all nodes degrees awake
places_decided all nodes degrees awake b sums each =
    (λ yes. record { sums = sums; places = each.0 yes }, λ balanced. each.1 balanced.places)

-- where the counters balance, the starts decide
pub starts_decided : (all : List Counters) (nodes : ℕ) (degrees : List ℕ) (awake : List Bool)
    (roots : List ℕ) (b : Bool)
    → IsBalanced all nodes degrees awake → (IsTrue b ↔ StartsByRoots awake roots)
    → IsTrue b ↔ IsBalanced all nodes degrees awake × StartsByRoots awake roots
starts_decided all nodes degrees awake roots b balanced starts =
    (λ yes. (balanced, starts.0 yes), λ both. starts.1 both.1)
