-- The value of a vertex.
use Rattle.std.proofs.Common.{◌≡◌, ◌≢◌, ℕ, zero, suc, ◌+◌, ◌*◌, ◌<◌, ◌≤◌, max, Bool, true, false}
use Rattle.std.proofs.Common.{cond, ◌⊎◌, List, [], ◌∷◌, ◌++◌, length, get_or, inl, inr, refl, sym}
use Rattle.std.proofs.Common.{◌∙◌, ap, arith, add-one, nat_eq, Option, None, Some, Contains, eq-eqb}
use Rattle.std.proofs.Common.{append-nil, append_assoc, length-append}
use Rattle.std.proofs.lemmas.Bool.{cases_eq, ne_eqb, eqb-true}
use Rattle.glb_laws.specs.Tallies.{tallies}
use Rattle.glb_graph.specs.declared.dist.Spot.{Spot}
use Rattle.glb_graph.specs.declared.dist.Spot.TheVariants.{Vertex}
use Rattle.glb_graph.specs.Rows.{targets_of}
use Rattle.glb_graph.specs.Walks.{Walk}
use Rattle.glb_graph.specs.inner.Tables.{IsTable, unseen, shown}
use Rattle.glb_graph.specs.Spots.{spots}
use Rattle.glb_graph.specs.Distances.{capped, any_of, is_walk, or_else, first_below, distance}
use Rattle.glb_graph.specs.Distances.{one_for, steps_for, reached_of, sum_of, greatest_of, value_of}
use Rattle.glb_graph.proofs.SumFacts.{sum_to-same, greatest_to-same, same_tallies}

-- an element that passes the test
any_of-contains : (test : ℕ → Bool) (xs : List ℕ) (k : ℕ) (x : ℕ) → k < length xs
    → get_or xs k x ≡ x
    → test x ≡ true → any_of test xs ≡ true
unfolding any_of
any_of-contains test [] k x l e y = absurd (omega arith)
any_of-contains test (z ∷ xs) zero x l e y = rw (ap test e ∙ y)
any_of-contains test (z ∷ xs) (suc k) x l e y =
    rw (any_of-contains test xs k x (omega arith) e y) (part (test z))
  where
    part : (b : Bool) → cond b true true ≡ true
    part true = refl
    part false = refl

-- where some element passes the test, here is one
contains-any_of : (test : ℕ → Bool) (xs : List ℕ) → any_of test xs ≡ true → (x : ℕ) × Contains xs x
    × (test x ≡ true)
unfolding any_of
contains-any_of test [] e = absurd (cc)
contains-any_of test (z ∷ xs) e = part (test z) refl (contains-any_of test xs) e
  where
    part : (b : Bool) → test z ≡ b
        → (any_of test xs ≡ true → (x : ℕ) × Contains xs x × (test x ≡ true))
        → cond b true (any_of test xs) ≡ true → (x : ℕ) × Contains (z ∷ xs) x × (test x ≡ true)
    part true t below e = (z, (0, omega arith, refl), t)
    part false t below e = let r =
        below e in (r.0, (suc r.1.0, let l = r.1.1 in omega arith, r.1.2), r.2)

-- the test finds each walk
pub walk-is_walk : (rows : List (List ℕ)) (s t n : ℕ) → Walk rows s t n → is_walk rows s t n ≡ true
unfolding is_walk
walk-is_walk rows s t zero w = eq-eqb s t w
walk-is_walk rows s t (suc n) (m, (k, l, e), w) =
    any_of-contains (λ m. is_walk rows m t n) (targets_of rows s) k m l e
    (walk-is_walk rows m t n w)

-- what the test finds is a walk
pub is_walk-walk : (rows : List (List ℕ)) (s t n : ℕ) → is_walk rows s t n ≡ true → Walk rows s t n
unfolding is_walk
is_walk-walk rows s t zero e = eqb-true s t e
is_walk-walk rows s t (suc n) e = let r =
    contains-any_of (λ m. is_walk rows m t n) (targets_of rows s) e
    in (r.0, r.1, is_walk-walk rows r.0 t n r.2)

-- what is not true is false
not_true : (b : Bool) → (b ≡ true → ⊥) → b ≡ false
not_true true f = absurd (f refl)
not_true false f = refl

-- where no number passes, there is no first one
pub first_below-none : (test : ℕ → Bool) (n : ℕ) → ((k : ℕ) → k < n → test k ≡ false)
    → first_below test n ≡ None
unfolding first_below or_else
first_below-none test zero f = refl
first_below-none test (suc n) f =
    rw (first_below-none test n (λ k l. f k (omega arith)), f n (omega arith))

-- a number that passes after others that do not is the first
pub first_below-some : (test : ℕ → Bool) (n d : ℕ) → d < n → ((k : ℕ) → k < d → test k ≡ false)
    → test d ≡ true → first_below test n ≡ Some d
unfolding first_below or_else
first_below-some test zero d l f e = absurd (omega arith)
first_below-some test (suc n) d l f e = elim (cases_eq d n) [
  | inl same ↦ rw (first_below-none test n (λ k a. f k (omega arith)), ap test (sym same) ∙ e)
      (ap Some (sym same))
  | inr other ↦ rw (first_below-some test n d (omega arith) f e)
]

-- a table shows the distances
pub shown_is : (rows : List (List ℕ)) (s : ℕ) (table : List ℕ) → IsTable rows s table → (t : ℕ)
    → t < length rows → shown table t ≡ distance rows s t
unfolding shown distance
shown_is rows s table T t l = elim (cases_eq (get_or table t 0) unseen) [
  | inl e ↦ rw (eq-eqb _ _ e)
      (sym (first_below-none (is_walk rows s t) (length rows)
      (λ k a. not_true _ (λ w. T.not_reached t l e k (is_walk-walk rows s t k w)))))
  | inr ne ↦ rw (ne_eqb _ _ ne)
      (sym (first_below-some (is_walk rows s t) (length rows) (get_or table t 0) (T.bounded t l ne)
      (λ k a. not_true _ (λ w. let least = (T.reached t l ne).1 k (is_walk-walk rows s t k w)
      in absurd (omega arith)))
      (walk-is_walk rows s t _ (T.reached t l ne).0)))
]

-- equal distances, one value
value_same : (f g : ℕ → Option ℕ) (s n : ℕ) → ((t : ℕ) → t < n → f t ≡ g t)
    → value_of f s n ≡ value_of g s n
value_same f g s n e =
    let steps = λ (t : ℕ) (l : t < n). ap steps_for (e t l) in
    same_tallies _ _ _ _ _ _
    (ap capped (sum_to-same n _ _ (λ t l. ap (one_for s t) (e t l))))
    (ap capped (sum_to-same n _ _ steps)) (ap capped (greatest_to-same n _ _ steps))

-- the value that the table shows is that of the vertex
pub table_value : (rows : List (List ℕ)) (s : ℕ) (table : List ℕ) → IsTable rows s table
    → value_of (shown table) s (length table) ≡ value_of (distance rows s) s (length rows)
table_value rows s table T =
    rw T.same_length
    (value_same (shown table) (distance rows s) s (length rows) (shown_is rows s table T))

-- a tally of the vertices below i
pub record IsTally (table : List ℕ) (s i reached sum greatest : ℕ) : Type 0 where
  pub reached_is : reached ≡ reached_of (shown table) s i
  pub sum_is : sum ≡ sum_of (shown table) i
  pub greatest_is : greatest ≡ greatest_of (shown table) i
  pub few : reached ≤ i
  pub low : sum ≤ i * 20000
  pub small : greatest < 20000

-- at first nothing is counted
pub tally_none : (table : List ℕ) (s : ℕ) → IsTally table s 0 0 0 0
tally_none table s =
    record {
      reached_is = refl;
      sum_is = refl;
      greatest_is = refl;
      few = omega arith;
      low = omega arith;
      small = omega arith;
    }

-- a vertex that is not reached
pub tally_skip : (table : List ℕ) (s i reached sum greatest : ℕ)
    → IsTally table s i reached sum greatest
    → get_or table i 0 ≡ unseen → IsTally table s (i + 1) reached sum greatest
unfolding shown one_for steps_for
tally_skip table s i reached sum greatest T e =
    let b : nat_eq (get_or table i 0) unseen ≡ true = eq-eqb _ _ e in
    record {
      reached_is = rw (add-one, b) (omega (arith, T.reached_is));
      sum_is = rw (add-one, b) (omega (arith, T.sum_is));
      greatest_is = rw (add-one, b) (omega (arith, T.greatest_is));
      few = omega (arith, T.few);
      low = omega (arith, T.low);
      small = T.small;
    }

-- a vertex that is reached
pub tally_take : (table : List ℕ) (s i reached sum greatest d more : ℕ)
    → IsTally table s i reached sum greatest → d ≡ get_or table i 0 → d ≢ unseen → d < 20000
    → more ≡ cond (nat_eq i s) 0 1 → more ≤ 1
    → IsTally table s (i + 1) (reached + more) (sum + d) (max greatest d)
unfolding shown one_for steps_for
tally_take table s i reached sum greatest d more T e ne l m one =
    let b : nat_eq (get_or table i 0) unseen ≡ false = ne_eqb _ _ (λ x. ne (e ∙ x)) in
    record {
      reached_is = rw (add-one, b) (omega (arith, T.reached_is, m));
      sum_is = rw (add-one, b) (omega (arith, T.sum_is, e));
      greatest_is = rw (add-one, b, ← e) (omega (arith, T.greatest_is));
      few = omega (arith, T.few, one);
      low = omega (arith, T.low);
      small = omega (arith, T.small);
    }

-- the same with the three numbers as the code has them
pub tally_took : (table : List ℕ) (s i reached sum greatest d more reached' sum' greatest' : ℕ)
    → IsTally table s i reached sum greatest → d ≡ get_or table i 0 → d ≢ unseen → d < 20000
    → more ≡ cond (nat_eq i s) 0 1 → more ≤ 1 →
    reached' ≡ reached + more → sum' ≡ sum + d → greatest' ≡ max greatest d
    → IsTally table s (i + 1) reached' sum' greatest'
tally_took table s i reached sum greatest d more reached' sum' greatest' T e ne l m one p q r =
    let U = tally_take table s i reached sum greatest d more T e ne l m one in
    record {
      reached_is = p ∙ U.reached_is;
      sum_is = q ∙ U.sum_is;
      greatest_is = r ∙ U.greatest_is;
      few = omega (arith, p, U.few);
      low = omega (arith, q, U.low);
      small = omega (arith, r, U.small);
    }

-- the same of a vertex that is not reached
pub tally_skipped : (table : List ℕ) (s i reached sum greatest reached' sum' greatest' : ℕ)
    → IsTally table s i reached sum greatest → get_or table i 0 ≡ unseen → reached' ≡ reached
    → sum' ≡ sum
    → greatest' ≡ greatest → IsTally table s (i + 1) reached' sum' greatest'
tally_skipped table s i reached sum greatest reached' sum' greatest' T e p q r =
    let U = tally_skip table s i reached sum greatest T e in
    record {
      reached_is = p ∙ U.reached_is;
      sum_is = q ∙ U.sum_is;
      greatest_is = r ∙ U.greatest_is;
      few = omega (arith, p, U.few);
      low = omega (arith, q, U.low);
      small = omega (arith, r, U.small);
    }

-- at the end the three numbers are the value that the table shows
pub tally_value : (table : List ℕ) (s i n reached sum greatest' : ℕ)
    → IsTally table s i reached sum greatest' → i ≡ n → n ≤ 20000
    → tallies reached sum greatest' ≡ value_of (shown table) s n
tally_value table s i n reached sum greatest' T e few =
    same_tallies _ _ _ _ _ _
    (omega (arith, T.reached_is, T.few, ap (reached_of (shown table) s) e))
    (omega (arith, T.sum_is, T.low, ap (sum_of (shown table)) e))
    (omega (arith, T.greatest_is, T.small, ap (greatest_of (shown table)) e))

-- each entry of a table is the mark or small
pub table_small : (rows : List (List ℕ)) (s : ℕ) (table : List ℕ) → IsTable rows s table
    → length table ≤ 20000 → (t : ℕ) → t < length table → (get_or table t 0 ≡ unseen)
    ⊎ (get_or table t 0 < 20000)
table_small rows s table T few t l =
    elim (cases_eq (get_or table t 0) unseen) [
      | inl e ↦ inl e
      | inr ne ↦ let b = T.bounded t (omega (arith, T.same_length)) ne
          in inr (omega (arith, T.same_length))
    ]

-- what is not the mark is small
pub not_mark : (d : ℕ) → (d ≡ unseen) ⊎ (d < 20000) → (d ≡ unseen → ⊥) → d < 20000
not_mark d (inl e) ne = absurd (ne e)
not_mark d (inr l) ne = l

-- at first no vertex is appended
pub spots_none : (xs : List Spot) → xs ≡ xs ++ spots 0
unfolding spots
spots_none xs = sym (append-nil xs)

-- one more vertex is appended
pub spots_more : (xs ys zs : List Spot) (n : ℕ) → ys ≡ xs ++ spots n → zs ≡ ys ++ Vertex n ∷ []
    → zs ≡ xs
    ++ spots (n + 1)
unfolding spots
spots_more xs ys zs n p q =
    rw add-one (q ∙ ap (λ y. y ++ Vertex n ∷ []) p ∙ append_assoc xs (spots n) (Vertex n ∷ []))

-- there are as many items as vertices
pub length-spots : (n : ℕ) → length (spots n) ≡ n
unfolding spots
length-spots zero = refl
length-spots (suc n) = omega (arith, length-append (spots n) (Vertex n ∷ []), length-spots n)
