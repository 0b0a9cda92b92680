-- How the lines of a report grow, piece by piece.
use Rattle.std.proofs.Common.{◌≡◌, ℕ, ◌+◌, ◌<◌, ◌≤◌, List, [], ◌∷◌, ◌++◌, length, get_or, drop}
use Rattle.std.proofs.Common.{refl, sym, ap, ◌∙◌, append_assoc, append-nil}
use Rattle.std.proofs.lemmas.List.{drop_more, drop_all}
use Rattle.glb_stats.specs.declared.counters.Counters.{Counters}
use Rattle.glb_stats.specs.declared.counter.Counter.{Counter}
use Rattle.glb_stats.specs.Counter.{name_of}
use Rattle.glb_stats.specs.Text.{pair_text, numbers_text, place_text, places_text}
use Rattle.glb_stats.specs.Text.{rooted_place_text, rooted_places_text}

-- no counter is left
numbers-none : (f : Counter → ℕ) (ks : List Counter) (i : ℕ) → length ks ≤ i
    → numbers_text f (drop i ks) ≡ []
unfolding numbers_text
numbers-none f ks i h = rw (drop_all i ks h) refl

-- the first of the counters that are left
numbers-step : (f : Counter → ℕ) (ks : List Counter) (i : ℕ) (d : Counter) → i < length ks
    → numbers_text f (drop i ks)
    ≡ pair_text (name_of (get_or ks i d)) (f (get_or ks i d)) ++ numbers_text f (drop (i + 1) ks)
unfolding numbers_text
numbers-step f ks i d h = rw (drop_more ks i d h) refl

-- a counter was written
pub written_pair : (f : Counter → ℕ) (ks : List Counter) (i : ℕ) (d : Counter)
    (out out' whole name : List ℕ) (n : ℕ)
    → i < length ks → name ≡ name_of (get_or ks i d) → n ≡ f (get_or ks i d)
    → out' ≡ out ++ pair_text name n → out ++ numbers_text f (drop i ks) ≡ whole
    → out' ++ numbers_text f (drop (i + 1) ks) ≡ whole
written_pair f ks i d out out' whole name n h named number e so_far =
    let rest : List ℕ = numbers_text f (drop (i + 1) ks) in
    ap (λ l. l ++ rest) e ∙ append_assoc out (pair_text name n) rest
    ∙ ap (λ l. out ++ (pair_text l n ++ rest)) named
    ∙ ap (λ m. out ++ (pair_text (name_of (get_or ks i d)) m ++ rest)) number
    ∙ ap (λ l. out ++ l) (sym (numbers-step f ks i d h)) ∙ so_far

-- all counters were written
pub written_all : (f : Counter → ℕ) (ks : List Counter) (i : ℕ) (out whole : List ℕ) → length ks ≤ i
    → out ++ numbers_text f (drop i ks) ≡ whole → out ≡ whole
written_all f ks i out whole h so_far =
    sym (append-nil out) ∙ ap (λ l. out ++ l) (sym (numbers-none f ks i h)) ∙ so_far

-- no place is left
places-none : (p : ℕ) (cs : List Counters) (i : ℕ) → length cs ≤ i → places_text p (drop i cs) ≡ []
unfolding places_text
places-none p cs i h = rw (drop_all i cs h) refl

-- the first of the places that are left
places-step : (p : ℕ) (cs : List Counters) (i : ℕ) (d : Counters) → i < length cs
    → places_text p (drop i cs) ≡ place_text p (get_or cs i d) ++ places_text (p + 1)
    (drop (i + 1) cs)
unfolding places_text
places-step p cs i d h = rw (drop_more cs i d h) refl

-- a place was written
pub written_place : (p : ℕ) (cs : List Counters) (i : ℕ) (d : Counters) (out out' whole : List ℕ)
    → i < length cs
    → out' ≡ out ++ place_text p (get_or cs i d) → out ++ places_text p (drop i cs) ≡ whole
    → out' ++ places_text (p + 1) (drop (i + 1) cs) ≡ whole
written_place p cs i d out out' whole h e so_far =
    let rest : List ℕ = places_text (p + 1) (drop (i + 1) cs) in
    ap (λ l. l ++ rest) e ∙ append_assoc out (place_text p (get_or cs i d)) rest
    ∙ ap (λ l. out ++ l) (sym (places-step p cs i d h)) ∙ so_far

-- all places were written
pub written_places : (p : ℕ) (cs : List Counters) (i : ℕ) (out whole : List ℕ) → length cs ≤ i
    → out ++ places_text p (drop i cs) ≡ whole → out ≡ whole
written_places p cs i out whole h so_far =
    sym (append-nil out) ∙ ap (λ l. out ++ l) (sym (places-none p cs i h)) ∙ so_far

-- no place is left
rooted-none : (p : ℕ) (cs : List Counters) (rs : List ℕ) (i : ℕ) → length cs ≤ i
    → rooted_places_text p (drop i cs) (drop i rs) ≡ []
unfolding rooted_places_text
rooted-none p cs rs i h = rw (drop_all i cs h) refl

-- the first of the places that are left, with its roots
rooted-step : (p : ℕ) (cs : List Counters) (rs : List ℕ) (i : ℕ) (d : Counters) (e : ℕ)
    → i < length cs → i < length rs
    → rooted_places_text p (drop i cs) (drop i rs)
    ≡ rooted_place_text p (get_or cs i d) (get_or rs i e)
    ++ rooted_places_text (p + 1) (drop (i + 1) cs) (drop (i + 1) rs)
unfolding rooted_places_text
rooted-step p cs rs i d e h k = rw (drop_more cs i d h, drop_more rs i e k) refl

-- a place was written with its roots
pub written_rooted_place : (p : ℕ) (cs : List Counters) (rs : List ℕ) (i : ℕ) (d : Counters) (e : ℕ)
    (out out' whole : List ℕ) → i < length cs → i < length rs
    → out' ≡ out ++ rooted_place_text p (get_or cs i d) (get_or rs i e)
    → out ++ rooted_places_text p (drop i cs) (drop i rs) ≡ whole
    → out' ++ rooted_places_text (p + 1) (drop (i + 1) cs) (drop (i + 1) rs) ≡ whole
written_rooted_place p cs rs i d e out out' whole h k f so_far =
    let rest : List ℕ = rooted_places_text (p + 1) (drop (i + 1) cs) (drop (i + 1) rs) in
    ap (λ l. l ++ rest) f
    ∙ append_assoc out (rooted_place_text p (get_or cs i d) (get_or rs i e)) rest
    ∙ ap (λ l. out ++ l) (sym (rooted-step p cs rs i d e h k)) ∙ so_far

-- all places were written with their roots
pub written_rooted_places : (p : ℕ) (cs : List Counters) (rs : List ℕ) (i : ℕ)
    (out whole : List ℕ) → length cs ≤ i
    → out ++ rooted_places_text p (drop i cs) (drop i rs) ≡ whole → out ≡ whole
written_rooted_places p cs rs i out whole h so_far =
    sym (append-nil out) ∙ ap (λ l. out ++ l) (sym (rooted-none p cs rs i h)) ∙ so_far

-- the whole text, in the order in which it is written
pub whole_text : (start head number places out total new : List ℕ)
    → out ≡ (((start ++ head) ++ number) ++ 10 ∷ []) ++ places → new ≡ out ++ total
    → new ≡ start ++ ((((head ++ number) ++ 10 ∷ []) ++ places) ++ total)
whole_text start head number places out total new e f = f ∙ ap (λ l. l ++ total) e
    ∙ simp append_assoc refl
