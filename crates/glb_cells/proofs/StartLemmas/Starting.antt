-- The cells and views of the start show the Start.
use Rattle.std.proofs.Common.{◌≡◌, ◌≢◌, ℕ, zero, suc, ◌<◌, ◌≤◌, Bool, true, false, cond, List, [], ◌∷◌, ◌++◌, map, length, replicate, get_or, refl, sym, ap, ◌∙◌, subst, ⊎_elim, arith, length-append}
use Rattle.std.proofs.lemmas.Bool.{cases_eq}
use mathlib.Core.Option.{some, some-injective, some-ne-none}
use lib.ListN.{get_elem?}
use Rattle.glb_rules.specs.World.{WorldEdge, Idle, Setup, has_edge}
use Rattle.glb_rules.specs.Events.{name_of}
use Rattle.glb_rules.specs.Events.{same_name}
use Rattle.glb_cells.specs.EdgeNames.{at_name}
use Rattle.glb_rules.proofs.EdgeLemmas.Named.{same_name_self, same_name_else, name_is}
use Rattle.glb_rules.proofs.Invariant.Frames.{Else, name_cases}
use Rattle.glb_rules.specs.declared.local.EdgeName.{EdgeName}
use Rattle.glb_rules.specs.declared.kinds.Kind.{Kind}
use Rattle.glb_rules.specs.declared.kinds.Edge.TheVariants as seen
use Rattle.glb_place.specs.Records.{known_at}
use Rattle.glb_cells.specs.declared.view.View.{View}
use Rattle.glb_cells.specs.Shows.{Fixed, Sound}
use Rattle.glb_cells.specs.Starts.{is_held, first_known, first_view, views_below}
use Rattle.glb_cells.proofs.StepLemmas.ListFacts.{member, below}

-- whether the edge has a name in the list
abbrev pub listed : List EdgeName → Kind → ℕ → ℕ → Bool
listed [] k t v = false
listed (n ∷ ns) k t v = cond (same_name n k t v) true (listed ns k t v)

pub same_true : (n : EdgeName) (k : Kind) (t v : ℕ) → n ≡ name_of k t v → same_name n k t v ≡ true
same_true n k t v e = subst (λ m. same_name m k t v ≡ true) (sym e) (same_name_self (name_of k t v))

module _ {I : Type 0} (f : EdgeName → WorldEdge I) where
  -- the states that f gives the names of a list
  pub at_made : (ns : List EdgeName) (k : Kind) (t v : ℕ)
      → at_name ns (map f ns) k t v ≡ cond (listed ns k t v) (f (name_of k t v)) Idle
  at_made [] k t v = refl
  at_made (n ∷ ns) k t v = ⊎_elim
      (λ (same : (k ≡ n.kind) × (t ≡ n.thief) × (v ≡ n.victim)). let e : n ≡ name_of k t v =
      sym (name_is (name_of k t v) n same) in rw (same_true n k t v e) (ap f e))
      (λ (d : Else n k t v). rw (same_name_else n k t v d) (at_made ns k t v))
      (name_cases n k t v)

pub listed_at : (ns : List EdgeName) (k : Kind) (t v : ℕ) → listed ns k t v ≡ true → (i : ℕ)
    × (get_elem? ns i ≡ some (name_of k t v))
listed_at [] k t v h = absurd (cc)
listed_at (n ∷ ns) k t v h = ⊎_elim
    (λ (same : (k ≡ n.kind) × (t ≡ n.thief) × (v ≡ n.victim)).
    (0, ap some (sym (name_is (name_of k t v) n same))))
    (λ (d : Else n k t v). let q = listed_at ns k t v (rw (same_name_else n k t v d) at h) in
    (suc q.0, q.1))
    (name_cases n k t v)

pub at_listed : (ns : List EdgeName) (k : Kind) (t v i : ℕ) → get_elem? ns i ≡ some (name_of k t v)
    → listed ns k t v ≡ true
at_listed [] k t v i e = absurd (some-ne-none (name_of k t v) (sym e))
at_listed (n ∷ ns) k t v zero e = rw (same_true n k t v (some-injective n (name_of k t v) e)) refl
at_listed (n ∷ ns) k t v (suc i) e = by (same_name n k t v) (at_listed ns k t v i e)
  where
    by : (b : Bool) → listed ns k t v ≡ true → cond b true (listed ns k t v) ≡ true
    by true h = refl
    by false h = h

pub map_twice : {A C D : Type 0} (f : C → D) (g : A → C) (xs : List A)
    → map f (map g xs) ≡ map (λ x. f (g x)) xs
map_twice f g [] = refl
map_twice f g (x ∷ xs) = ap (λ l. f (g x) ∷ l) (map_twice f g xs)

pub length_map : {A C : Type 0} (f : A → C) (l : List A) → length (map f l) ≡ length l
length_map f [] = refl
length_map f (x ∷ l) = ap suc (length_map f l)

pub from_map : {A C : Type 0} (f : A → C) (l : List A) (i : ℕ) (a : A) (c : C) → get_elem? l i ≡ some a
    → get_elem? (map f l) i ≡ some c → f a ≡ c
from_map f [] i a c e g = absurd (some-ne-none a (sym e))
from_map f (x ∷ l) zero a c e g = ap f (sym (some-injective x a e)) ∙ some-injective (f x) c g
from_map f (x ∷ l) (suc i) a c e g = from_map f l i a c e g

module _ (s : Setup) where
  pub known_none : (n : EdgeName) (ns : List EdgeName) → is_held s n ≡ false
      → known_at (first_known s ns) n.kind n.thief n.victim ≡ seen.Idle
  known_none n [] d = refl
  known_none n (x ∷ ns) d = by (known_none n ns d) (is_held s x) refl
    where
      by : known_at (first_known s ns) n.kind n.thief n.victim ≡ seen.Idle → (b : Bool)
          → is_held s x ≡ b → known_at (cond b
          (record { name = x; edge = seen.Refused } ∷ first_known s ns) (first_known s ns)) n.kind
          n.thief n.victim ≡ seen.Idle
      by ih false q = ih
      by ih true q = ⊎_elim
          (λ (same : (n.kind ≡ x.kind) × (n.thief ≡ x.thief) × (n.victim ≡ x.victim)). let z : n ≡
          x = name_is n x same in let y : is_held s n ≡ true = ap (is_held s) z
          ∙ q in absurd (cc))
          (λ (e : Else x n.kind n.thief n.victim). rw (same_name_else x n.kind n.thief n.victim e)
          ih)
          (name_cases x n.kind n.thief n.victim)

  -- what is known at the start of an edge of the list
  pub known_made : (ns : List EdgeName) (n : EdgeName) (i : ℕ) → get_elem? ns i ≡ some n
      → known_at (first_known s ns) n.kind n.thief n.victim ≡ cond (is_held s n) seen.Refused
      seen.Idle
  known_made [] n i e = absurd (some-ne-none n (sym e))
  known_made (m ∷ ns) n zero e = subst (λ z. known_at (first_known s (z ∷ ns)) n.kind n.thief
      n.victim ≡ cond (is_held s n) seen.Refused seen.Idle) (sym (some-injective m n e))
      (here (is_held s n) refl)
    where
      here : (b : Bool) → is_held s n ≡ b → known_at
          (cond (is_held s n) (record { name = n; edge = seen.Refused } ∷ first_known s ns)
          (first_known s ns)) n.kind n.thief n.victim ≡ cond (is_held s n) seen.Refused seen.Idle
      here true q = rw q (rw (same_name_self n) refl)
      here false q = rw q (known_none n ns q)
  known_made (m ∷ ns) n (suc i) e = by (known_made ns n i e) (is_held s m) refl
    where
      by : known_at (first_known s ns) n.kind n.thief n.victim ≡ cond (is_held s n) seen.Refused
          seen.Idle → (b : Bool) → is_held s m ≡ b
          → known_at (cond b (record { name = m; edge = seen.Refused } ∷ first_known s ns)
          (first_known s ns)) n.kind n.thief n.victim ≡ cond (is_held s n) seen.Refused seen.Idle
      by ih false q = ih
      by ih true q = ⊎_elim
          (λ (same : (n.kind ≡ m.kind) × (n.thief ≡ m.thief) × (n.victim ≡ m.victim)). let z : n ≡
          m = name_is n m same in
          rw (ap (is_held s) z ∙ q) (rw (same_true m n.kind n.thief n.victim (sym z)) refl))
          (λ (d : Else m n.kind n.thief n.victim). rw (same_name_else m n.kind n.thief n.victim d)
          ih)
          (name_cases m n.kind n.thief n.victim)

pub get_left : {C : Type 0} (xs ys : List C) (i : ℕ) (d : C) → i < length xs
    → get_or (xs ++ ys) i d ≡ get_or xs i d
get_left [] ys i d l = absurd (omega arith)
get_left (x ∷ xs) ys zero d l = refl
get_left (x ∷ xs) ys (suc i) d l = get_left xs ys i d (omega arith)

pub get_at : {C : Type 0} (xs : List C) (y : C) (i : ℕ) (d : C) → i ≡ length xs
    → get_or (xs ++ y ∷ []) i d ≡ y
get_at [] y zero d e = refl
get_at [] y (suc i) d e = absurd (omega arith)
get_at (x ∷ xs) y zero d e = absurd (omega arith)
get_at (x ∷ xs) y (suc i) d e = get_at xs y i d (omega arith)

pub get_past : {C : Type 0} (xs : List C) (i : ℕ) (d : C) → length xs ≤ i → get_or xs i d ≡ d
get_past [] i d l = refl
get_past (x ∷ xs) zero d l = absurd (omega arith)
get_past (x ∷ xs) (suc i) d l = get_past xs i d (omega arith)

pub map_append : {C D : Type 0} (f : C → D) (xs ys : List C) → map f (xs ++ ys) ≡ map f xs ++ map f ys
map_append f [] ys = refl
map_append f (x ∷ xs) ys = ap (λ l. f x ∷ l) (map_append f xs ys)

pub same_n : {A : Type 0} (n : ℕ) (a : A) (xs : List A) → length xs ≡ n
    → ((i : ℕ) (b : A) → get_elem? xs i ≡ some b → b ≡ a) → xs ≡ replicate n a
same_n zero a [] l h = refl
same_n zero a (x ∷ xs) l h = absurd (omega arith)
same_n (suc n) a [] l h = absurd (omega arith)
same_n (suc n) a (x ∷ xs) l h = λ i. h 0 x refl i ∷ same_n n a xs (omega arith)
    (λ j b e. h (suc j) b e) i

module _ {B Q I : Type 0} (Γ : Fixed B Q I) where
  pub long_views : (n : ℕ) → length (views_below Γ n) ≡ n
  long_views zero = refl
  long_views (suc n) = length-append (views_below Γ n) (first_view Γ n ∷ [])
      ∙ (let e = long_views n in omega arith)

  pub view_at_start : (n p : ℕ) (r : View Q I) → get_elem? (views_below Γ n) p ≡ some r
      → r ≡ first_view Γ p
  view_at_start zero p r e = absurd (some-ne-none r (sym e))
  view_at_start (suc n) p r e = ⊎_elim
      (λ (q : p ≡ n). sym (member (views_below Γ n ++ first_view Γ n ∷ []) p r r e)
      ∙ get_at (views_below Γ n) (first_view Γ n) p r (q ∙ sym (long_views n))
      ∙ ap (first_view Γ) (sym q))
      (λ (q : p ≢ n).
      let l : p < length (views_below Γ n ++ first_view Γ n ∷ []) =
      below (views_below Γ n ++ first_view Γ n ∷ []) p r e in
      let a = length-append (views_below Γ n) (first_view Γ n ∷ []) in let b = long_views n in
      view_at_start n p r (still (views_below Γ n) (first_view Γ n ∷ []) p r (omega arith) e))
      (cases_eq p n)
    where
      still : {C : Type 0} (xs ys : List C) (i : ℕ) (c : C) → i < length xs
          → get_elem? (xs ++ ys) i ≡ some c → get_elem? xs i ≡ some c
      still [] ys i c l e = absurd (omega arith)
      still (x ∷ xs) ys zero c l e = e
      still (x ∷ xs) ys (suc i) c l e = still xs ys i c (omega arith) e

  -- what is known at the start is there
  pub known_listed : Sound Γ → (k : Kind) (t v : ℕ)
      → known_at (first_known Γ.lines Γ.names) k t v ≢ seen.Idle → has_edge Γ.lines k t v ≡ true
  known_listed sound k t v d = let i = listed_at Γ.names k t v (listed_by Γ.names d) in
      (sound.named.there i.0 (name_of k t v) i.1).2
    where
      listed_by : (ns : List EdgeName) → known_at (first_known Γ.lines ns) k t v ≢ seen.Idle
          → listed ns k t v ≡ true
      listed_by [] d = absurd (d refl)
      listed_by (n ∷ ns) d = by (same_name n k t v) refl (is_held Γ.lines n) refl
          (λ f. listed_by ns f)
        where
          by : (s : Bool) → same_name n k t v ≡ s → (b : Bool) → is_held Γ.lines n ≡ b
              → (known_at (first_known Γ.lines ns) k t v ≢ seen.Idle → listed ns k t v ≡ true)
              → listed (n ∷ ns) k t v ≡ true
          by true e b q ih = rw e refl
          by false e true q ih = rw e (ih (λ z. d (rw (q, e) z)))
          by false e false q ih = rw e (ih (λ z. d (rw q z)))
