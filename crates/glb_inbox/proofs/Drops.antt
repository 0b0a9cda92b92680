-- A list that is dealt from its front.
use Rattle.std.proofs.lemmas.List.{map-append}
use Rattle.atomic_table.specs.Seated.{TableId}
use Rattle.atomic_table.specs.declared.shared.Seat.{Seat}
use Rattle.glb_inbox.specs.declared.view.Member.{Member}
use Rattle.glb_inbox.specs.inner.Dealt.{named, seat_of, AreDealt}
use Rattle.atomic_table.specs.Table.{Me}
use Rattle.std.proofs.Common.{◌≡◌, ℕ, zero, suc, ◌+◌, ◌<◌, List, [], ◌∷◌, ◌++◌, take, drop, length}
use Rattle.std.proofs.Common.{refl, ap, ◌∙◌, sym, arith, add-one}

pub drop_some : {A : Type 0} (l : List A) (i : ℕ) → i < length l → (x : A) × (xs : List A)
    × (drop i l ≡ x ∷ xs)
drop_some [] i h = absurd (omega arith)
drop_some (x ∷ xs) zero h = (x, xs, refl)
drop_some (x ∷ xs) (suc i) h = drop_some xs i (omega arith)

pub drop_next : {A : Type 0} (l : List A) (i : ℕ) (x : A) (xs : List A) → drop i l ≡ x ∷ xs
    → (drop (i + 1) l ≡ xs) × (take (i + 1) l ≡ take i l ++ x ∷ [])
drop_next {A = A} l i x xs e = rw add-one (at l i e)
  where
    at : (l : List A) (i : ℕ) → drop i l ≡ x ∷ xs → (drop (suc i) l ≡ xs)
        × (take (suc i) l ≡ take i l ++ x ∷ [])
    at [] zero e = cc
    at [] (suc i) e = cc
    at (y ∷ l) zero e = let h : y ≡ x = cc in let t : l ≡ xs = cc in (t, ap (λ z. z ∷ []) h)
    at (y ∷ l) (suc i) e = let h = at l i e in (h.0, ap (λ ys. y ∷ ys) h.1)

pub dealt_more : {I : Type 0} (id : TableId) (l : List (Member I))
    (seats : List (Seat ℕ (List (Member I)))) (seat : Seat ℕ (List (Member I))) (x : Member I)
    → AreDealt id l seats → seat.table_id ≡ id → seat.me ≡ (x ∷ [], [])
    → AreDealt id (l ++ x ∷ []) (seats ++ seat ∷ [])
dealt_more {I = I} id l seats seat x were of me =
    let last : ◌≡◌ {A = List (TableId × Me ℕ (List (Member I)))} ((seat.table_id, seat.me) ∷ [])
    ((id, (x ∷ [], [])) ∷ []) = λ i. (of i, me i) ∷ [] in
    map-append named seats (seat ∷ []) ∙ (λ i. were i ++ last i) ∙ sym
    (map-append (seat_of id) l (x ∷ []))
