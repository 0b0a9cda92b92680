-- The children whose numbers are in a row.
use Rattle.std.proofs.Common.{◌≡◌, ℕ, zero, suc, ◌+◌, ◌<◌, List, [], ◌∷◌, ◌++◌, length, slice_index_or, map, refl, ap, ap₂, ◌∙◌, arith, append_assoc}
use Rattle.std.specs.List.{range_with_len}
use Rattle.glb_uts.specs.declared.node.Node.{Node}
use Rattle.glb_uts.specs.Descriptors.{child_descriptor}
use Rattle.glb_uts.specs.Binomial.{child}
use Rattle.glb_uts.specs.inner.Siblings.{node_at}

-- a row and the row that follows it are one
one_row : {X : Type 0} (f : ℕ → X) (a n b m k : ℕ) → a + n ≡ b → n + m ≡ k
    → map f (range_with_len a n) ++ map f (range_with_len b m) ≡ map f (range_with_len a k)
one_row f a zero b m k e s = ap₂ (λ x y. map f (range_with_len x y)) (omega arith) (omega arith)
one_row f a (suc n) b m zero e s = absurd (omega arith)
one_row f a (suc n) b m (suc k) e s =
    ap (λ xs. f a ∷ xs) (one_row f (a + 1) n b m k (omega arith) (omega arith))

-- one row that is appended, and then the row that follows it
pub rows_appended : {X : Type 0} (f : ℕ → X) (before between after : List X) (a n b m k : ℕ)
    → a + n ≡ b
    → n + m ≡ k → between ≡ before ++ map f (range_with_len a n)
    → after ≡ between ++ map f (range_with_len b m) → after ≡ before ++ map f (range_with_len a k)
rows_appended f before between after a n b m k e s first second =
    second ∙ ap (λ l. l ++ map f (range_with_len b m)) first
    ∙ append_assoc before (map f (range_with_len a n)) (map f (range_with_len b m))
    ∙ ap (λ l. before ++ l) (one_row f a n b m k e s)

-- nodes with the descriptors of the children from `first` on are those children
pub children_by_descriptor : (node : Node) (first n : ℕ) (descriptors : List (List ℕ))
    → length descriptors ≡ n
    → ((j : ℕ) → j < n → slice_index_or descriptors j []
    ≡ child_descriptor node.descriptor (first + j))
    → map (node_at (node.depth + 1)) descriptors ≡ map (child node) (range_with_len first n)
children_by_descriptor node first zero [] l h = refl
children_by_descriptor node first zero (d ∷ ds) l h = absurd (omega arith)
children_by_descriptor node first (suc n) [] l h = absurd (omega arith)
children_by_descriptor node first (suc n) (d ∷ ds) l h =
    let here : first + 0 ≡ first = omega arith in
    ap₂ (λ x xs. x ∷ xs)
    (ap (node_at (node.depth + 1)) (h 0 (omega arith)) ∙ ap (child node) here)
    (children_by_descriptor node (first + 1) n ds (omega arith) (λ j lt.
    let next : first + suc j ≡ first + 1 + j = omega arith in
    h (suc j) (omega arith) ∙ ap (child_descriptor node.descriptor) next))
