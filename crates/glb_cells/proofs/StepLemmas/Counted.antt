-- Each play is one step that is counted.
use Rattle.std.proofs.Common.{◌≡◌, ℕ, subst, List, [], ◌∷◌, map, Option, refl, sym, ap, ◌∙◌}
use Rattle.glb_place.specs.declared.record.Record.{Record}
use Rattle.glb_cells.specs.declared.view.View.{View}
use Rattle.glb_cells.specs.Plays.{Seated, Stepped, IsCounted, stepped}

module _ {B Q I : Type 0} where
  pub counted : (k : ℕ) (own : View Q I → Record I) (hand : View Q I → Option (ℕ × List I))
      (slots : List (ℕ × Option B))
      (m m' : Seated B Q I) (r : View Q I) → m.0 ≡ r ∷ [] → Stepped k own hand slots m m'
      → IsCounted k r m'
  counted k own hand slots m m' r one st = (
    stepped k (own r) (hand r) r,
    ap (λ (x : Seated B Q I). x.0) st ∙ ap (map (λ x. stepped k (own x) (hand x) x)) one,
    refl,
    refl,
    refl,
  )

module _ {B Q I : Type 0} where
  -- by the one view that the seat has
  pub counted_of : (m : Seated B Q I) (r r₀ : View Q I) → m.0 ≡ r ∷ [] → m.0 ≡ r₀ ∷ []
      → (F : View Q I → Type 0) → F r₀ → F r
  counted_of m r r₀ one is F f = let e : r₀ ∷ [] ≡ r ∷ [] = sym is ∙ one in
      let q : r₀ ≡ r = cc in subst F q f
