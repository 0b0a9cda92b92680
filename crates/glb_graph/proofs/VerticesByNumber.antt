-- The vertices below the root, by their numbers.
use Rattle.std.proofs.Common.{◌≡◌, ℕ, zero, suc, ◌<◌, ◌≤◌, ◌∷◌, [], List, length, get_or, Some, slice_get, ap, ◌∙◌, sym, arith, inl, inr}
use Rattle.std.proofs.lemmas.Bool.{cases_lt}
use Rattle.std.proofs.lemmas.List.{get_or_append_left, get_or_at}
use Rattle.std.proofs.lemmas.Option.{slice_get-get_or}
use Rattle.glb_graph.specs.declared.dist.Spot.{Spot}
use Rattle.glb_graph.specs.declared.dist.Spot.TheVariants.{Root, Vertex}
use Rattle.glb_graph.specs.Spots.{spots, spot_children}
use Rattle.glb_graph.proofs.ValueFacts.{length-spots}

-- the vertex at a place is that of this number
spot_read : (n number : ℕ) → number < n → get_or (spots n) number Root ≡ Vertex number
unfolding spots
spot_read zero number lt = absurd (omega arith)
spot_read (suc n) number lt = elim (cases_lt number n) [
  | inl below ↦
      get_or_append_left (spots n) (Vertex n ∷ []) Root number (omega (arith, length-spots n))
      ∙ spot_read n number below
  | inr above ↦
      let here : number ≡ n = omega arith in
      let long : length (spots n) ≡ number = omega (arith, length-spots n) in
      get_or_at (spots n) (Vertex n) [] Root number long ∙ ap Vertex (sym here)
]

-- the child of an item by its number
pub child_at : (rows : List (List ℕ)) (x : Spot) (number : ℕ)
    → number < length (spot_children rows x)
    → slice_get (spot_children rows x) number ≡ Some (Vertex number)
child_at rows Root number lt =
    let below : number < length rows = omega (arith, length-spots (length rows)) in
    slice_get-get_or (spots (length rows)) number Root lt
    ∙ ap Some (spot_read (length rows) number below)
child_at rows (Vertex v) number lt = absurd (omega arith)

-- an item has at most as many children as there are vertices
pub children_within : (rows : List (List ℕ)) (x : Spot)
    → length (spot_children rows x) ≤ length rows
children_within rows Root = omega (arith, length-spots (length rows))
children_within rows (Vertex v) = omega arith
