-- What is so when the object is made.
use Rattle.std.proofs.Common.{◌≡◌, inl, inr, ℕ, eqb, ◌+◌, ◌-◌, ◌*◌, ◌<◌, ◌≤◌, Bool, true, false, cond, List, [], ◌∷◌, map, length, get_or, replicate, None, refl, sym, ap, ◌∙◌, ◌≢◌, arith, true≢false}
use Rattle.std.proofs.lemmas.Bool.{cases_lt, le-ltb, cond-true, cond-false, eq-eqb, ne_eqb}
use Rattle.std.specs.declared.snapshot.Snapshot.{Snapshot}
use Rattle.atomic_table.specs.Table.{opening}
use Rattle.glb_cube.specs.Lines.{Cube, IsCube}
use Rattle.glb_laws.specs.Numbers.{has_number}
use Rattle.glb_cube.specs.GraphLaws.{GraphLaws}
use Rattle.glb_cube.proofs.GraphFacts.{graph_laws}
use Rattle.glb_laws.specs.Sums.{sum_to}
use Rattle.glb_rules.specs.World.{has_line}
use Rattle.glb_rules.specs.Events.{name_of}
use Rattle.glb_rules.specs.declared.params.Params.{Params}
use Rattle.glb_rules.specs.Setups.{IsWithinLimits, tries_of, IsProper, has_items, bit}
use Rattle.glb_core.proofs.Lifelines.Setups.{proper, outs_are}
use Rattle.glb_cells.proofs.StepLemmas.EdgeFacts.{names_named}
use Rattle.glb_rules.specs.declared.local.EdgeName.{EdgeName}
use Rattle.glb_rules.specs.declared.kinds.Kind.TheVariants as kind
use Rattle.glb_cells.specs.declared.key.Start.{Start}
use Rattle.glb_cells.specs.Words.{word_of}
use Rattle.glb_cells.specs.Shows.{Fixed, Sound, Shows, Told}
use Rattle.glb_cells.specs.Starts.{first_view, first_views, first_cell, setup_from}
use Rattle.glb_cells.specs.inner.Numbers.{filled, edge_words, HasNumbers}
use Rattle.glb_cells.proofs.StartLemmas.Starting.{get_past, length_map}
use Rattle.glb_cells.proofs.StartLemmas.Rows.{map_of_map}
use Rattle.glb_cells.proofs.StartLemmas.Numbering.{filled_has, filled_long, words_are}
use Rattle.glb_cells.proofs.StartLemmas.Opens.{opens}

-- each line's number is in the table that was filled
pub numbers_are : (c : Cube) → IsCube c → (xs : List ℕ) → xs ≡ filled c c.places → HasNumbers c xs
numbers_are c i xs e =
    let g : GraphLaws c = graph_laws c i in record {
      long = ap length e ∙ filled_long c c.places;
      number = λ t j v l m. ap (λ ys. get_or ys (t * c.places + v) 0) e
          ∙ filled_has c (λ t v h s. g.near t v h) g.once c.places (omega arith) t j v l m;
    }

-- the tries of a run of one place, and of one of more
pub tries_one : (q : Params) → q.places ≡ 1 → tries_of q ≡ 0
tries_one q e = cond-true _ _ _ (eq-eqb q.places 1 e)

pub tries_more : (q : Params) → q.places ≢ 1 → tries_of q ≡ q.tries
tries_more q d = cond-false _ _ _ (ne_eqb q.places 1 d)

pub tries_few : (q : Params) → q.tries ≤ 64 → tries_of q ≤ 64
tries_few q l = by (eqb q.places 1)
  where
    by : (b : Bool) → cond b 0 q.tries ≤ 64
    by true = omega arith
    by false = l

module _ {B Q I : Type 0} (items : B → List I) (fits : B → Q → Type 0) (children : Q → I → List I)
    (key : Start Q B) (cube : IsCube key.lines.value)
    (limits : IsWithinLimits key.params) (same : key.params.places ≡ key.lines.value.places)
    (bags : List B) (are : map (λ (s : Snapshot B). s.value) key.bags.items ≡ bags)
    (wide : length bags ≡ key.lines.value.places) where
  abbrev Γ : Fixed B Q I
  Γ = setup_from items fits children key

  pub sound_is : Sound Γ
  sound_is =
      let p : IsProper Γ.lines = proper key.lines.value key.params Γ.lines.awake cube same
      limits.batch.0 in record {
        proper = p;
        awake = λ p l. refl;
        named = names_named Γ.lines p;
        few = let l = limits.places.1 in omega arith;
        tries = tries_few key.params limits.tries;
        batch = limits.batch.1;
        limit = limits.limit.1;
      }

  -- the lists of the bags
  bags_are : map (λ (s : Snapshot B). items s.value) key.bags.items ≡ map items bags
  bags_are = map_of_map items (λ (s : Snapshot B). s.value) key.bags.items ∙ ap (map items) are

  bags_end : (p : ℕ) → Γ.lines.places ≤ p → Γ.bags p ≡ []
  bags_end p l = ap (λ xs. get_or xs p []) bags_are
      ∙ get_past (map items bags) p [] (let e = length_map items bags in omega arith)

  no_line : (t v : ℕ) → key.lines.value.places ≤ t → has_line Γ.lines t v ≡ false
  unfolding has_line
  no_line t v over = ap (has_number v) (cond-false _ _ _ (le-ltb t key.lines.value.places over))

  lines_end : (t v : ℕ) → has_line Γ.lines t v ≡ true → t < Γ.lines.places
  lines_end t v h = elim (cases_lt t key.lines.value.places) [
    | inl s ↦ s
    | inr over ↦ absurd (true≢false (sym h ∙ no_line t v over))
  ]

  told : (p : ℕ) → Told Γ (first_view Γ p)
  told p = record { program = refl; lines = refl; limit = refl }

  faces : map (λ n. word_of (first_cell Γ n)) Γ.names ≡ edge_words key.lines.value Γ.lines.awake
  faces = words_are Γ.lines key.lines.value refl (outs_are key.lines.value key.params Γ.lines.awake)
      (λ n. word_of (first_cell Γ n)) steal line
    where
      steal : (n : EdgeName) → n.kind ≡ kind.Steal → word_of (first_cell Γ n) ≡ 0
      steal n e = rw e refl

      line : (t v : ℕ) → word_of (first_cell Γ (name_of kind.Line t v)) ≡ cond (Γ.lines.awake t) 0 2
      line t v = by (Γ.lines.awake t) refl
        where
          by : (b : Bool) → Γ.lines.awake t ≡ b
              → word_of (first_cell Γ (name_of kind.Line t v)) ≡ cond (Γ.lines.awake t) 0 2
          by true e = rw e refl
          by false e = rw e refl

  pub words_made : (live : ℕ) (ws : List ℕ) → ws ≡ live ∷ 0 ∷ 0 ∷ edge_words key.lines.value
      (λ p. has_items (get_or (map items bags) p []))
      → ws ≡ live ∷ 0 ∷ 0 ∷ map (λ n. word_of (first_cell Γ n)) Γ.names
  words_made live ws e =
      e ∙ ap (λ (xs : List (List I)). live ∷ 0 ∷ 0 ∷ edge_words key.lines.value
      (λ p. has_items (get_or xs p []))) (sym bags_are)
      ∙ ap (λ xs. live ∷ 0 ∷ 0 ∷ xs) (sym faces)

  pub count_is : (live : ℕ) (ws : List ℕ) → ws ≡ live ∷ 0 ∷ 0 ∷ edge_words key.lines.value
      (λ p. has_items (get_or (map items bags) p [])) → length ws ≡ 3 + length Γ.names
  count_is live ws e = let a : length ws ≡ length
      (live ∷ 0 ∷ 0 ∷ map (λ n. word_of (first_cell Γ n)) Γ.names) =
      ap length (words_made live ws e) in let b = length_map (λ n. word_of (first_cell Γ n)) Γ.names in
      omega arith

  pub starts_as : (live : ℕ) → live ≡ sum_to (length bags)
      (λ p. bit (has_items (get_or (map items bags) p [])))
      → (ws : List ℕ) → ws ≡ live ∷ 0 ∷ 0 ∷ edge_words key.lines.value
      (λ p. has_items (get_or (map items bags) p []))
      → (k : ℕ) → k ≡ length ws - 3
      → Shows Γ (opening ws (replicate k None) (first_views Γ))
  starts_as live is ws ws_are k k_is =
      opens Γ sound_is (λ p. refl) bags_end lines_end told live
      (is ∙ (λ i. sum_to (wide i) (λ p. bit (has_items (get_or (sym bags_are i) p [])))))
      ws (words_made live ws ws_are) k (let e = count_is live ws ws_are in omega arith)
