-- The distance as a function is the least length of a walk, in every graph within the limits.
use Rattle.std.proofs.Common.{◌≡◌, ◌≢◌, ℕ, zero, suc, ◌+◌, ◌<◌, ◌≤◌, ◌⊎◌, List, [], ◌∷◌, ◌++◌}
use Rattle.std.proofs.Common.{length, get_or, set, inl, inr, refl, sym, ◌∙◌, subst, arith, None}
use Rattle.std.proofs.Common.{Some, eq-eqb}
use Rattle.std.proofs.lemmas.Bool.{cases_lt, cases_eq, ne_eqb}
use Rattle.glb_graph.specs.Rows.{targets_of, IsGraph}
use Rattle.glb_graph.specs.Walks.{Walk, IsDistance}
use Rattle.glb_graph.specs.inner.Tables.{IsTable, unseen}
use Rattle.glb_graph.specs.Distances.{distance}
use Rattle.glb_graph.specs.inner.Tables.{shown}
use Rattle.glb_graph.proofs.ValueFacts.{shown_is}
use Rattle.glb_graph.proofs.SearchFacts.{IsSearch, IsDone, IsNear, IsFront, front_begin, front_push}
use Rattle.glb_graph.proofs.SearchFacts.{front_skip, front_done, front_near, finished, started}
use Rattle.std.proofs.Common.{replicate}

module _ (rows : List (List ℕ)) (s : ℕ) (G : IsGraph rows) (start : s < length rows) where
  -- the targets of the vertex at work, one after the other, as the code takes them
  all_targets : (h vertex next : ℕ) (targets : List ℕ) (left i : ℕ) (table queue : List ℕ)
      → i + left ≡ length targets → IsFront rows s table queue h vertex next targets i →
      (table' : List ℕ) × (queue' : List ℕ)
      × IsFront rows s table' queue' h vertex next targets (length targets)
  all_targets h vertex next targets zero i table queue e F = (
    table,
    queue,
    subst (λ n. IsFront rows s table queue h vertex next targets n) (omega arith) F,
  )
  all_targets h vertex next targets (suc left) i table queue e F =
      elim (cases_eq (get_or table (get_or targets i 0) 0) unseen) [
        | inl new ↦ all_targets h vertex next targets left (i + 1) _ _ (omega arith)
            (front_push rows s table queue h vertex next targets i (get_or targets i 0) F
            (omega arith) refl
            new (set table (get_or targets i 0) next) (queue ++ get_or targets i 0 ∷ []) refl refl)
        | inr seen ↦ all_targets h vertex next targets left (i + 1) table queue (omega arith)
            (front_skip rows s table queue h vertex next targets i (get_or targets i 0) F
            (omega arith) refl
            seen)
      ]

  -- the vertices of the queue, one after the other, as the code takes them
  all_vertices : (left h : ℕ) (table queue : List ℕ) → length rows ≤ h + left → h ≤ length queue
      → IsSearch rows s table queue → IsDone rows table queue h
      → (h < length queue → IsNear table queue h) → (table' : List ℕ) × IsTable rows s table'
  all_vertices zero h table queue e l S d near = let room = S.room
      in (
        table,
        finished rows s table queue S (subst (λ n. IsDone rows table queue n) (omega arith) d),
      )
  all_vertices (suc left) h table queue e l S d near = elim (cases_lt h (length queue)) [
    | inr end ↦ (
      table,
      finished rows s table queue S (subst (λ n. IsDone rows table queue n) (omega arith) d),
    )
    | inl more ↦
        let F = front_begin rows s table queue h (get_or queue h 0)
        (get_or table (get_or queue h 0) 0 + 1) (targets_of rows (get_or queue h 0)) S d more
        (near more) refl refl refl (G.below (get_or queue h 0)) in
        let r = all_targets h (get_or queue h 0) (get_or table (get_or queue h 0) 0 + 1)
        (targets_of rows (get_or queue h 0)) (length (targets_of rows (get_or queue h 0))) 0 table
        queue (omega arith) F in
        let w = r.2.at_work in
        all_vertices left (h + 1) r.0 r.1 (omega arith) (omega arith) r.2.search
        (front_done rows s r.0 r.1 h _ _ _ _ r.2 (omega arith))
        (front_near rows s r.0 r.1 h _ _ _ _ r.2)
  ]

  -- there is a table of the distances
  pub some_table : (table : List ℕ) × IsTable rows s table
  some_table =
      let S = started rows s G.few_vertices start in
      all_vertices (length rows) 0 (set (replicate (length rows) unseen) s 0) (s ∷ []) (omega arith)
      (omega arith) S (λ k l. absurd (omega arith)) (λ _ k l. omega (arith, S.near k l))

  -- a table shows the mark as no distance, and each other entry as it is
  shown_cases : (table : List ℕ) (t : ℕ) → ((get_or table t 0 ≡ unseen) × (shown table t ≡ None))
      ⊎ ((get_or table t 0 ≢ unseen) × (shown table t ≡ Some (get_or table t 0)))
  unfolding shown
  shown_cases table t =
      elim (cases_eq (get_or table t 0) unseen)
      [ inl e ↦ inl (e, rw (eq-eqb _ _ e)) | inr ne ↦ inr (ne, rw (ne_eqb _ _ ne)) ]

  -- where the function says nothing, no walk leads
  pub distance_none : (t : ℕ) → t < length rows → distance rows s t ≡ None → (n : ℕ)
      → Walk rows s t n → ⊥
  distance_none t l e n w = let T = some_table in let same = shown_is rows s T.0 T.1 t l in
      elim (shown_cases T.0 t) [
        | inl a ↦ T.1.not_reached t l a.0 n w
        | inr b ↦ let x : Some (get_or T.0 t 0) ≡ None = sym b.1
            ∙ same ∙ e in absurd (cc)
      ]

  -- what it says is the least length of a walk
  pub distance_some : (t d : ℕ) → t < length rows → distance rows s t ≡ Some d
      → IsDistance rows s t d
  distance_some t d l e = let T = some_table in let same = shown_is rows s T.0 T.1 t l in
      elim (shown_cases T.0 t) [
        | inl a ↦ let x : None ≡ Some d = sym a.1 ∙ same ∙ e in absurd (cc)
        | inr b ↦ let x : Some (get_or T.0 t 0) ≡ Some d = sym b.1 ∙ same ∙ e in
            let y : get_or T.0 t 0 ≡ d = cc in subst (IsDistance rows s t) y (T.1.reached t l b.0)
      ]
