-- Bags that fit a program fit it after an event.
use Rattle.std.proofs.Common.{◌≡◌, ◌≢◌, ℕ, ◌<◌, List, length, get_or, set, sym, ap, ◌∙◌, subst}
use Rattle.std.proofs.Common.{⊎_elim, arith, length-set, get_or-set_same, get_or-set_other}
use Rattle.std.proofs.lemmas.Bool.{cases_eq}
use Rattle.glb_rules.specs.declared.kinds.Kind.TheVariants as kind
use Rattle.glb_rules.specs.declared.event.Event.{Event}
use Rattle.glb_rules.specs.declared.event.Event.TheVariants as event
use Rattle.glb_core.specs.declared.world.rows.PlaceRow.{PlaceRow}
use Rattle.glb_core.specs.declared.world.rows.EdgeRow.{EdgeRow}
use Rattle.glb_core.specs.Tables.{WorldView}
use Rattle.glb_core.specs.inner.Effects.{place_row_after, edge_row_after}
use Rattle.glb_core.specs.Standing.{AllFit, EdgeRowFits}
use Rattle.glb_core.proofs.Tables.Views.{changed}

module _ {B P : Type 0} (fits : B → P → Type 0) (p : P) where
  place_row_set : (place_rows : List (PlaceRow B)) (i : ℕ) (r : PlaceRow B)
      → ((k : ℕ) (d : PlaceRow B) → k < length place_rows → fits (get_or place_rows k d).bag p)
      → fits r.bag p
      → (k : ℕ) (d : PlaceRow B) → k < length (set place_rows i r)
      → fits (get_or (set place_rows i r) k d).bag p
  place_row_set place_rows i r h f k d l =
      let m : k < length place_rows = omega (arith, length-set place_rows i r) in
      ⊎_elim
      (λ (o : k ≡ i). subst (λ y. fits y.bag p)
      (sym (ap (λ q. get_or (set place_rows i r) q d) o ∙ get_or-set_same place_rows i r d (omega arith))) f)
      (λ (o : k ≢ i). subst (λ y. fits y.bag p) (sym (get_or-set_other place_rows i k r d o)) (h k d m))
      (cases_eq k i)

  edge_row_set : (edge_rows : List (EdgeRow B)) (j : ℕ) (z : EdgeRow B)
      → ((k : ℕ) (d : EdgeRow B) → k < length edge_rows
      → EdgeRowFits fits p (get_or edge_rows k d)) → EdgeRowFits fits p z
      → (k : ℕ) (d : EdgeRow B) → k < length (set edge_rows j z)
      → EdgeRowFits fits p (get_or (set edge_rows j z) k d)
  edge_row_set edge_rows j z h f k d l =
      let m : k < length edge_rows = omega (arith, length-set edge_rows j z) in
      ⊎_elim
      (λ (o : k ≡ j). subst (EdgeRowFits fits p)
      (sym (ap (λ q. get_or (set edge_rows j z) q d) o ∙ get_or-set_same edge_rows j z d (omega arith))) f)
      (λ (o : k ≢ j). subst (EdgeRowFits fits p) (sym (get_or-set_other edge_rows j k z d o)) (h k d m))
      (cases_eq k j)

  pub fits_set : {V : Type 0} (x : WorldView B V) (i j : ℕ) (r : PlaceRow B) (z : EdgeRow B)
      (live stop total : ℕ) (value : V) → AllFit fits x p → fits r.bag p → EdgeRowFits fits p z
      → AllFit fits (changed x (set x.place_rows i r) (set x.edge_rows j z) live stop total value) p
  fits_set x i j r z live stop total value A f g =
      record { place_rows = place_row_set x.place_rows i r A.place_rows f; edge_rows = edge_row_set x.edge_rows j z A.edge_rows g }

  pub fits_place_row : {V : Type 0} (x : WorldView B V) (i : ℕ) (r : PlaceRow B) (live stop total : ℕ) (value : V)
      → AllFit fits x p → fits r.bag p
      → AllFit fits (changed x (set x.place_rows i r) x.edge_rows live stop total value) p
  fits_place_row x i r live stop total value A f =
      record { place_rows = place_row_set x.place_rows i r A.place_rows f; edge_rows = A.edge_rows }

  pub edge_row_fits_after : (e : Event) (z : EdgeRow B) → EdgeRowFits fits p z
      → EdgeRowFits fits p (edge_row_after e z)
  edge_row_fits_after (event.Look q t k) z f = f
  edge_row_fits_after (event.Batch q) z f = f
  edge_row_fits_after (event.Ask q v k) z f = tt
  edge_row_fits_after (event.Deny q t k) z f = tt
  edge_row_fits_after (event.Mint q) z f = f
  edge_row_fits_after (event.Give q t k) z f = f
  edge_row_fits_after (event.Take q v k) z f = f
  edge_row_fits_after (event.Burn q) z f = f
  edge_row_fits_after (event.Shrug q v kind.Steal) z f = tt
  edge_row_fits_after (event.Shrug q v kind.Line) z f = f
  edge_row_fits_after (event.Sleep q) z f = f
  edge_row_fits_after (event.Leave q) z f = f
  edge_row_fits_after (event.Halt q c) z f = f

  pub place_row_fits_after : (n : ℕ) (e : Event) (z : EdgeRow B) (r : PlaceRow B) → fits r.bag p
      → fits (place_row_after n e z r).bag p
  place_row_fits_after n (event.Look q t k) z r f = f
  place_row_fits_after n (event.Batch q) z r f = f
  place_row_fits_after n (event.Ask q v kind.Steal) z r f = f
  place_row_fits_after n (event.Ask q v kind.Line) z r f = f
  place_row_fits_after n (event.Deny q t k) z r f = f
  place_row_fits_after n (event.Mint q) z r f = f
  place_row_fits_after n (event.Give q t k) z r f = f
  place_row_fits_after n (event.Take q v k) z r f = f
  place_row_fits_after n (event.Burn q) z r f = f
  place_row_fits_after n (event.Shrug q v k) z r f = f
  place_row_fits_after n (event.Sleep q) z r f = f
  place_row_fits_after n (event.Leave q) z r f = f
  place_row_fits_after n (event.Halt q c) z r f = f

  pub bag_at : {V : Type 0} (x : WorldView B V) (i : ℕ) (r : PlaceRow B) → AllFit fits x p
      → i < length x.place_rows → r ≡ get_or x.place_rows i r → fits r.bag p
  bag_at x i r A l h = subst (λ y. fits y.bag p) (sym h) (A.place_rows i r l)

  pub local_at : {V : Type 0} (x : WorldView B V) (j : ℕ) (z : EdgeRow B) → AllFit fits x p
      → j < length x.edge_rows → z ≡ get_or x.edge_rows j z → EdgeRowFits fits p z
  local_at x j z A l h = subst (EdgeRowFits fits p) (sym h) (A.edge_rows j z l)
