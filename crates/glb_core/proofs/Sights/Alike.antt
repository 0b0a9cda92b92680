-- Worlds for which the same view stands look alike to each place.
use Rattle.std.specs.Prelude.{min, ◌==◌}
use Rattle.std.proofs.Common.{◌≡◌, ◌≢◌, ◌++◌, ℕ, ◌-◌, ◌^◌, ◌<◌, ◌⊎◌, List, [], ◌∷◌, cond, length}
use Rattle.std.proofs.Common.{map, get_or, set, refl, sym, ap, ◌∙◌, subst, inl, inr, ⊎_elim, arith}
use Rattle.std.proofs.Math.Seq.{map-set_same}
use Rattle.std.proofs.lemmas.Bool.{cases_eq}
use Rattle.std.proofs.lemmas.List.{get_or-set_same, get_or-set_other, length-set}
use Rattle.glb_rules.specs.World.{Setup, World}
use Rattle.glb_rules.specs.Draws.{drawn}
use Rattle.glb_rules.specs.Sight.{sight_at, state_at}
use Rattle.glb_core.specs.Seen.{first_sight}
use Rattle.glb_core.specs.Tables.{WorldView, ShowsLocal}
use Rattle.glb_core.specs.Standing.{Represents}
use Rattle.glb_core.specs.declared.world.rows.PlaceRow.{PlaceRow}
use Rattle.glb_core.proofs.Tables.PlaceRows.{size_of}
use Rattle.glb_core.proofs.Lifelines.Seen.{first_made}
use Rattle.glb_core.proofs.Sights.Told.{ins_told, outs_told, waited_told}
use Rattle.glb_core.proofs.Tables.Views.{places_are}

-- a member of a list that has one
member_of : {A : Type 0} (xs : List A) (n : ℕ) → n < length xs → A
member_of [] n l = absurd (omega arith)
member_of (x ∷ xs) n l = x

-- what tables tell of a place, in each world for which they stand
module _ {B I V : Type 0} (items : B → List I) (s : Setup) (x : WorldView B V) (w : World I)
    (S : Represents items s x w) (p : ℕ) (below : p < x.cube.places) (r : PlaceRow B)
    (R : ShowsLocal items x.params.seed x.cube.places p r (w.place p)) where
  victim_told : r.victim ≡ drawn x.params.seed s.places p (w.place p).count.asks
  victim_told = R.victim
      ∙ ap (λ n. drawn x.params.seed n p (w.place p).count.asks) (sym (places_are items s x w S.shows))

  size_told : min (length (items r.bag)) (2 ^ 64 - 1) ≡ min (length (w.place p).bag) (2 ^ 64 - 1)
  size_told = ap (λ n. min n (2 ^ 64 - 1)) (size_of R)

-- two worlds for which the same tables stand are the same for a place
module _ {B I V : Type 0} (items : B → List I) (x : WorldView B V) (s t : Setup) (w v : World I)
    (S : Represents items s x w) (T : Represents items t x v) (p : ℕ) (below : p < x.cube.places) where
  abbrev first_place_row : PlaceRow B
  first_place_row = member_of x.place_rows p (let a = S.shows.place_rows in omega arith)

  abbrev place_row : PlaceRow B
  place_row = get_or x.place_rows p first_place_row

  shown : ShowsLocal items x.params.seed x.cube.places p place_row (w.place p)
  shown = S.shows.place_row p first_place_row below

  shown_too : ShowsLocal items x.params.seed x.cube.places p place_row (v.place p)
  shown_too = T.shows.place_row p first_place_row below

  pub sights_agree : sight_at t v p ≡ sight_at s w p
  sights_agree =
      let z = first_sight x.cube p in
      let made = first_made x.cube p in
      let ins =
      sym (ins_told items t x v T p below place_row shown_too z.ins made.ins)
      ∙ ins_told items s x w S p below place_row shown z.ins made.ins
      in
      let outs =
      sym (outs_told items t x v T p below place_row shown_too z.outs made.outs)
      ∙ outs_told items s x w S p below place_row shown z.outs made.outs
      in
      let waited =
      sym (waited_told items t x v T p below place_row shown_too) ∙ waited_told items s x w S p below place_row shown
      in
      let live = sym T.shows.live ∙ S.shows.live in
      let stop = sym T.shows.stop ∙ S.shows.stop in
      λ i. record { ins = ins i; outs = outs i; waited = waited i; ended = live i == 0; stop = stop i }

  pub states_agree : state_at x.params.seed t v p ≡ state_at x.params.seed s w p
  states_agree =
      let phase = sym shown_too.same_phase ∙ shown.same_phase in
      let credit = sym shown_too.same_credit ∙ shown.same_credit in
      let tries = sym shown_too.tries ∙ shown.tries in
      let victim =
      sym (victim_told items t x v T p below place_row shown_too) ∙ victim_told items s x w S p below place_row shown
      in
      let size =
      sym (size_told items t x v T p below place_row shown_too) ∙ size_told items s x w S p below place_row shown
      in
      λ i. record {
        place = p;
        phase = phase i;
        credit = credit i;
        tries = tries i;
        victim = victim i;
        size = size i;
      }
