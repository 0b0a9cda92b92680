-- What is kept beside the bag.
use Rattle.std.specs.Prelude.{Some, None, Option}
use Rattle.std.proofs.Common.{◌≡◌, ◌≢◌, ℕ, ◌⊎◌, inl, inr, ⊎_elim, List, refl, sym, subst}
use Rattle.rand_pcg.specs.Lcg.{Lcg}
use Rattle.glb_rules.specs.Sight.{Sight}
use Rattle.glb_rules.specs.declared.kinds.Credit.{Credit}
use Rattle.glb_rules.specs.declared.kinds.Credit.TheVariants as credit
use Rattle.glb_rules.specs.declared.params.Params.{Params}
use Rattle.glb_rules.specs.declared.place_state.PlaceState.{PlaceState}
use Rattle.glb_place.specs.declared.record.Record.{Record}
use Rattle.glb_place.specs.Places.{HasItems, IsSplit, KeepsSpare}
use Rattle.glb_place.specs.inner.Standing.{Agrees}

-- a credit is Minted or it is not
minted_or : (c : Credit) → (c ≡ credit.Minted) ⊎ (c ≢ credit.Minted)
minted_or credit.Zero = inr (λ (e : credit.Zero ≡ credit.Minted). cc)
minted_or credit.One = inr (λ (e : credit.One ≡ credit.Minted). cc)
minted_or credit.Minted = inl refl
minted_or credit.Taken = inr (λ (e : credit.Taken ≡ credit.Minted). cc)

module _ {B I : Type 0} (items : B → List I) where
  -- a part that was split off has items
  split_some : (spare : Option B) (bag : B) → IsSplit items spare bag → HasItems items spare
  split_some None bag h = tt
  split_some (Some b) bag h = h.0

  -- nothing is beside the bag
  pub spare_none : (r : Record I) (bag : B) (spare : Option B) → spare ≡ None
      → r.local.credit ≢ credit.Minted → KeepsSpare items r bag spare
  spare_none r bag spare e n = record {
    split = λ m. absurd (n m);
    alone = inl e;
    some = subst (HasItems items) (sym e) tt;
  }

  -- until it halts a place keeps beside its bag what it knows of
  pub spare_of : (r : Record I) (params : Params) (bag : B) (spare : Option B) (a : PlaceState)
      (z : Sight)
      (first : ℕ) (words : Lcg) → Agrees items r params bag spare a z first words
      → KeepsSpare items r bag spare
  spare_of r params bag spare a z first words A = ⊎_elim
      (λ m. record {
        split = A.split;
        alone = inr (inl m);
        some = split_some spare bag (A.split m);
      })
      (λ n. spare_none r bag spare (A.whole n) n)
      (minted_or r.local.credit)
