-- The rule when a seat is split and when two are joined.
use Rattle.std.proofs.Common.{◌≡◌, ℕ, [], ◌∷◌, ◌++◌, sym, ◌∙◌, subst}
use mathlib.Core.Option.{some}
use lib.ListN.{get_elem?}
use Rattle.atomic_table.specs.Table.{Splits, Joins}
use Rattle.glb_cells.specs.declared.view.View.{View}
use Rattle.glb_cells.specs.Shows.{Fixed, Shows}
use Rattle.glb_cells.specs.Plays.{first_of, rest_of}
use Rattle.atomic_table.proofs.Lists.{set_else}
use Rattle.glb_cells.proofs.StepLemmas.Seating.{Rs, split_seats, split_apart, split_all, join_seats, join_apart, join_all}

module _ {B Q I : Type 0} (Γ : Fixed B Q I) where
  pub deals : (id : ℕ) (x : View Q I) (xs : Rs Q I) → Splits (Shows Γ) id (x ∷ xs) xs (x ∷ [])
  deals id x xs s h at = record {
    grounded = h.grounded;
    live = h.live;
    stop = h.stop;
    cells = h.cells;
    recs = h.recs;
    words = h.words;
    homes = h.homes;
    history = h.history;
    fitting = h.fitting;
    apt = h.apt;
    numbers = h.numbers;
    wide = h.wide;
    many = h.many;
    fresh = h.fresh;
    seats = split_seats h.recs s.views id x xs at h.seats;
    apart = split_apart s.views id x xs at h.apart;
    seated = split_all h.recs s.views id x xs at h.seated;
  }

  pub deals_as : (id : ℕ) (v : Rs Q I) → ((x : View Q I) × (xs : Rs Q I) × (v ≡ x ∷ xs))
      → Splits (Shows Γ) id v (rest_of v) (first_of v)
  deals_as id v is = subst (λ (l : Rs Q I). Splits (Shows Γ) id l (rest_of l) (first_of l))
      (sym is.2) (deals id is.0 is.1)

  pub gathers : (id other : ℕ) (v w : Rs Q I) → Joins (Shows Γ) id v other w (v ++ w) []
  gathers id other v w s h at differ there = record {
    grounded = h.grounded;
    live = h.live;
    stop = h.stop;
    cells = h.cells;
    recs = h.recs;
    words = h.words;
    homes = h.homes;
    history = h.history;
    fitting = h.fitting;
    apt = h.apt;
    numbers = h.numbers;
    wide = h.wide;
    many = h.many;
    fresh = h.fresh;
    seats = join_seats h.recs s.views id other v w at differ was h.seats;
    apart = join_apart s.views id other v w at differ was h.apart;
    seated = join_all h.recs s.views id other v w at differ was h.seated;
  }
    where
      was : get_elem? s.views other ≡ some w
      was = sym (set_else s.views id other (v ++ w) differ) ∙ there
