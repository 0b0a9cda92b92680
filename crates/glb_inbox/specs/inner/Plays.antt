-- What each step on a word tells of the place that steps.
use Rattle.std.specs.Prelude.{◌≡◌, ℕ, false, ◌+◌, ◌^◌, ◌≤◌, ◌<◌, cond, ◌==◌, List, [], ◌∷◌, ◌++◌}
use Rattle.std.specs.Prelude.{length, IsPermutation}
use Rattle.atomic_table.specs.Table.{Step, Me}
use Rattle.glb_place.specs.declared.record.Record.{Record}
use Rattle.glb_place.specs.Rows.{batch_row, mint_row, burn_row, sleep_row, over_row, halt_row}
use Rattle.glb_place.specs.Rows.{halted_row}
use Rattle.glb_inbox.specs.declared.view.Member.{Member}
use Rattle.glb_inbox.specs.declared.view.Member.TheVariants.{Place, Request, Refusal, Parcel}
use Rattle.glb_inbox.specs.declared.view.Seated.{Seated}
use Rattle.glb_inbox.specs.inner.Rule.{Job}
use Rattle.glb_inbox.specs.inner.Close.{as_places, LiveTells, ItemsTell, StopTells}
use Rattle.glb_inbox.specs.inner.Views.{one, on_one, stepped, spared}

abbrev pub Told : Type 0 → Type 1
Told I = Step ℕ → Me ℕ (List (Member I)) → ℕ → Me ℕ (List (Member I)) → Type 0

module _ {I : Type 0} where
  -- the place's record moved by this row, and nothing else
  abbrev pub Notes : (Record I → Record I) → Told I
  Notes row st m n m' = m' ≡ (on_one (λ x. stepped (row x.kept) n x) m.0, m.1)

  abbrev pub Mints : Told I
  Mints = Notes mint_row

  abbrev pub Burns : Told I
  Burns = Notes burn_row

  abbrev pub Sleeps : Told I
  Sleeps = Notes sleep_row

  -- live was read: where it is 0 the place leaves
  abbrev pub ended_at : ℕ → Record I → Record I
  ended_at n r = cond (n == 0) (over_row r) r

  abbrev pub Ends : Told I
  Ends st m n m' = Notes (ended_at n) st m n m'

  abbrev pub Halts : Told I
  Halts st m n m' = Notes (halt_row st.first) st m n m'

  abbrev pub Stops : Told I
  Stops st m n m' = Notes (halted_row n) st m n m'
      × ((x : Seated I) → m.0 ≡ one x → x.kept.code ≤ n)

  -- the bag of the view's place
  abbrev pub bag_of : List (Member I) → List I
  bag_of [] = []
  bag_of (Place x ∷ v) = x.kept.local.bag
  bag_of (Request i ∷ v) = []
  bag_of (Refusal ∷ v) = []
  bag_of (Parcel i xs ∷ v) = []

  abbrev pub Settling : (List I → List I → Type 0) → List I → Told I
  Settling takes items st m n m' =
      (taken : List I) × takes (bag_of m.0) taken × (n + st.first < 2 ^ 64)
      × Notes (batch_row (n + st.first) taken items) st m n m'

  -- the rest of the bag is known, where this part is split off
  abbrev pub Sparing : List I → Told I
  Sparing part st m n m' =
      (rest : List I) × IsPermutation (bag_of m.0) (part ++ rest) × (0 < length rest)
      × (m' ≡ (on_one (spared rest n) m.0, m.1))

  abbrev pub no_job : Job I
  no_job = record {
    children = λ x. [];
    lines = record { places = 0; base = 0; dimension = 0 };
    params = record { places = 0; batch = 0; tries = 0; base = 0; seed = 0; limit = 0 };
    awake = λ p. false;
    roots = [];
  }

  -- a load by a seat that has all places
  abbrev pub ReadsLive : Job I → Told I
  ReadsLive j st m n m' =
      (m' ≡ m) × ((xs : List (Seated I)) → m.0 ≡ as_places xs → length xs ≡ j.lines.places
      → LiveTells j xs n)

  abbrev pub ReadsItems : Job I → Told I
  ReadsItems j st m n m' =
      (m' ≡ m) × ((xs : List (Seated I)) → m.0 ≡ as_places xs → length xs ≡ j.lines.places
      → ItemsTell xs n)

  abbrev pub ReadsStop : Job I → Told I
  ReadsStop j st m n m' =
      (m' ≡ m) × ((xs : List (Seated I)) → m.0 ≡ as_places xs → length xs ≡ j.lines.places
      → StopTells j xs n)
