-- What a step does to a place in the view of its seat.
use Rattle.std.specs.Prelude.{◌≡◌, ℕ, ◌+◌, List, [], ◌∷◌, map, Option, Some, None}
use Rattle.atomic_table.specs.Table.{Me}
use Rattle.glb_place.specs.declared.record.Record.{Record}
use Rattle.glb_inbox.specs.declared.view.Seated.{Seated}
use Rattle.glb_inbox.specs.declared.view.Member.{Member}
use Rattle.glb_inbox.specs.declared.view.Member.TheVariants.{Place, Request, Refusal, Parcel}

module _ {I : Type 0} where
  -- a step on a word, which was found so
  abbrev pub stepped : Record I → ℕ → Seated I → Seated I
  stepped r n x = record { kept = r; before = None; rest = []; steps = x.steps + 1; found = n }

  -- the same, and what the bag keeps where a part is split off next is known
  abbrev pub spared : List I → ℕ → Seated I → Seated I
  spared left n x = record {
    kept = x.kept;
    before = None;
    rest = left;
    steps = x.steps + 1;
    found = n;
  }

  -- a message's seat is split off
  abbrev pub parted : Record I → Seated I → Seated I
  parted r x = record {
    kept = r;
    before = Some x.kept;
    rest = [];
    steps = x.steps + 1;
    found = x.found;
  }

  -- a message's seat is joined
  abbrev pub joined : Record I → Seated I → Seated I
  joined r x = record {
    kept = r;
    before = None;
    rest = [];
    steps = x.steps + 1;
    found = x.found;
  }

  -- a view of one place
  abbrev pub one : Seated I → List (Member I)
  one x = Place x ∷ []

  -- the record before the message was split off, or the record itself
  abbrev pub record_before : Option (Record I) → Record I → Record I
  record_before None r = r
  record_before (Some q) r = q

  abbrev pub undone : Seated I → Seated I
  undone x = joined (record_before x.before x.kept) x

  abbrev pub on_place : (Seated I → Seated I) → Member I → Member I
  on_place f (Place x) = Place (f x)
  on_place f (Request k) = Request k
  on_place f Refusal = Refusal
  on_place f (Parcel k xs) = Parcel k xs

  abbrev pub on_one : (Seated I → Seated I) → List (Member I) → List (Member I)
  on_one f v = map (on_place f) v

  -- the seat is one place's, of which this holds
  abbrev pub Reads : Me ℕ (List (Member I)) → (Seated I → Type 0) → Type 0
  Reads m F = (x : Seated I) × (m ≡ (one x, [])) × F x

  -- the seat is one place's before and after, and its record moved by this row
  pub record MovesBy (row : Record I → Record I) (m m' : Me ℕ (List (Member I))) : Type 0 where
    pub old : Seated I
    pub new : Seated I
    pub was : m ≡ (one old, [])
    pub is : m' ≡ (one new, [])
    pub kept : new.kept ≡ row old.kept

  -- its record is as before
  abbrev pub Stands : Me ℕ (List (Member I)) → Me ℕ (List (Member I)) → Type 0
  Stands = MovesBy (λ r. r)

  -- the first member of a view, and the others
  abbrev pub first_of : List (Member I) → List (Member I)
  first_of [] = []
  first_of (m ∷ v) = m ∷ []

  abbrev pub rest_of : List (Member I) → List (Member I)
  rest_of [] = []
  rest_of (m ∷ v) = v
