-- The rule: words, slots at home and views show one world.
use Rattle.std.specs.Prelude.{◌≡◌, ℕ, ◌+◌, ◌*◌, ◌^◌, ◌<◌, ◌≤◌, List, [], ◌∷◌, ◌++◌, map, length, Some, true, false, if◌then◌else◌, nat_lt, get_or, IsPermutation}
use mathlib.Core.Option.{some}
use lib.ListN.{get_elem?}
use Rattle.atomic_table.specs.Table.{State}
use Rattle.glb_rules.specs.World.{Setup, World}
use Rattle.glb_rules.specs.Setups.{IsProper}
use Rattle.glb_rules.specs.History.{start, AwakeBy, no_counts}
use Rattle.glb_rules.specs.History.{Run}
use Rattle.glb_rules.specs.declared.event.Event.{Event}
use Rattle.glb_cells.specs.EdgeNames.{at_name, NamesEdges}
use Rattle.glb_cube.specs.Lines.{Cube}
use Rattle.glb_rules.specs.declared.params.Params.{Params}
use Rattle.glb_rules.specs.declared.local.Local.{Local}
use Rattle.glb_rules.specs.declared.local.EdgeName.{EdgeName}
use Rattle.glb_rules.specs.declared.kinds.Phase.TheVariants as phase
use Rattle.glb_rules.specs.declared.kinds.Credit.TheVariants as credit
use Rattle.glb_place.specs.Records.{knows, setup_in}
use Rattle.glb_cells.specs.declared.view.View.{View}
use Rattle.glb_cells.specs.Words.{Cell, word_of, slot_of, cell_state, Fitting, edge_of, IsWith, Out, In}
use Rattle.std.specs.Prelude.{Option}

abbrev pub part_of : {Q I : Type 0} → View Q I → Local I
part_of r = r.own.local

-- what is fixed when the table is made
pub record Fixed (B Q I : Type 0) : Type 1 where
  pub items : B → List I
  pub fits : B → Q → Type 0
  pub children : Q → I → List I
  pub program : Q
  pub cube : Cube
  pub params : Params
  pub lines : Setup
  pub names : List EdgeName
  pub bags : ℕ → List I
  pub limit : ℕ

-- what is known of it
pub record Sound {B Q I : Type 0} (Γ : Fixed B Q I) : Type 0 where
  pub proper : IsProper Γ.lines
  pub awake : AwakeBy Γ.lines Γ.bags
  pub named : NamesEdges Γ.lines Γ.names
  pub few : Γ.lines.places ≤ 64
  pub tries : Γ.lines.tries ≤ 64
  pub batch : Γ.lines.batch ≤ 65536
  pub limit : Γ.limit ≤ 2 ^ 40

-- the numbers of a list, added up
abbrev pub total : {A : Type 0} → (A → ℕ) → List A → ℕ
total f [] = 0
total f (x ∷ xs) = f x + total f xs

abbrev pub items_of : {Q I : Type 0} → View Q I → ℕ
items_of r = r.own.local.count.items

-- 1 for a place that has seen a total above the limit
abbrev pub above : {Q I : Type 0} → ℕ → View Q I → ℕ
above limit r = if nat_lt limit r.own.last then 1 else 0

-- a place that is not there
abbrev pub nobody : {I : Type 0} → ℕ → Local I
nobody tries = record {
  phase = phase.Asleep;
  credit = credit.Zero;
  tries = tries;
  bag = [];
  marks = [];
  done = [];
  count = no_counts;
}

-- the setup as a place knows it
abbrev pub plain : Setup → Setup
plain s = record s { awake = λ p. false }

module _ {B Q I : Type 0} (Γ : Fixed B Q I) where
  abbrev pub first : World I
  first = start Γ.lines Γ.bags

  -- it is the last world of a history from the start
  abbrev pub IsPast : World I → Type 0
  IsPast w = (events : List Event) × Run (Γ.children Γ.program) Γ.lines first events w

  -- the world of these two numbers, cells and views
  abbrev pub shown : ℕ → ℕ → List (Cell B) → List (View Q I) → World I
  shown live stop cells recs = record {
    place = λ p. get_or (map part_of recs) p (nobody Γ.lines.tries);
    edge = at_name Γ.names (map (edge_of Γ.items) cells);
    live = live;
    stop = stop;
  }

  -- what the view of the place p may say of the edge number e, which is n
  pub record AptAt (p : ℕ) (r : View Q I) (e : ℕ) (n : EdgeName) (c : Cell B) : Type 0 where
    pub out : n.thief ≡ p → Out n.kind (knows r.own n) (cell_state c)
    pub inward : n.victim ≡ p → In n.kind (knows r.own n) (cell_state c)
    pub busy : IsWith p n c → (xs : List I) × (r.hand ≡ Some (e, xs))
    pub at_it : (xs : List I) → r.hand ≡ Some (e, xs) → IsWith p n c

  -- what it may say of the three numbers
  pub record AptOf (live stop : ℕ) (r : View Q I) : Type 0 where
    pub over : r.own.over ≡ true → live ≡ 0
    pub code : r.own.code ≤ stop

  -- it has the program and the parameters of the table
  pub record Told (r : View Q I) : Type 0 where
    pub program : r.program ≡ Γ.program
    pub lines : setup_in r.own ≡ plain Γ.lines
    pub limit : r.own.params.limit ≡ Γ.limit

  -- The part that goes or came is in the bag. Where a slot was taken and no part is known yet, the
  -- hand has no items, and this holds of each bag.
  abbrev pub Holds : View Q I → Type 0
  Holds r =
      (e : ℕ) (xs : List I) → r.hand ≡ Some (e, xs)
      → (rest : List I) × IsPermutation r.own.local.bag (xs ++ rest)

  -- what the view of the place p may say
  pub record Apt (live stop : ℕ) (cells : List (Cell B)) (p : ℕ) (r : View Q I) : Type 0 where
    pub placed : r.own.place ≡ p
    pub told : Told r
    pub each : (e : ℕ) (n : EdgeName) (c : Cell B) → get_elem? Γ.names e ≡ some n
        → get_elem? cells e ≡ some c → AptAt p r e n c
    pub numbers : AptOf live stop r
    pub holds : Holds r

  -- the items of all places go past the limit by one batch at most for each place that has seen
  -- them
  -- do so
  pub record Numbers (stop : ℕ) (recs : List (View Q I)) : Type 0 where
    pub small : total items_of recs ≤ Γ.limit + Γ.lines.batch * total (above Γ.limit) recs
    pub cause : stop ≡ 1 → Γ.limit < total items_of recs
    pub codes : stop ≤ 2
    pub seen_last : (p : ℕ) (r : View Q I) → get_elem? recs p ≡ some r
        → r.own.last ≤ total items_of recs

  pub record Shows (s : State (Option B) (List (View Q I))) : Type 0 where
    pub grounded : Sound Γ
    pub live : ℕ
    pub stop : ℕ
    pub cells : List (Cell B)
    pub recs : List (View Q I)
    pub words : s.words ≡ live ∷ total items_of recs ∷ stop ∷ map word_of cells
    pub homes : s.homes ≡ map slot_of cells
    pub wide : length cells ≡ length Γ.names
    pub many : length recs ≡ Γ.lines.places
    pub history : IsPast (shown live stop cells recs)
    pub fitting : (e : ℕ) (n : EdgeName) (c : Cell B) → get_elem? Γ.names e ≡ some n
        → get_elem? cells e ≡ some c → Fitting Γ.fits Γ.program n.kind c
    pub apt : (p : ℕ) (r : View Q I) → get_elem? recs p ≡ some r → Apt live stop cells p r
    pub numbers : Numbers stop recs
    -- where no place has made a step, the world is the start
    pub fresh : ((p : ℕ) (r : View Q I) → get_elem? recs p ≡ some r → r.steps ≡ 0)
        → shown live stop cells recs ≡ first
    -- each seat has views of places, no two have one place, and each place's view is with a seat
    pub seats : (i : ℕ) (v : List (View Q I)) (k : ℕ) (r : View Q I) → get_elem? s.views i ≡ some v
        → get_elem? v k ≡ some r → get_elem? recs r.own.place ≡ some r
    pub apart : (i j : ℕ) (v w : List (View Q I)) (k l : ℕ) (r u : View Q I)
        → get_elem? s.views i ≡ some v → get_elem? s.views j ≡ some w → get_elem? v k ≡ some r
        → get_elem? w l ≡ some u → r.own.place ≡ u.own.place → (i ≡ j) × (k ≡ l)
    pub seated : (p : ℕ) (r : View Q I) → get_elem? recs p ≡ some r
        → (i : ℕ) × (v : List (View Q I)) × (k : ℕ) × (get_elem? s.views i ≡ some v)
        × (get_elem? v k ≡ some r)

  abbrev pub Table : Type 0
  Table = State (Option B) (List (View Q I))

  -- the world that the table shows
  abbrev pub world_of : (s : Table) → Shows s → World I
  world_of s h = shown h.live h.stop h.cells h.recs
