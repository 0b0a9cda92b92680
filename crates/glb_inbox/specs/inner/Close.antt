-- What the end of the run tells of the records of all places.
use Rattle.std.specs.Prelude.{◌≡◌, ◌≢◌, ℕ, ◌+◌, ◌≤◌, ◌<◌, ◌⊎◌, true, List, [], ◌++◌, map, length}
use Rattle.std.specs.List.{flat_map}
use Rattle.glb_laws.specs.Expansion.{Expansion}
use Rattle.glb_core.specs.Counters.{HasSmallCounts}
use Rattle.glb_place.specs.Close.{IsBounded}
use Rattle.glb_rules.specs.declared.kinds.Phase.TheVariants as phase
use Rattle.glb_rules.specs.declared.local.Counts.{Counts}
use Rattle.glb_place.specs.declared.record.Record.{Record}
use Rattle.glb_inbox.specs.declared.view.Seated.{Seated}
use Rattle.glb_inbox.specs.declared.view.Member.{Member}
use Rattle.glb_inbox.specs.declared.view.Member.TheVariants.{Place}
use Rattle.glb_inbox.specs.inner.Members.{total, Each}
use Rattle.glb_inbox.specs.inner.Rule.{Job}
use Rattle.glb_inbox.specs.inner.Ends.{PlaceEnded}

module _ {I : Type 0} where
  abbrev pub as_places : List (Seated I) → List (Member I)
  as_places xs = map (λ x. Place x) xs

  abbrev pub kept_of : Seated I → Record I
  kept_of x = x.kept

  abbrev pub done_of : Seated I → List I
  done_of x = x.kept.local.done

  abbrev pub bag_of_place : Seated I → List I
  bag_of_place x = x.kept.local.bag

  abbrev pub count_of : (Counts → ℕ) → Seated I → ℕ
  count_of f x = f x.kept.local.count

  -- the balances over all places
  pub record Balanced (j : Job I) (xs : List (Seated I)) : Type 0 where
    pub places : Each (λ x. PlaceEnded j.awake x.kept) xs
    pub given : total (count_of (λ c. c.given)) xs ≡ total (count_of (λ c. c.got)) xs
    pub line_given : total (count_of (λ c. c.line_given)) xs ≡ total (count_of (λ c. c.line_got)) xs
    pub units : total (count_of (λ c. c.sent_units)) xs ≡ total (count_of (λ c. c.got_units)) xs
    pub asks : total (count_of (λ c. c.asks)) xs
        ≡ total (count_of (λ c. c.denied)) xs + total (count_of (λ c. c.given)) xs

  -- what a load of live tells at the end, where `xs` are all places
  pub record LiveTells (j : Job I) (xs : List (Seated I)) (live : ℕ) : Type 0 where
    -- the items that travel
    pub way : List I
    pub expansion : Expansion j.children j.roots (flat_map done_of xs)
        (flat_map bag_of_place xs ++ way)
    pub nothing_left : live ≡ 0 → (flat_map bag_of_place xs ≡ []) × (way ≡ [])
    pub balanced : live ≡ 0 → Balanced j xs
    pub bounded : Each (λ x. IsBounded x.kept) xs
    pub small : live ≡ 0 → Each (λ x. HasSmallCounts x.kept.local.count) xs
    pub jobs : Each (λ x. (x.kept.params ≡ j.params) × (x.kept.lines ≡ j.lines)) xs
    pub over : Each (λ x. x.kept.over ≡ true → live ≡ 0) xs
    pub gone : Each (λ x. x.kept.local.phase ≡ phase.Gone → (x.kept.over ≡ true)
        ⊎ (x.kept.code ≢ 0)) xs

  -- a load of items
  abbrev pub ItemsTell : List (Seated I) → ℕ → Type 0
  ItemsTell xs items = items ≡ length (flat_map done_of xs)

  -- a load of stop
  pub record StopTells (j : Job I) (xs : List (Seated I)) (stop : ℕ) : Type 0 where
    pub cause : stop ≡ 1 → j.params.limit < length (flat_map done_of xs)
    pub codes : stop ≤ 2
    pub each : Each (λ x. x.kept.code ≤ stop) xs

  -- what the close promises of the three words and of the records of all places
  pub record Closes (j : Job I) (xs : List (Seated I)) (live items stop : ℕ) : Type 0 where
    pub way : List I
    pub expansion : Expansion j.children j.roots (flat_map done_of xs)
        (flat_map bag_of_place xs ++ way)
    pub nothing_left : live ≡ 0 → (flat_map bag_of_place xs ≡ []) × (way ≡ [])
    pub balanced : live ≡ 0 → Balanced j xs
    pub bounded : Each (λ x. IsBounded x.kept) xs
    pub small : live ≡ 0 → Each (λ x. HasSmallCounts x.kept.local.count) xs
    pub jobs : Each (λ x. (x.kept.params ≡ j.params) × (x.kept.lines ≡ j.lines)) xs
    pub count : items ≡ length (flat_map done_of xs)
    pub cause : stop ≡ 1 → j.params.limit < items
    pub codes : stop ≤ 2
    pub ended : Each (λ x. x.kept.local.phase ≡ phase.Gone) xs → 0 < length xs
        → (live ≡ 0) ⊎ (stop ≢ 0)
