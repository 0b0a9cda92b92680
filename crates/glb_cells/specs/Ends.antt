-- How a run over the shared object ended.
use Rattle.std.specs.Prelude.{◌≡◌, ℕ, ◌<◌, List, length, get_or}
use Rattle.glb_rules.specs.World.{Setup, World}
use Rattle.glb_rules.specs.History.{start, Run}
use Rattle.glb_rules.specs.Lawful.{sum_of_places}
use Rattle.glb_rules.specs.declared.event.Event.{Event}
use Rattle.glb_place.specs.declared.record.Record.{Record}

-- the three words and the records, by place, are those of the last world of a history that begins
-- with these bags
pub record IsLastOf {I : Type 0} (children : I → List I) (s : Setup) (bags : ℕ → List I)
    (live items stop : ℕ) (rs : List (Record I)) : Type 0 where
  pub events : List Event
  pub last : World I
  pub run : Run children s (start s bags) events last
  pub live_is : live ≡ last.live
  pub items_are : items ≡ sum_of_places s last (λ a. a.count.items)
  pub stop_is : stop ≡ last.stop
  pub many : length rs ≡ s.places
  pub locals : (p : ℕ) (d : Record I) → p < length rs → (get_or rs p d).local ≡ last.place p
