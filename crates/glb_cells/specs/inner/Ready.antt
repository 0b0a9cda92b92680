-- What each step asks of its seat's view.
use Rattle.std.specs.Prelude.{◌≡◌, ◌≢◌, ℕ, ◌+◌, ◌^◌, ◌<◌, ◌≤◌, ◌⊎◌, List, ◌++◌, length, None}
use Rattle.glb_laws.specs.Expansion.{Moves, combined}
use Rattle.glb_rules.specs.declared.local.EdgeName.{EdgeName}
use Rattle.glb_rules.specs.declared.event.Event.TheVariants as event
use Rattle.glb_rules.specs.declared.kinds.Phase.TheVariants as phase
use Rattle.glb_place.specs.Records.{May, knows}
use Rattle.glb_place.specs.Calls.{HasMore, Gives, Settles}
use Rattle.glb_cells.specs.declared.view.View.{View}
use Rattle.glb_cells.specs.Plays.{IsFree, gift_word, gave_at, took_at}

module _ {Q I : Type 0} where
  abbrev pub MayAsk : EdgeName → View Q I → Type 0
  MayAsk n r = IsFree r × May r.own (event.Ask n.thief n.victim n.kind)

  abbrev pub MayDeny : EdgeName → View Q I → Type 0
  MayDeny n r = IsFree r × May r.own (event.Deny n.victim n.thief n.kind)

  abbrev pub MayShrug : EdgeName → View Q I → Type 0
  MayShrug n r = IsFree r × May r.own (event.Shrug n.thief n.victim n.kind)

  abbrev pub MayTake : EdgeName → View Q I → Type 0
  MayTake n r = IsFree r × May r.own (event.Take n.thief n.victim n.kind)

  abbrev pub MayGive : EdgeName → List I → View Q I → Type 0
  MayGive n xs r =
      IsFree r × May r.own (event.Give n.victim n.thief n.kind) × (0 < length xs) × HasMore xs r.own

  -- and the word that begins the gift
  abbrev pub MayBegin : EdgeName → ℕ → List I → View Q I → Type 0
  MayBegin n w xs r = MayGive n xs r × (gift_word (knows r.own n) ≡ w)

  abbrev pub MayMint : View Q I → Type 0
  MayMint r = May r.own (event.Mint r.own.place)

  abbrev pub MayBurn : View Q I → Type 0
  MayBurn r = May r.own (event.Burn r.own.place)

  abbrev pub MaySleep : View Q I → Type 0
  MaySleep r = May r.own (event.Sleep r.own.place)

  abbrev pub IsHere : View Q I → Type 0
  IsHere r = r.own.local.phase ≢ phase.Gone

  abbrev pub MayHalt : ℕ → View Q I → Type 0
  MayHalt c r = (r.own.local.phase ≢ phase.Gone) × ((c ≡ 1) ⊎ (c ≡ 2))
      × (c ≡ 1 → r.own.params.limit < r.own.last)

  abbrev pub MaySettle : {V : Type 0} → (Q → I → List I) → (Q → I → V) → (V → V → V) → V → ℕ
      → List I → V
      → View Q I → Type 0
  MaySettle children value combine unit done rest gain r =
      IsFree r × May r.own (event.Batch r.own.place) × (1 ≤ done) × (done ≤ r.own.params.batch)
      × (r.own.last ≤ r.own.params.limit)
      × ((taken : List I) × Moves (children r.program) r.own.local.bag taken rest
      × (length taken ≡ done)
      × (gain ≡ combined (value r.program) combine unit taken))

  -- what a gift did to the view
  abbrev pub Gave : EdgeName → List I → View Q I → View Q I → Type 0
  Gave n xs r r' =
      Gives (gave_at n) xs r.own r'.own × (r'.program ≡ r.program) × (r'.hand ≡ None)
      × (r'.steps ≡ r.steps + 2)

  -- and its taking
  abbrev pub Took : EdgeName → List I → View Q I → View Q I → Type 0
  Took n xs r r' =
      (r'.own ≡ took_at n xs (xs ++ r.own.local.bag) r.own) × (r'.program ≡ r.program)
      × (r'.hand ≡ None)
      × (r'.steps ≡ r.steps + 2)

  -- and a batch, before which all places had k items
  abbrev pub Settled : {V : Type 0} → (Q → I → List I) → (Q → I → V) → V → (V → V → V) → ℕ → List I
      → V → ℕ
      → View Q I → View Q I → Type 0
  Settled children value unit combine done rest gain k r r' =
      Settles (children r.program) (value r.program) unit combine done rest gain (k + done) r.own
      r'.own
      × (r'.program ≡ r.program) × (r'.hand ≡ None) × (r'.steps ≡ r.steps + 1) × (r'.found ≡ k)
      × (k + done < 2 ^ 64)
