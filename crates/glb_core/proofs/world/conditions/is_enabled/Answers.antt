use Rattle.std.proofs.Common.{◌≡◌, ◌<◌, true, arith, get_or, length, ap, sym, ◌∙◌, subst, All}
use Rattle.glb_cube.specs.Lines.{IsLine}
use Rattle.glb_rules.specs.Events.{actor, edge_of}
use Rattle.glb_rules.specs.declared.kinds.Phase.TheVariants as phase
use Rattle.glb_rules.specs.declared.kinds.Mark.TheVariants as mark
use Rattle.glb_rules.specs.declared.event.Event.TheVariants as event
use Rattle.glb_core.specs.Tables.{view_of, mark_index}
use Rattle.glb_core.specs.inner.Effects.{named_edge_index}
use Rattle.glb_core.specs.inner.Conditions.{MayMint, MayBatch, MaySleep}
use Rattle.glb_core.proofs.Tables.EdgeRows.{edge_index_below, mark_below}
use Rattle.glb_core.proofs.Tables.Views.{found_of, local_found, edge_found, place_row_shown}
use Rattle.glb_core.proofs.Events.Conditions.{Iff, arm, all_near, edge_there, look_told, ask_told}
use Rattle.glb_core.proofs.Events.Conditions.{deny_told, give_told, take_told, burn_told}
use Rattle.glb_core.proofs.Events.Conditions.{shrug_told, leave_told, halt_told, batch_told}
use Rattle.glb_core.proofs.Events.Conditions.{mint_told, sleep_told}
use Rattle.glb_core.proofs.world.conditions.is_enabled.Goals as goal

pub bounds-edge_rows-edge_index_of : goal.bounds-edge_rows-edge_index_of
bounds-edge_rows-edge_index_of g c =
    let S = c.requires.sound.2.shows in
    let n = c.places-places.ensures.places in
    omega (
      arith,
      S.edge_rows,
      ap length c.as_slice-edge_rows.ensures.value,
      c.edge_index_of.ensures
          ∙ ap (λ m. named_edge_index m c.args.event) n,
      edge_index_below c.args.tables.now.lines.places (edge_of c.args.event).kind (edge_of c.args.event).thief
          (edge_of c.args.event).victim c.requires.named.1 c.requires.named.2,
    )

pub offset_bounds-edge_rows-edge_index_of : goal.offset_bounds-edge_rows-edge_index_of
offset_bounds-edge_rows-edge_index_of g c = omega (arith, bounds-edge_rows-edge_index_of g c)

pub may_look-requires : goal.may_look-requires
may_look-requires g c =
    let r = c.index-place_rows-place.result in
    let m = ap actor c.in-Look.is in
    let R = place_row_shown g.B.Bag.items c.requires.sound.0 (view_of c.args.tables.now) c.requires.sound.1
    c.requires.sound.2 (actor c.args.event) c.place.result r c.place.ensures c.requires.named.0
    (c.index-place_rows-place.is
    ∙ ap (λ xs. get_or xs c.place.result r) c.as_slice-place_rows.ensures.value) in
    let thief : c.in-Look.thief < c.args.tables.now.lines.places =
    subst (λ e. (edge_of e).thief < c.args.tables.now.lines.places) c.in-Look.is c.requires.named.1 in
    omega (
      arith,
      R.many,
      r.marks.ok.0,
      c.mark_index.ensures
          ∙ ap (λ m. mark_index m c.in-Look.kind c.in-Look.thief) c.places-places.ensures.places,
      mark_below c.args.tables.now.lines.places c.in-Look.kind c.in-Look.thief thief,
    )

pub may_batch-requires-clause-thieves : goal.may_batch-requires-clause-thieves
may_batch-requires-clause-thieves g c =
    subst (λ n. All (λ t. t < n) c.into.result.now) (sym c.places-places.ensures.places)
    (all_near c.args.tables.now.lines.places c.into.result.now
    (λ t. IsLine c.args.tables.now.lines t c.in-Batch.place) c.into.ensures.exact)

pub may_mint-requires-clause-thieves : goal.may_mint-requires-clause-thieves
may_mint-requires-clause-thieves g c =
    subst (λ n. All (λ t. t < n) c.into-in-Mint.result.now) (sym c.places-places.ensures.places)
    (all_near c.args.tables.now.lines.places c.into-in-Mint.result.now
    (λ t. IsLine c.args.tables.now.lines t c.in-Mint.place) c.into-in-Mint.ensures.exact)

pub may_sleep-requires-clause-victims : goal.may_sleep-requires-clause-victims
may_sleep-requires-clause-victims g c =
    subst (λ n. All (λ t. t < n) c.out.result.now) (sym c.places-places.ensures.places) c.out.ensures.near

pub returns-in-Look : goal.returns-in-Look
returns-in-Look g c =
    let x = view_of c.args.tables.now in
    let n = c.places-places.ensures.places in
    let r = c.index-place_rows-place.result in
    let z = c.index-edge_rows-edge_index_of.result in
    let items = g.B.Bag.items in
    let f = found_of x c.args.event _ _ _ r z _ _ c.requires.named c.place.ensures
    c.edge_index_of.ensures n c.index-place_rows-place.is c.as_slice-place_rows.ensures.value
    c.index-edge_rows-edge_index_of.is c.as_slice-edge_rows.ensures.value in
    arm items x c.args.event (event.Look c.in-Look.place c.in-Look.thief c.in-Look.kind) c.place.result
    c.edge_index_of.result r z c.may_look.result _ c.in-Look.is f
    (subst (λ m. Iff (c.may_look.result ≡ true)
    ((r.phase ≡ phase.Working) × (c.is_there.result ≡ true)
    × (get_or r.marks.items m mark.Unseen ≡ mark.Unseen)))
    (c.mark_index.ensures ∙ ap (λ m. mark_index m c.in-Look.kind c.in-Look.thief) n) c.may_look.ensures)
    (λ f s w S. let R =
    local_found items s x w (event.Look c.in-Look.place c.in-Look.thief c.in-Look.kind)
    c.place.result c.edge_index_of.result r z f S
    in look_told items s x w S c.in-Look.place r R f.below.0 c.in-Look.thief c.in-Look.kind
    c.is_there.result f.below.1
    (edge_there items s x w S c.in-Look.kind c.in-Look.thief c.in-Look.place c.is_there.result
    f.below.1 c.is_there.ensures.steal c.is_there.ensures.line))

pub returns-in-Ask : goal.returns-in-Ask
returns-in-Ask g c =
    let x = view_of c.args.tables.now in
    let n = c.places-places.ensures.places in
    let r = c.index-place_rows-place.result in
    let z = c.index-edge_rows-edge_index_of.result in
    let items = g.B.Bag.items in
    let f = found_of x c.args.event _ _ _ r z _ _ c.requires.named c.place.ensures
    c.edge_index_of.ensures n c.index-place_rows-place.is c.as_slice-place_rows.ensures.value
    c.index-edge_rows-edge_index_of.is c.as_slice-edge_rows.ensures.value in
    arm items x c.args.event (event.Ask c.in-Ask.place c.in-Ask.victim c.in-Ask.kind) c.place.result
    c.edge_index_of.result r z c.may_ask.result _ c.in-Ask.is f
    (λ h. h, λ h. h)
    (λ f s w S. let R =
    local_found items s x w (event.Ask c.in-Ask.place c.in-Ask.victim c.in-Ask.kind) c.place.result
    c.edge_index_of.result r z f S in
    let E = edge_found items s x w (event.Ask c.in-Ask.place c.in-Ask.victim c.in-Ask.kind)
    c.place.result c.edge_index_of.result r z f S
    in ask_told items s x w S c.in-Ask.place r R f.below.0 c.in-Ask.victim c.in-Ask.kind z
    c.is_there-in-Ask.result c.may_ask.result E
    (edge_there items s x w S c.in-Ask.kind c.in-Ask.place c.in-Ask.victim c.is_there-in-Ask.result
    f.below.1 c.is_there-in-Ask.ensures.steal c.is_there-in-Ask.ensures.line) c.may_ask.ensures.steal
    c.may_ask.ensures.line)

pub returns-in-Deny : goal.returns-in-Deny
returns-in-Deny g c =
    let x = view_of c.args.tables.now in
    let n = c.places-places.ensures.places in
    let r = c.index-place_rows-place.result in
    let z = c.index-edge_rows-edge_index_of.result in
    let items = g.B.Bag.items in
    let f = found_of x c.args.event _ _ _ r z _ _ c.requires.named c.place.ensures
    c.edge_index_of.ensures n c.index-place_rows-place.is c.as_slice-place_rows.ensures.value
    c.index-edge_rows-edge_index_of.is c.as_slice-edge_rows.ensures.value in
    arm items x c.args.event (event.Deny c.in-Deny.place c.in-Deny.thief c.in-Deny.kind) c.place.result
    c.edge_index_of.result r z c.may_deny.result _ c.in-Deny.is f
    c.may_deny.ensures
    (λ f s w S. let R =
    local_found items s x w (event.Deny c.in-Deny.place c.in-Deny.thief c.in-Deny.kind)
    c.place.result c.edge_index_of.result r z f S in
    let E = edge_found items s x w (event.Deny c.in-Deny.place c.in-Deny.thief c.in-Deny.kind)
    c.place.result c.edge_index_of.result r z f S
    in deny_told items s x w S c.in-Deny.place r R f.below.0 c.in-Deny.thief c.in-Deny.kind z E)

pub returns-in-Give : goal.returns-in-Give
returns-in-Give g c =
    let x = view_of c.args.tables.now in
    let n = c.places-places.ensures.places in
    let r = c.index-place_rows-place.result in
    let z = c.index-edge_rows-edge_index_of.result in
    let items = g.B.Bag.items in
    let f = found_of x c.args.event _ _ _ r z _ _ c.requires.named c.place.ensures
    c.edge_index_of.ensures n c.index-place_rows-place.is c.as_slice-place_rows.ensures.value
    c.index-edge_rows-edge_index_of.is c.as_slice-edge_rows.ensures.value in
    arm items x c.args.event (event.Give c.in-Give.place c.in-Give.thief c.in-Give.kind) c.place.result
    c.edge_index_of.result r z c.may_give.result _ c.in-Give.is f
    c.may_give.ensures
    (λ f s w S. let R =
    local_found items s x w (event.Give c.in-Give.place c.in-Give.thief c.in-Give.kind)
    c.place.result c.edge_index_of.result r z f S in
    let E = edge_found items s x w (event.Give c.in-Give.place c.in-Give.thief c.in-Give.kind)
    c.place.result c.edge_index_of.result r z f S
    in give_told items s x w S c.in-Give.place r R f.below.0 c.in-Give.thief c.in-Give.kind z E)

pub returns-in-Take : goal.returns-in-Take
returns-in-Take g c =
    let x = view_of c.args.tables.now in
    let n = c.places-places.ensures.places in
    let r = c.index-place_rows-place.result in
    let z = c.index-edge_rows-edge_index_of.result in
    let items = g.B.Bag.items in
    let f = found_of x c.args.event _ _ _ r z _ _ c.requires.named c.place.ensures
    c.edge_index_of.ensures n c.index-place_rows-place.is c.as_slice-place_rows.ensures.value
    c.index-edge_rows-edge_index_of.is c.as_slice-edge_rows.ensures.value in
    arm items x c.args.event (event.Take c.in-Take.place c.in-Take.victim c.in-Take.kind)
    c.place.result c.edge_index_of.result r z c.may_take.result _ c.in-Take.is f
    c.may_take.ensures
    (λ f s w S. let R =
    local_found items s x w (event.Take c.in-Take.place c.in-Take.victim c.in-Take.kind)
    c.place.result c.edge_index_of.result r z f S in
    let E = edge_found items s x w (event.Take c.in-Take.place c.in-Take.victim c.in-Take.kind)
    c.place.result c.edge_index_of.result r z f S
    in take_told items s x w S c.in-Take.place r R f.below.0 c.in-Take.victim c.in-Take.kind z E)

pub returns-in-Burn : goal.returns-in-Burn
returns-in-Burn g c =
    let x = view_of c.args.tables.now in
    let n = c.places-places.ensures.places in
    let r = c.index-place_rows-place.result in
    let z = c.index-edge_rows-edge_index_of.result in
    let items = g.B.Bag.items in
    let f = found_of x c.args.event _ _ _ r z _ _ c.requires.named c.place.ensures
    c.edge_index_of.ensures n c.index-place_rows-place.is c.as_slice-place_rows.ensures.value
    c.index-edge_rows-edge_index_of.is c.as_slice-edge_rows.ensures.value in
    arm items x c.args.event (event.Burn c.in-Burn.place) c.place.result c.edge_index_of.result r z
    c.may_burn.result _ c.in-Burn.is f
    c.may_burn.ensures
    (λ f s w S. let R =
    local_found items s x w (event.Burn c.in-Burn.place) c.place.result c.edge_index_of.result r z f S
    in burn_told items s x w S c.in-Burn.place r R f.below.0)

pub returns-in-Shrug : goal.returns-in-Shrug
returns-in-Shrug g c =
    let x = view_of c.args.tables.now in
    let n = c.places-places.ensures.places in
    let r = c.index-place_rows-place.result in
    let z = c.index-edge_rows-edge_index_of.result in
    let items = g.B.Bag.items in
    let f = found_of x c.args.event _ _ _ r z _ _ c.requires.named c.place.ensures
    c.edge_index_of.ensures n c.index-place_rows-place.is c.as_slice-place_rows.ensures.value
    c.index-edge_rows-edge_index_of.is c.as_slice-edge_rows.ensures.value in
    arm items x c.args.event (event.Shrug c.in-Shrug.place c.in-Shrug.victim c.in-Shrug.kind)
    c.place.result c.edge_index_of.result r z c.may_shrug.result _ c.in-Shrug.is f
    c.may_shrug.ensures
    (λ f s w S. let R =
    local_found items s x w (event.Shrug c.in-Shrug.place c.in-Shrug.victim c.in-Shrug.kind)
    c.place.result c.edge_index_of.result r z f S in
    let E = edge_found items s x w (event.Shrug c.in-Shrug.place c.in-Shrug.victim c.in-Shrug.kind)
    c.place.result c.edge_index_of.result r z f S
    in shrug_told items s x w S c.in-Shrug.place r R f.below.0 c.in-Shrug.victim c.in-Shrug.kind z E)

pub returns-in-Leave : goal.returns-in-Leave
returns-in-Leave g c =
    let x = view_of c.args.tables.now in
    let n = c.places-places.ensures.places in
    let r = c.index-place_rows-place.result in
    let z = c.index-edge_rows-edge_index_of.result in
    let items = g.B.Bag.items in
    let f = found_of x c.args.event _ _ _ r z _ _ c.requires.named c.place.ensures
    c.edge_index_of.ensures n c.index-place_rows-place.is c.as_slice-place_rows.ensures.value
    c.index-edge_rows-edge_index_of.is c.as_slice-edge_rows.ensures.value in
    arm items x c.args.event (event.Leave c.in-Leave.place) c.place.result c.edge_index_of.result r z
    c.may_leave.result _ c.in-Leave.is f
    c.may_leave.ensures
    (λ f s w S. let R =
    local_found items s x w (event.Leave c.in-Leave.place) c.place.result c.edge_index_of.result r z f S
    in leave_told items s x w S c.in-Leave.place r R f.below.0)

pub returns-in-Halt : goal.returns-in-Halt
returns-in-Halt g c =
    let x = view_of c.args.tables.now in
    let n = c.places-places.ensures.places in
    let r = c.index-place_rows-place.result in
    let z = c.index-edge_rows-edge_index_of.result in
    let items = g.B.Bag.items in
    let f = found_of x c.args.event _ _ _ r z _ _ c.requires.named c.place.ensures
    c.edge_index_of.ensures n c.index-place_rows-place.is c.as_slice-place_rows.ensures.value
    c.index-edge_rows-edge_index_of.is c.as_slice-edge_rows.ensures.value in
    arm items x c.args.event (event.Halt c.in-Halt.place c.in-Halt.code) c.place.result
    c.edge_index_of.result r z c.may_halt.result _ c.in-Halt.is f
    c.may_halt.ensures
    (λ f s w S. let R =
    local_found items s x w (event.Halt c.in-Halt.place c.in-Halt.code) c.place.result
    c.edge_index_of.result r z f S in halt_told items s x w S c.in-Halt.place r R f.below.0 c.in-Halt.code)

pub returns-in-Batch : goal.returns-in-Batch
returns-in-Batch g c =
    let x = view_of c.args.tables.now in
    let n = c.places-places.ensures.places in
    let r = c.index-place_rows-place.result in
    let z = c.index-edge_rows-edge_index_of.result in
    let items = g.B.Bag.items in
    let f = found_of x c.args.event _ _ _ r z _ _ c.requires.named c.place.ensures
    c.edge_index_of.ensures n c.index-place_rows-place.is c.as_slice-place_rows.ensures.value
    c.index-edge_rows-edge_index_of.is c.as_slice-edge_rows.ensures.value in
    arm items x c.args.event (event.Batch c.in-Batch.place) c.place.result c.edge_index_of.result r z
    c.may_batch.result _ c.in-Batch.is f
    (subst (λ ts. Iff (c.may_batch.result ≡ true)
    (MayBatch items r x.edge_rows x.cube.places c.in-Batch.place ts)) c.into.ensures.sources
    (subst (λ sl. Iff (c.may_batch.result ≡ true)
    (MayBatch items r sl x.cube.places c.in-Batch.place c.into.result.now))
    c.as_slice-edge_rows.ensures.value
    (subst (λ m. Iff (c.may_batch.result ≡ true)
    (MayBatch items r c.as_slice-edge_rows.result.now m c.in-Batch.place c.into.result.now)) n
    c.may_batch.ensures)))
    (λ f s w S. let R =
    local_found items s x w (event.Batch c.in-Batch.place) c.place.result c.edge_index_of.result r z f S
    in batch_told items s x w S c.in-Batch.place r R f.below.0)

pub returns-in-Mint : goal.returns-in-Mint
returns-in-Mint g c =
    let x = view_of c.args.tables.now in
    let n = c.places-places.ensures.places in
    let r = c.index-place_rows-place.result in
    let z = c.index-edge_rows-edge_index_of.result in
    let items = g.B.Bag.items in
    let f = found_of x c.args.event _ _ _ r z _ _ c.requires.named c.place.ensures
    c.edge_index_of.ensures n c.index-place_rows-place.is c.as_slice-place_rows.ensures.value
    c.index-edge_rows-edge_index_of.is c.as_slice-edge_rows.ensures.value in
    arm items x c.args.event (event.Mint c.in-Mint.place) c.place.result c.edge_index_of.result r z
    c.may_mint.result _ c.in-Mint.is f
    (subst (λ ts. Iff (c.may_mint.result ≡ true)
    (MayMint items r x.edge_rows x.cube.places c.in-Mint.place ts)) c.into-in-Mint.ensures.sources
    (subst (λ sl. Iff (c.may_mint.result ≡ true)
    (MayMint items r sl x.cube.places c.in-Mint.place c.into-in-Mint.result.now))
    c.as_slice-edge_rows.ensures.value
    (subst (λ m. Iff (c.may_mint.result ≡ true)
    (MayMint items r c.as_slice-edge_rows.result.now m c.in-Mint.place c.into-in-Mint.result.now)) n
    c.may_mint.ensures)))
    (λ f s w S. let R =
    local_found items s x w (event.Mint c.in-Mint.place) c.place.result c.edge_index_of.result r z f S
    in mint_told items s x w S c.in-Mint.place r R f.below.0)

pub returns-in-Sleep : goal.returns-in-Sleep
returns-in-Sleep g c =
    let x = view_of c.args.tables.now in
    let n = c.places-places.ensures.places in
    let r = c.index-place_rows-place.result in
    let z = c.index-edge_rows-edge_index_of.result in
    let items = g.B.Bag.items in
    let f = found_of x c.args.event _ _ _ r z _ _ c.requires.named c.place.ensures
    c.edge_index_of.ensures n c.index-place_rows-place.is c.as_slice-place_rows.ensures.value
    c.index-edge_rows-edge_index_of.is c.as_slice-edge_rows.ensures.value in
    arm items x c.args.event (event.Sleep c.in-Sleep.place) c.place.result c.edge_index_of.result r z
    c.may_sleep.result _ c.in-Sleep.is f
    (subst (λ ts. Iff (c.may_sleep.result ≡ true) (MaySleep r x.edge_rows x.cube.places c.in-Sleep.place ts))
    c.out.ensures.targets
    (subst (λ sl. Iff (c.may_sleep.result ≡ true)
    (MaySleep r sl x.cube.places c.in-Sleep.place c.out.result.now)) c.as_slice-edge_rows.ensures.value
    (subst (λ m. Iff (c.may_sleep.result ≡ true)
    (MaySleep r c.as_slice-edge_rows.result.now m c.in-Sleep.place c.out.result.now)) n
    c.may_sleep.ensures)))
    (λ f s w S. let R =
    local_found items s x w (event.Sleep c.in-Sleep.place) c.place.result c.edge_index_of.result r z f S
    in sleep_told items s x w S c.in-Sleep.place r R f.below.0)
