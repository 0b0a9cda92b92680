-- Steps on live: Mint, Burn, Sleep, and a read that may be Leave.
use Rattle.std.proofs.Common.{◌≡◌, ◌≢◌, ℕ, eqb, ◌+◌, ◌-◌, ◌%◌, ◌<◌, ◌≤◌, [], ◌∷◌, map, set, length, Bool, true, false, cond, refl, sym, ap, ◌∙◌, subst, inl, arith, eq-eqb, ne_eqb}
use Rattle.std.specs.Prelude.{slice_index}
use Rattle.std.proofs.Math.Nat.{mod-eq_of_lt}
use mathlib.Core.Option.{some}
use mathlib.Core.Option as maybe
use native.Mathlib.Decide.{ℕ_discrete}
use lib.ListN.{get_elem?}
use Rattle.atomic_table.specs.Table.{keeps, Allows, step}
use Rattle.glb_rules.specs.World.{credit_count}
use Rattle.glb_rules.specs.Steps.{Step}
use Rattle.glb_rules.specs.Lawful.{PhaseFits}
use Rattle.glb_rules.proofs.Finish.Histories.{live_small}
use Rattle.glb_rules.specs.declared.local.Local.{Local}
use Rattle.glb_rules.specs.declared.event.Event.TheVariants as event
use Rattle.glb_rules.specs.declared.kinds.Phase.TheVariants as phase
use Rattle.glb_rules.specs.declared.kinds.Credit.TheVariants as credit
use Rattle.glb_place.specs.Records.{May}
use Rattle.glb_place.specs.Rows.{over_row}
use Rattle.glb_cells.specs.declared.view.View.{View}
use Rattle.glb_cells.specs.Words.{word_of}
use Rattle.glb_cells.specs.Shows.{Fixed, total, items_of, Shows, Table, world_of}
use Rattle.glb_cells.specs.Plays.{after_step, minted_on, burnt_on, slept_on, ended_on, Mints, Burns, Sleeps, Overs, slots_of}
use Rattle.glb_cells.proofs.StepLemmas.Keeps.{Count, number_goes, number_stays}
use Rattle.glb_cells.proofs.StepLemmas.Owning.{Mine, mine_of, owned}
use Rattle.glb_cells.proofs.StepLemmas.Counts.{less_one, here, apt, lawful, within, live_word, shown_part, credited, same_count, sum_same, word_set}

module _ {B Q I : Type 0} (Γ : Fixed B Q I) (s : Table Γ) (h : Shows Γ s) (id : ℕ) (r : View Q I)
    (at : get_elem? s.views id ≡ some (r ∷ [])) where
  -- the event Mint
  pub mint_goes : May r.own (event.Mint r.own.place)
      → (k : Shows Γ (word_set Γ s h id r at 0 ((slice_index s.words 0 + 1) % 18446744073709551616)
      (minted_on (slice_index s.words 0) r)))
      × Step (Γ.children Γ.program) Γ.lines (world_of Γ s h) (event.Mint r.own.place)
      (world_of Γ (word_set Γ s h id r at 0 ((slice_index s.words 0 + 1) % 18446744073709551616)
      (minted_on (slice_index s.words 0) r)) k)
  mint_goes may =
      let o : Mine Γ.lines r.own (event.Mint r.own.place) =
      mine_of Γ r (apt Γ s h id r at).told (event.Mint r.own.place) may in
      let k : ℕ = slice_index s.words 0 in
      let r' : View Q I = minted_on k r in
      let small = live_small Γ.lines (world_of Γ s h) h.grounded.few (lawful Γ s h id r at) in
      let one : credit_count r.own.local.credit ≡ 1 = ap credit_count o.able.1 in
      let some_live : 1 ≤ h.live = (let c = (credited Γ s h id r at) in omega arith) in
      let is = (live_word Γ s h id r at) in
      let room : (k + 1) % 18446744073709551616 ≡ h.live + 1 = mod-eq_of_lt (omega arith)
      ∙ ap (λ (z : ℕ). z + 1) is in
      let c = (apt Γ s h id r at).numbers in
      let C : Count Γ s h r r' (h.live + 1) h.stop =
      same_count Γ s h id r at r' refl (λ t. record { program = t.program; lines = t.lines; limit = t.limit })
      refl refl refl (h.live + 1) (λ z. absurd (omega arith))
      (λ z. let y : h.live ≡ 0 = c.over z in absurd (omega arith)) c.code
      (λ j m d x. record { out = x.out; inward = x.inward; busy = x.busy; at_it = x.at_it })
      (λ x. x) in
      number_goes Γ s h id r r' at (event.Mint r.own.place) C refl o.within
      (owned Γ s h r (here Γ s h id r at) (event.Mint r.own.place) tt tt o) [] [] (λ x. tt) (λ x. refl)
      (λ x. refl)
      (set s.words 0 ((k + 1) % 18446744073709551616))
      (ap (λ ws. set ws 0 ((k + 1) % 18446744073709551616)) h.words
      ∙ (λ i. room i ∷ sym (sum_same Γ s h id r at r' refl) i ∷ h.stop ∷ map word_of h.cells))

  -- the event Burn
  pub burn_goes : slice_index s.words 0 < 18446744073709551616 → May r.own (event.Burn r.own.place)
      → (k : Shows Γ (word_set Γ s h id r at 0 ((slice_index s.words 0 + 18446744073709551615) %
      18446744073709551616) (burnt_on (slice_index s.words 0) r)))
      × Step (Γ.children Γ.program) Γ.lines (world_of Γ s h) (event.Burn r.own.place)
      (world_of Γ (word_set Γ s h id r at 0 ((slice_index s.words 0 + 18446744073709551615) %
      18446744073709551616) (burnt_on (slice_index s.words 0) r)) k)
  burn_goes lt may =
      let o : Mine Γ.lines r.own (event.Burn r.own.place) =
      mine_of Γ r (apt Γ s h id r at).told (event.Burn r.own.place) may in
      let k : ℕ = slice_index s.words 0 in
      let r' : View Q I = burnt_on k r in
      let two : credit_count r.own.local.credit ≡ 2 = ap credit_count o.able in
      let some_live : 1 ≤ h.live = (let c = (credited Γ s h id r at) in omega arith) in
      let room : (k + 18446744073709551615) % 18446744073709551616 ≡ h.live - 1 =
      less_one k h.live (live_word Γ s h id r at) some_live lt in
      let c = (apt Γ s h id r at).numbers in
      let C : Count Γ s h r r' (h.live - 1) h.stop =
      same_count Γ s h id r at r' refl (λ t. record { program = t.program; lines = t.lines; limit = t.limit })
      refl refl refl (h.live - 1) (λ z. omega arith)
      (λ z. let y : h.live ≡ 0 = c.over z in omega arith) c.code
      (λ j m d x. record { out = x.out; inward = x.inward; busy = x.busy; at_it = x.at_it })
      (λ x. x) in
      number_goes Γ s h id r r' at (event.Burn r.own.place) C refl o.within
      (owned Γ s h r (here Γ s h id r at) (event.Burn r.own.place) tt tt o) [] [] (λ x. tt) (λ x. refl)
      (λ x. refl)
      (set s.words 0 ((k + 18446744073709551615) % 18446744073709551616))
      (ap (λ ws. set ws 0 ((k + 18446744073709551615) % 18446744073709551616)) h.words
      ∙ (λ i. room i ∷ sym (sum_same Γ s h id r at r' refl) i ∷ h.stop ∷ map word_of h.cells))

  idle_credit : r.own.local.phase ≡ phase.Idle → r.own.local.credit ≡ credit.One
  idle_credit idle =
      let f = ((lawful Γ s h id r at).inner r.own.place (within Γ s h id r at)).fits in
      let g : PhaseFits r.own.local.phase r.own.local.credit (length r.own.local.bag) =
      subst (λ (x : Local I). PhaseFits x.phase x.credit (length x.bag)) (shown_part Γ s h id r at) f in
      (subst (λ y. PhaseFits y r.own.local.credit (length r.own.local.bag)) idle g).1

  -- the event Sleep
  pub sleep_goes : slice_index s.words 0 < 18446744073709551616
      → May r.own (event.Sleep r.own.place)
      → (k : Shows Γ (word_set Γ s h id r at 0 ((slice_index s.words 0 + 18446744073709551615) %
      18446744073709551616) (slept_on (slice_index s.words 0) r)))
      × Step (Γ.children Γ.program) Γ.lines (world_of Γ s h) (event.Sleep r.own.place)
      (world_of Γ (word_set Γ s h id r at 0 ((slice_index s.words 0 + 18446744073709551615) %
      18446744073709551616) (slept_on (slice_index s.words 0) r)) k)
  sleep_goes lt may =
      let o : Mine Γ.lines r.own (event.Sleep r.own.place) =
      mine_of Γ r (apt Γ s h id r at).told (event.Sleep r.own.place) may in
      let k : ℕ = slice_index s.words 0 in
      let r' : View Q I = slept_on k r in
      let one : credit_count r.own.local.credit ≡ 1 = ap credit_count (idle_credit o.able.0) in
      let some_live : 1 ≤ h.live = (let c = (credited Γ s h id r at) in omega arith) in
      let room : (k + 18446744073709551615) % 18446744073709551616 ≡ h.live - 1 =
      less_one k h.live (live_word Γ s h id r at) some_live lt in
      let c = (apt Γ s h id r at).numbers in
      let C : Count Γ s h r r' (h.live - 1) h.stop =
      same_count Γ s h id r at r' refl (λ t. record { program = t.program; lines = t.lines; limit = t.limit })
      refl refl refl (h.live - 1) (λ z. omega arith)
      (λ z. let y : h.live ≡ 0 = c.over z in omega arith) c.code
      (λ j m d x. record { out = x.out; inward = x.inward; busy = x.busy; at_it = x.at_it })
      (λ x. x) in
      number_goes Γ s h id r r' at (event.Sleep r.own.place) C refl o.within
      (owned Γ s h r (here Γ s h id r at) (event.Sleep r.own.place) tt tt o) [] [] (λ x. tt) (λ x. refl)
      (λ x. refl)
      (set s.words 0 ((k + 18446744073709551615) % 18446744073709551616))
      (ap (λ ws. set ws 0 ((k + 18446744073709551615) % 18446744073709551616)) h.words
      ∙ (λ i. room i ∷ sym (sum_same Γ s h id r at r' refl) i ∷ h.stop ∷ map word_of h.cells))

  -- the event Leave where live is 0, else none
  pub over_goes : r.own.local.phase ≢ phase.Gone
      → (k : Shows Γ (word_set Γ s h id r at 0 (slice_index s.words 0) (ended_on (slice_index s.words 0) r)))
      × ((slice_index s.words 0 ≡ 0 → Step (Γ.children Γ.program) Γ.lines (world_of Γ s h)
      (event.Leave r.own.place) (world_of Γ
      (word_set Γ s h id r at 0 (slice_index s.words 0) (ended_on (slice_index s.words 0) r)) k))
      × (slice_index s.words 0 ≢ 0 → world_of Γ
      (word_set Γ s h id r at 0 (slice_index s.words 0) (ended_on (slice_index s.words 0) r)) k ≡ world_of Γ s
      h))
  over_goes stays = by (ℕ_discrete (slice_index s.words 0) 0)
    where
      k : ℕ
      k = slice_index s.words 0

      to : Bool → View Q I
      to b = after_step k (cond b (over_row r.own) r.own) r

      back : (x : View Q I) → items_of x ≡ items_of r
          → set s.words 0 k ≡ h.live ∷ total items_of (set h.recs r.own.place x) ∷ h.stop ∷ map word_of
          h.cells
      back x i = ap (λ ws. set ws 0 k) h.words
          ∙ (λ j. (live_word Γ s h id r at) j ∷ sym (sum_same Γ s h id r at x i) j ∷ h.stop ∷ map word_of h.cells)

      by : Dec (slice_index s.words 0 ≡ 0) → (t : Shows Γ (word_set Γ s h id r at 0 k (to (eqb k 0))))
          × ((k ≡ 0 → Step (Γ.children Γ.program) Γ.lines (world_of Γ s h) (event.Leave r.own.place)
          (world_of Γ (word_set Γ s h id r at 0 k (to (eqb k 0))) t))
          × (k ≢ 0 → world_of Γ (word_set Γ s h id r at 0 k (to (eqb k 0))) t ≡ world_of Γ s h))
      by (yes d) =
          let zero_live : h.live ≡ 0 = sym (live_word Γ s h id r at) ∙ d in
          let C : Count Γ s h r (to true) h.live h.stop =
          same_count Γ s h id r at (to true) refl (λ t. record
          { program = t.program; lines = t.lines; limit = t.limit }) refl refl refl h.live
          (λ z. z) (λ z. zero_live) (apt Γ s h id r at).numbers.code
          (λ j m d x. record { out = x.out; inward = x.inward; busy = x.busy; at_it = x.at_it })
          (λ x. x) in
          let g = number_goes Γ s h id r (to true) at (event.Leave r.own.place) C refl
          ((within Γ s h id r at), (within Γ s h id r at), (within Γ s h id r at)) (stays, inl zero_live) [] [] (λ x. tt) (λ x. refl)
          (λ x. refl) (set s.words 0 k) (back (to true) refl) in
          subst (λ (b : Bool). (t : Shows Γ (word_set Γ s h id r at 0 k (to b)))
          × ((k ≡ 0 → Step (Γ.children Γ.program) Γ.lines (world_of Γ s h)
          (event.Leave r.own.place) (world_of Γ (word_set Γ s h id r at 0 k (to b)) t))
          × (k ≢ 0 → world_of Γ (word_set Γ s h id r at 0 k (to b)) t ≡ world_of Γ s h)))
          (sym (eq-eqb k 0 d)) (g.0, ((λ _. g.1), (λ ne. absurd (ne d))))
      by (no d) =
          let C : Count Γ s h r (to false) h.live h.stop =
          same_count Γ s h id r at (to false) refl (λ t. record
          { program = t.program; lines = t.lines; limit = t.limit }) refl refl refl h.live
          (λ z. z) (apt Γ s h id r at).numbers.over (apt Γ s h id r at).numbers.code
          (λ j m d x. record { out = x.out; inward = x.inward; busy = x.busy; at_it = x.at_it })
          (λ x. x) in
          let g = number_stays Γ s h id r (to false) at C refl (set s.words 0 k)
          (back (to false) refl) in
          subst (λ (b : Bool). (t : Shows Γ (word_set Γ s h id r at 0 k (to b)))
          × ((k ≡ 0 → Step (Γ.children Γ.program) Γ.lines (world_of Γ s h)
          (event.Leave r.own.place) (world_of Γ (word_set Γ s h id r at 0 k (to b)) t))
          × (k ≢ 0 → world_of Γ (word_set Γ s h id r at 0 k (to b)) t ≡ world_of Γ s h)))
          (sym (ne_eqb k 0 d)) (g.0, ((λ z. absurd (d z)), (λ _. g.1)))

module _ {B Q I : Type 0} (Γ : Fixed B Q I) where
  pub mints : (slots id : ℕ) (r : View Q I) → May r.own (event.Mint r.own.place)
      → Allows (Shows Γ) slots id (r ∷ [], slots_of r) 0 (λ n. (n + 1) % 18446744073709551616)
      (Mints (step slots 0 1 0 maybe.none) (r ∷ [], slots_of r))
  mints slots id r may s h len at lt = (
    minted_on (slice_index s.words 0) r ∷ [],
    keeps,
    tt,
    (mint_goes Γ s h id r at may).0,
    refl,
  )

  pub burns : (slots id : ℕ) (r : View Q I) → May r.own (event.Burn r.own.place)
      → Allows (Shows Γ) slots id (r ∷ [], slots_of r) 0
      (λ n. (n + 18446744073709551615) % 18446744073709551616)
      (Burns (step slots 0 1 0 maybe.none) (r ∷ [], slots_of r))
  burns slots id r may s h len at lt = (
    burnt_on (slice_index s.words 0) r ∷ [],
    keeps,
    tt,
    (burn_goes Γ s h id r at lt may).0,
    refl,
  )

  pub sleeps : (slots id : ℕ) (r : View Q I) → May r.own (event.Sleep r.own.place)
      → Allows (Shows Γ) slots id (r ∷ [], slots_of r) 0
      (λ n. (n + 18446744073709551615) % 18446744073709551616)
      (Sleeps (step slots 0 1 0 maybe.none) (r ∷ [], slots_of r))
  sleeps slots id r may s h len at lt = (
    slept_on (slice_index s.words 0) r ∷ [],
    keeps,
    tt,
    (sleep_goes Γ s h id r at lt may).0,
    refl,
  )

  pub overs : (slots id : ℕ) (r : View Q I) → r.own.local.phase ≢ phase.Gone
      → Allows (Shows Γ) slots id (r ∷ [], slots_of r) 0 (λ n. n)
      (Overs (step slots 0 0 0 maybe.none) (r ∷ [], slots_of r))
  overs slots id r stays s h len at lt = (
    ended_on (slice_index s.words 0) r ∷ [],
    keeps,
    tt,
    (over_goes Γ s h id r at stays).0,
    refl,
  )
