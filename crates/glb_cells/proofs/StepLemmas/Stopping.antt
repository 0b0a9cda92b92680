-- Steps on stop and items: a read that may be Leave, Halt and Batch.
use Rattle.std.proofs.Common.{◌≡◌, ◌≢◌, ℕ, eqb, ◌+◌, ◌*◌, ◌%◌, ◌^◌, ◌<◌, ◌≤◌, ◌⊎◌, List, [], ◌∷◌, map, max, set, length, None, Bool, true, false, cond, refl, sym, ap, ◌∙◌, subst, inr, ⊎_elim, arith, eq-eqb, ne_eqb}
use Rattle.std.specs.Prelude.{slice_index}
use Rattle.std.proofs.Math.Nat.{mod-eq_of_lt, mul-le-mul}
use mathlib.Core.Option.{some}
use mathlib.Core.Option as maybe
use native.Mathlib.Decide.{ℕ_discrete, dec_le}
use lib.ListN.{get_elem?}
use Rattle.atomic_table.specs.Table.{keeps, Allows, step}
use Rattle.atomic_table.proofs.Lists.{at_set}
use Rattle.glb_laws.specs.Expansion.{Moves, combined}
use Rattle.glb_rules.specs.World.{state_of}
use Rattle.glb_rules.specs.Effects.{place_after}
use Rattle.glb_rules.specs.Steps.{Step}
use Rattle.glb_rules.specs.declared.event.Event.TheVariants as event
use Rattle.glb_rules.specs.declared.kinds.Phase.TheVariants as phase
use Rattle.glb_place.specs.Records.{May}
use Rattle.glb_place.specs.Rows.{halt_row, leave_row}
use Rattle.glb_cells.specs.declared.view.View.{View}
use Rattle.glb_cells.specs.Words.{word_of}
use Rattle.glb_cells.specs.Shows.{part_of, Fixed, total, items_of, above, Numbers, Shows, Table, world_of}
use Rattle.glb_cells.specs.Plays.{after_step, stopped_on, halted_on, settled_on, Halts, Stops, Settles, slots_of}
use Rattle.glb_cells.proofs.StepLemmas.ListFacts.{total_set}
use Rattle.glb_cells.proofs.StepLemmas.Keeps.{Count, number_goes, number_stays}
use Rattle.glb_cells.proofs.StepLemmas.Shown.{same_numbers}
use Rattle.glb_cells.proofs.StepLemmas.Reading.{none_some}
use Rattle.glb_cells.proofs.StepLemmas.Owning.{Mine, mine_of, owned}
use Rattle.glb_cells.proofs.StepLemmas.Counts.{above_none, above_one, above_most, here, apt, within, same_count, sum_same, word_set}

module _ {B Q I : Type 0} (Γ : Fixed B Q I) (s : Table Γ) (h : Shows Γ s) (id : ℕ) (r : View Q I)
    (at : get_elem? s.views id ≡ some (r ∷ [])) where
  stop_word : slice_index s.words 2 ≡ h.stop
  stop_word = ap (λ (ws : List ℕ). slice_index ws 2) h.words

  -- the event Leave where the code is not 0, else none
  pub stop_goes : r.own.local.phase ≢ phase.Gone
      → (k : Shows Γ (word_set Γ s h id r at 2 (slice_index s.words 2) (stopped_on (slice_index s.words 2) r)))
      × ((slice_index s.words 2 ≢ 0 → Step (Γ.children Γ.program) Γ.lines (world_of Γ s h)
      (event.Leave r.own.place) (world_of Γ
      (word_set Γ s h id r at 2 (slice_index s.words 2) (stopped_on (slice_index s.words 2) r)) k))
      × (slice_index s.words 2 ≡ 0 → world_of Γ
      (word_set Γ s h id r at 2 (slice_index s.words 2) (stopped_on (slice_index s.words 2) r)) k ≡ world_of Γ
      s h))
  stop_goes stays = by (ℕ_discrete (slice_index s.words 2) 0)
    where
      k : ℕ
      k = slice_index s.words 2

      to : Bool → View Q I
      to b = after_step k (cond b (halt_row k r.own) (leave_row (halt_row k r.own))) r

      back : (x : View Q I) → items_of x ≡ items_of r
          → set s.words 2 k ≡ h.live ∷ total items_of (set h.recs r.own.place x) ∷ h.stop ∷ map word_of
          h.cells
      back x i = ap (λ ws. set ws 2 k) h.words
          ∙ (λ j. h.live ∷ sym (sum_same Γ s h id r at x i) j ∷ stop_word j ∷ map word_of h.cells)

      code : max r.own.code k ≤ h.stop
      code = let c = (apt Γ s h id r at).numbers.code in let w : slice_index s.words 2 ≡ h.stop = stop_word in
          omega arith

      count : (b : Bool) → items_of (to b) ≡ items_of r → Count Γ s h r (to b) h.live h.stop
      count true i = same_count Γ s h id r at (to true) refl
          (λ t. record { program = t.program; lines = t.lines; limit = t.limit }) refl refl refl
          h.live (λ z. z) (apt Γ s h id r at).numbers.over code
          (λ j m d x. record { out = x.out; inward = x.inward; busy = x.busy; at_it = x.at_it })
          (λ x. x)
      count false i = same_count Γ s h id r at (to false) refl
          (λ t. record { program = t.program; lines = t.lines; limit = t.limit }) refl refl refl
          h.live (λ z. z) (apt Γ s h id r at).numbers.over code
          (λ j m d x. record { out = x.out; inward = x.inward; busy = x.busy; at_it = x.at_it })
          (λ x. x)

      by : Dec (slice_index s.words 2 ≡ 0) → (t : Shows Γ (word_set Γ s h id r at 2 k (to (eqb k 0))))
          × ((k ≢ 0 → Step (Γ.children Γ.program) Γ.lines (world_of Γ s h) (event.Leave r.own.place)
          (world_of Γ (word_set Γ s h id r at 2 k (to (eqb k 0))) t))
          × (k ≡ 0 → world_of Γ (word_set Γ s h id r at 2 k (to (eqb k 0))) t ≡ world_of Γ s h))
      by (no d) =
          let halted : h.stop ≢ 0 = λ z. d (stop_word ∙ z) in
          let g = number_goes Γ s h id r (to false) at (event.Leave r.own.place) (count false refl)
          refl ((within Γ s h id r at), (within Γ s h id r at), (within Γ s h id r at)) (stays, inr halted) [] [] (λ x. tt) (λ x. refl)
          (λ x. refl) (set s.words 2 k) (back (to false) refl) in
          subst (λ (b : Bool). (t : Shows Γ (word_set Γ s h id r at 2 k (to b)))
          × ((k ≢ 0 → Step (Γ.children Γ.program) Γ.lines (world_of Γ s h)
          (event.Leave r.own.place) (world_of Γ (word_set Γ s h id r at 2 k (to b)) t))
          × (k ≡ 0 → world_of Γ (word_set Γ s h id r at 2 k (to b)) t ≡ world_of Γ s h)))
          (sym (ne_eqb k 0 d)) (g.0, ((λ _. g.1), (λ z. absurd (d z))))
      by (yes d) =
          let g = number_stays Γ s h id r (to true) at (count true refl) refl (set s.words 2 k)
          (back (to true) refl) in
          subst (λ (b : Bool). (t : Shows Γ (word_set Γ s h id r at 2 k (to b)))
          × ((k ≢ 0 → Step (Γ.children Γ.program) Γ.lines (world_of Γ s h)
          (event.Leave r.own.place) (world_of Γ (word_set Γ s h id r at 2 k (to b)) t))
          × (k ≡ 0 → world_of Γ (word_set Γ s h id r at 2 k (to b)) t ≡ world_of Γ s h)))
          (sym (eq-eqb k 0 d)) (g.0, ((λ ne. absurd (ne d)), (λ _. g.1)))

  -- the event Halt
  pub halt_goes : (c : ℕ) → r.own.local.phase ≢ phase.Gone → (c ≡ 1) ⊎ (c ≡ 2)
      → (c ≡ 1 → r.own.params.limit < r.own.last)
      → (k : Shows Γ (word_set Γ s h id r at 2 (max (slice_index s.words 2) c)
      (halted_on c (slice_index s.words 2) r)))
      × Step (Γ.children Γ.program) Γ.lines (world_of Γ s h) (event.Halt r.own.place c)
      (world_of Γ (word_set Γ s h id r at 2 (max (slice_index s.words 2) c)
      (halted_on c (slice_index s.words 2) r)) k)
  halt_goes c stays codes cause =
      let k : ℕ = slice_index s.words 2 in
      let r' : View Q I = halted_on c k r in
      let same = same_numbers Γ h.stop h.recs r.own.place r r' (here Γ s h id r at) refl refl h.numbers in
      let C : Count Γ s h r r' h.live (max h.stop c) = record {
        place = refl;
        told = λ t. record { program = t.program; lines = t.lines; limit = t.limit };
        steps = refl;
        others = λ u x. record {
          over = x.over;
          code =
              (let y : u.own.code ≤ h.stop = x.code in omega arith);
        };
        mine = λ x. record {
          over = x.over;
          code =
              (let y : r.own.code ≤ h.stop = x.code in omega arith);
        };
        edges = λ j m d x. record {
          out = x.out;
          inward = x.inward;
          busy = x.busy;
          at_it =
              x.at_it;
        };
        holds = λ x. x;
        numbers = record {
          small = same.small;
          cause = λ e. rw (sum_same Γ s h id r at r' refl) (caused e);
          codes = (let y : h.stop ≤ 2 = h.numbers.codes in let z : c ≤ 2 = few in omega arith);
          seen_last = same.seen_last;
        };
      } in
      number_goes Γ s h id r r' at (event.Halt r.own.place c) C refl ((within Γ s h id r at), (within Γ s h id r at), (within Γ s h id r at))
      (stays, codes) [] [] (λ x. tt) (λ x. refl) (λ x. refl)
      (set s.words 2 (max k c))
      (ap (λ ws. set ws 2 (max k c)) h.words
      ∙ (λ i. h.live ∷ sym (sum_same Γ s h id r at r' refl) i ∷ max (stop_word i) c ∷ map word_of h.cells))
    where
      few : c ≤ 2
      few = ⊎_elim (λ (e : c ≡ 1). omega arith) (λ (e : c ≡ 2). omega arith) codes

      caused : max h.stop c ≡ 1 → Γ.limit < total items_of h.recs
      caused e = ⊎_elim
          (λ (d : c ≡ 1). let l : r.own.params.limit < r.own.last = cause d in
          let q : r.own.params.limit ≡ Γ.limit = (apt Γ s h id r at).told.limit in
          let m : r.own.last ≤ total items_of h.recs = h.numbers.seen_last r.own.place r (here Γ s h id r at) in
          omega arith)
          (λ (d : c ≡ 2). absurd (omega arith))
          codes

  -- the total after a batch, while each place stops once it has seen it above the limit
  grown : (k : ℕ) (r' : View Q I) → r.own.last ≤ Γ.limit → k ≤ Γ.lines.batch
      → items_of r' ≡ items_of r + k → r'.own.last ≡ total items_of h.recs + k
      → Numbers Γ h.stop (set h.recs r.own.place r')
  grown k r' low few more last =
      let n = h.numbers in
      let t = total_set items_of h.recs r.own.place r r' (here Γ s h id r at) in
      let sum : total items_of (set h.recs r.own.place r') ≡ total items_of h.recs + k =
      omega arith in
      record {
        small = rw sum (fits (dec_le (total items_of h.recs + k) Γ.limit));
        cause = λ e. rw sum (let c : Γ.limit < total items_of h.recs = n.cause e in omega arith);
        codes = n.codes;
        seen_last = λ q u e. rw sum (⊎_elim
            (λ (x : (q ≡ r.own.place) × (r' ≡ u)). let z : r'.own.last ≤ total items_of h.recs + k =
            omega arith in subst (λ (y : View Q I). y.own.last ≤ total items_of h.recs + k) x.1
            z)
            (λ (x : (q ≢ r.own.place) × (get_elem? h.recs q ≡ some u)). let z : u.own.last ≤ total
            items_of h.recs = n.seen_last q u x.1 in omega arith)
            (at_set h.recs r.own.place q r' u e));
      }
    where
      fits : Dec (total items_of h.recs + k ≤ Γ.limit)
          → total items_of h.recs + k ≤ Γ.limit + Γ.lines.batch * total (above Γ.limit)
          (set h.recs r.own.place r')
      fits (yes d) = omega arith
      fits (no d) =
          let high : Γ.limit < r'.own.last = omega arith in
          let one : above Γ.limit r' ≡ 1 = above_one Γ.limit r' high in
          let o = total_set (above Γ.limit) h.recs r.own.place r r' (here Γ s h id r at) in
          let z : above Γ.limit r ≡ 0 = above_none Γ.limit r low in
          let more_above : total (above Γ.limit) (set h.recs r.own.place r') ≡ total (above Γ.limit)
          h.recs + 1 = omega arith in
          let m : total items_of h.recs ≤ Γ.limit + Γ.lines.batch * total (above Γ.limit) h.recs =
          h.numbers.small in
          rw more_above (grind arith)

  -- the event Batch
  -- the number of items is far from the last value of its type
  pub settle_room : (done : ℕ) → done ≤ r.own.params.batch → slice_index s.words 1 + done < 2 ^ 64
  settle_room done few =
      let is : slice_index s.words 1 ≡ total items_of h.recs =
      ap (λ (ws : List ℕ). slice_index ws 1) h.words in
      let batch : r.own.params.batch ≡ Γ.lines.batch = ap (λ x. x.batch) (apt Γ s h id r at).told.lines in
      let most_done : done ≤ Γ.lines.batch = subst (λ z. done ≤ z) batch few in
      let most : total (above Γ.limit) h.recs ≤ 64 =
      (let q = above_most Γ.limit h.recs in omega (arith, h.many, h.grounded.few)) in
      let z : Γ.lines.batch * total (above Γ.limit) h.recs ≤ 65536 * 64 =
      mul-le-mul h.grounded.batch most in
      let small : total items_of h.recs ≤ Γ.limit + Γ.lines.batch * total (above Γ.limit) h.recs =
      h.numbers.small in
      omega (arith, h.grounded.batch, h.grounded.limit)

  pub settle_goes : (done : ℕ) (taken rest : List I) → r.hand ≡ None
      → May r.own (event.Batch r.own.place) → 1 ≤ done → done ≤ r.own.params.batch
      → r.own.last ≤ r.own.params.limit
      → Moves (Γ.children r.program) r.own.local.bag taken rest → length taken ≡ done
      → (k : Shows Γ (word_set Γ s h id r at 1 ((slice_index s.words 1 + done) % 18446744073709551616)
      (settled_on (slice_index s.words 1) done taken rest r)))
      × Step (Γ.children Γ.program) Γ.lines (world_of Γ s h) (event.Batch r.own.place)
      (world_of Γ (word_set Γ s h id r at 1 ((slice_index s.words 1 + done) % 18446744073709551616)
      (settled_on (slice_index s.words 1) done taken rest r)) k)
  settle_goes done taken rest free may some_done few last moves long =
      let a = (apt Γ s h id r at) in
      let o : Mine Γ.lines r.own (event.Batch r.own.place) =
      mine_of Γ r a.told (event.Batch r.own.place) may in
      let n : ℕ = slice_index s.words 1 in
      let is : n ≡ total items_of h.recs = ap (λ (ws : List ℕ). slice_index ws 1) h.words in
      let r' : View Q I = settled_on n done taken rest r in
      let batch : r.own.params.batch ≡ Γ.lines.batch = ap (λ x. x.batch) a.told.lines in
      let limit : r.own.params.limit ≡ Γ.limit = a.told.limit in
      let low : r.own.last ≤ Γ.limit = subst (λ z. r.own.last ≤ z) limit last in
      let most_done : done ≤ Γ.lines.batch = subst (λ z. done ≤ z) batch few in
      let count : items_of r' ≡ items_of r + done = ap (λ (x : ℕ). items_of r + x) long in
      let most : total (above Γ.limit) h.recs ≤ 64 =
      (let q = above_most Γ.limit h.recs in omega (arith, h.many, h.grounded.few)) in
      let z : Γ.lines.batch * total (above Γ.limit) h.recs ≤ 65536 * 64 =
      mul-le-mul h.grounded.batch most in
      let small : total items_of h.recs ≤ Γ.limit + Γ.lines.batch * total (above Γ.limit) h.recs =
      h.numbers.small in
      let room : (n + done) % 18446744073709551616 ≡ n + done =
      mod-eq_of_lt (omega (arith, h.grounded.batch, h.grounded.limit)) in
      let t = total_set items_of h.recs r.own.place r r' (here Γ s h id r at) in
      let sum : n + done ≡ total items_of (set h.recs r.own.place r') = omega arith in
      let kids : Moves (Γ.children Γ.program) r.own.local.bag taken rest =
      subst (λ (q : Q). Moves (Γ.children q) r.own.local.bag taken rest) a.told.program moves in
      let C : Count Γ s h r r' h.live h.stop = record {
        place = refl;
        told = λ t. record { program = t.program; lines = t.lines; limit = t.limit };
        steps = refl;
        others = λ u x. x;
        mine = λ x. record { over = x.over; code = x.code };
        edges = λ j m d x. record {
          out = x.out;
          inward = x.inward;
          busy = x.busy;
          at_it =
              x.at_it;
        };
        holds = λ x. λ e xs y. absurd (none_some r.hand (e, xs) free y);
        numbers = grown done r' low most_done count (ap (λ (x : ℕ). x + done) is);
      } in
      number_goes Γ s h id r r' at (event.Batch r.own.place) C refl o.within
      (owned Γ s h r (here Γ s h id r at) (event.Batch r.own.place) tt tt o) taken rest
      (λ x. ((let y = some_done in omega arith), (let y = most_done in omega arith), kids))
      (λ x. ap (λ y. place_after y (event.Batch r.own.place) taken rest (state_of x)
      (part_of r)) (ap (λ l. l.tries) a.told.lines)) (λ x. refl)
      (set s.words 1 ((n + done) % 18446744073709551616))
      (ap (λ ws. set ws 1 ((n + done) % 18446744073709551616)) h.words
      ∙ (λ i. h.live ∷ (room ∙ sum) i ∷ h.stop ∷ map word_of h.cells))

module _ {B Q I : Type 0} (Γ : Fixed B Q I) where
  pub stops : (slots id : ℕ) (r : View Q I) → r.own.local.phase ≢ phase.Gone
      → Allows (Shows Γ) slots id (r ∷ [], slots_of r) 2 (λ n. n)
      (Stops (step slots 2 0 0 maybe.none) (r ∷ [], slots_of r))
  stops slots id r stays s h len at lt = (
    stopped_on (slice_index s.words 2) r ∷ [],
    keeps,
    tt,
    (stop_goes Γ s h id r at stays).0,
    (
      refl,
      let c = (apt Γ s h id r at).numbers.code in let w = stop_word Γ s h id r at in
          omega arith,
    ),
  )

  pub halts : (slots id c : ℕ) (r : View Q I) → r.own.local.phase ≢ phase.Gone → (c ≡ 1) ⊎ (c ≡ 2)
      → (c ≡ 1 → r.own.params.limit < r.own.last)
      → Allows (Shows Γ) slots id (r ∷ [], slots_of r) 2 (λ n. max n c)
      (Halts (step slots 2 c 0 maybe.none) (r ∷ [], slots_of r))
  halts slots id c r stays codes cause s h len at lt = (
    halted_on c (slice_index s.words 2) r ∷ [],
    keeps,
    tt,
    (halt_goes Γ s h id r at c stays codes cause).0,
    refl,
  )

  pub settles : {V : Type 0} (value : Q → I → V) (combine : V → V → V) (unit : V) (gains : List V)
      (slots id done : ℕ) (taken rest : List I) (r : View Q I) → r.hand ≡ None
      → May r.own (event.Batch r.own.place) → 1 ≤ done → done ≤ r.own.params.batch
      → r.own.last ≤ r.own.params.limit
      → Moves (Γ.children r.program) r.own.local.bag taken rest → length taken ≡ done
      → gains ≡ combined (value r.program) combine unit taken ∷ []
      → Allows (Shows Γ) slots id (r ∷ [], slots_of r) 1 (λ n. (n + done) % 18446744073709551616)
      (Settles Γ.children value combine unit rest gains (step slots 1 done 0 maybe.none)
      (r ∷ [], slots_of r))
  settles value combine unit gains slots id done taken rest r free may some_done few last moves long
      worth_is s h len at lt = (
        settled_on (slice_index s.words 1) done taken rest r ∷ [],
        keeps,
        tt,
        (settle_goes Γ s h id r at done taken rest free may some_done few last moves long).0,
        (r, taken, refl, moves, long, worth_is, refl, settle_room Γ s h id r at done few),
      )
