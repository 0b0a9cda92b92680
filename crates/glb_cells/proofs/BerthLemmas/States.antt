-- What a berth keeps goes with its record through each kind of step.
use Rattle.std.proofs.Common.{◌≡◌, ℕ, eqb, ◌+◌, ◌-◌, ◌<◌, Bool, true, false, cond, not, List, ◌++◌, min, length, refl, sym, ap, ◌∙◌, subst, arith, length-append}
use Rattle.std.specs.Prelude.{IsPermutation, ◌&&◌}
use Rattle.std.proofs.lemmas.List.Sorted.{length_permutation}
use Rattle.glb_stats.specs.declared.counters.Counters.{Counters}
use Rattle.glb_rules.specs.World.{mark_at, has_edge}
use Rattle.glb_rules.specs.Events.{name_of}
use Rattle.glb_rules.specs.Effects.{of_kind, wake_count, credit_after_take}
use Rattle.glb_rules.specs.Decision.{is_mark}
use Rattle.glb_rules.specs.Setups.{tries_of}
use Rattle.glb_core.specs.Counters.{counters_of}
use Rattle.glb_rules.specs.declared.local.EdgeName.{EdgeName}
use Rattle.glb_rules.specs.declared.place_state.PlaceState.{PlaceState}
use Rattle.glb_rules.specs.declared.kinds.Kind.{Kind}
use Rattle.glb_rules.specs.declared.kinds.Kind.TheVariants as kind
use Rattle.glb_rules.specs.declared.kinds.Phase.TheVariants as phase
use Rattle.glb_rules.specs.declared.kinds.Credit.TheVariants as credit
use Rattle.glb_rules.specs.declared.kinds.Mark.TheVariants as mark
use Rattle.glb_rules.specs.declared.kinds.Side.TheVariants as side
use Rattle.glb_rules.specs.declared.kinds.Edge.{Edge}
use Rattle.glb_rules.specs.declared.kinds.Edge.TheVariants as seen
use Rattle.glb_place.specs.Calls.{CanFind, is_working}
use Rattle.glb_place.specs.Records.{known_at, setup_in}
use Rattle.glb_place.specs.Rows.{known_row, batch_row, mint_row, burn_row, sleep_row, leave_row, over_row, halt_row, halted_row}
use Rattle.glb_place.specs.declared.record.Record.{Record}
use Rattle.glb_cells.specs.Looking.{LookTable}
use Rattle.glb_cells.specs.Plays.{asked_at, denied_at, marked_at, looked_at, gave_at, took_at, given_up_at, left_at, shrugged_line_at, read_live}
use Rattle.glb_cells.specs.Berths.{IsStateOf}
use Rattle.glb_cells.specs.inner.Keeping.{IsBeside, hold_at, state_after_ask, state_leaving, state_unless, state_after_batch, state_after_gift, state_after_take}
use Rattle.glb_cells.proofs.BerthLemmas.Beside.{same_beside, out_beside, in_beside, look_beside}
use Rattle.glb_cells.proofs.BerthLemmas.Sizes.{either, no_more, rest_phase, rest_tries, given_left}

module _ {I : Type 0} (r : Record I) (a : PlaceState) (c : Counters) (held : List Bool)
    (looks : LookTable)
    (o : IsBeside r a c held looks) where
  abbrev s : IsStateOf r a
  s = o.state

  ask_state : (k : Kind) (p v : ℕ) → IsStateOf (asked_at (name_of k p v) r) (state_after_ask v k a)
  ask_state kind.Steal p v = record {
    place = s.place;
    phase = refl;
    credit = s.credit;
    tries =
        ap (λ n. n - 1) s.tries;
    victim = s.victim;
    size = s.size;
  }
  ask_state kind.Line p v = record {
    place = s.place;
    phase = refl;
    credit = s.credit;
    tries =
        s.tries;
    victim = s.victim;
    size = s.size;
  }

  pub asks_beside : (k : Kind) (v : ℕ) (c' : Counters)
      → c' ≡ counters_of (record r.local.count {
        asks = r.local.count.asks + of_kind k 1 0;
        line_asks =
            r.local.count.line_asks + of_kind k 0 1;
      })
      → has_edge (setup_in r) k a.place v ≡ true
      → IsBeside (asked_at (name_of k a.place v) r) (state_after_ask v k a) c' held looks
  asks_beside k v c' n there = out_beside r a c held looks o (asked_at (name_of k a.place v) r) refl
      refl refl (state_after_ask v k a) c' (ask_state k a.place v) n (name_of k a.place v)
      seen.Asked refl s.place there

  pub denies_beside : (k : Kind) (t : ℕ) (c' : Counters)
      → c' ≡ counters_of (record r.local.count { denied = r.local.count.denied + of_kind k 1 0 })
      → has_edge (setup_in r) k t a.place ≡ true → t < r.lines.places
      → IsBeside (denied_at (name_of k t a.place) r) a c' (hold_at k t true held) looks
  denies_beside k t c' n there l = in_beside r a c held looks o (denied_at (name_of k t a.place) r)
      refl refl refl a c'
      (record {
        place = s.place;
        phase = s.phase;
        credit = s.credit;
        tries = s.tries;
        victim =
            s.victim;
        size = s.size;
      }) n k t seen.Refused
      (ap (λ p. (known_row (name_of k t p) seen.Refused r).known) s.place)
      (subst (λ p. has_edge (setup_in r) k t p ≡ true) s.place there) l

  pub looks_beside : (k : Kind) (t : ℕ) (y : Edge) → has_edge (setup_in r) k t a.place ≡ true
      → CanFind (mark_at r.local.marks k t) k side.Inward (known_at r.known k t a.place) y
      → IsBeside (looked_at (name_of k t a.place) y r) a c held looks
  looks_beside k t y there found =
      let n : EdgeName = name_of k t a.place in
      either (λ x. IsBeside x a c held looks) (is_working r.local.phase && is_mark mark.Unseen
      (mark_at r.local.marks k t)) (marked_at n y r) (known_row n y r)
      (look_beside r a c held looks o (marked_at n y r) refl refl refl a c
      (record {
        place = s.place;
        phase = s.phase;
        credit = s.credit;
        tries = s.tries;
        victim =
            s.victim;
        size = s.size;
      }) o.counters n y refl s.place there found)
      (look_beside r a c held looks o (known_row n y r) refl refl refl a c
      (record {
        place = s.place;
        phase = s.phase;
        credit = s.credit;
        tries = s.tries;
        victim =
            s.victim;
        size = s.size;
      }) o.counters n y refl s.place there found)

  pub learns_beside : (k : Kind) (v : ℕ) (y : Edge) → has_edge (setup_in r) k a.place v ≡ true
      → IsBeside (known_row (name_of k a.place v) y r) a c held looks
  learns_beside k v y there = out_beside r a c held looks o (known_row (name_of k a.place v) y r)
      refl refl refl a c
      (record {
        place = s.place;
        phase = s.phase;
        credit = s.credit;
        tries = s.tries;
        victim =
            s.victim;
        size = s.size;
      }) o.counters (name_of k a.place v) y refl s.place there

  pub gives_up_beside : (v : ℕ) (c' : Counters)
      → c' ≡ counters_of (record r.local.count { shrugs = r.local.count.shrugs + 1 })
      → has_edge (setup_in r) kind.Steal a.place v ≡ true
      → IsBeside (given_up_at (name_of kind.Steal a.place v) r)
      (record a { phase = phase.Idle }) c' held looks
  gives_up_beside v c' n there = out_beside r a c held looks o
      (given_up_at (name_of kind.Steal a.place v) r) refl refl refl
      (record a { phase = phase.Idle }) c'
      (record {
        place = s.place;
        phase = refl;
        credit = s.credit;
        tries = s.tries;
        victim =
            s.victim;
        size = s.size;
      }) n (name_of kind.Steal a.place v) seen.Idle refl s.place there

  pub shrugs_beside : (v k : ℕ) → has_edge (setup_in r) kind.Line a.place v ≡ true
      → IsBeside (shrugged_line_at (name_of kind.Line a.place v) k r) (state_unless (eqb k 5) a) c
      held looks
  shrugs_beside v k there = by (eqb k 5)
    where
      n : EdgeName
      n = name_of kind.Line a.place v

      by : (b : Bool) → IsBeside (cond b (known_row (name_of kind.Line a.place v) seen.Loot r)
          (left_at (name_of kind.Line a.place v) r)) (state_unless b a) c held looks
      by true = learns_beside kind.Line v seen.Loot there
      by false = same_beside r a c held looks o (left_at (name_of kind.Line a.place v) r) refl refl
          refl (record a { phase = phase.Idle }) c
          (record {
            place = s.place;
            phase = refl;
            credit = s.credit;
            tries = s.tries;
            victim =
                s.victim;
            size = s.size;
          })
          (o.counters ∙ (λ i. record (counters_of r.local.count)
          { shrugs = no_more r.local.count.shrugs i })) refl

  pub mints_beside : IsBeside (mint_row r) (record a { credit = credit.Minted }) c held looks
  mints_beside = same_beside r a c held looks o (mint_row r) refl refl refl
      (record a { credit = credit.Minted }) c
      (record {
        place = s.place;
        phase = s.phase;
        credit = refl;
        tries = s.tries;
        victim =
            s.victim;
        size = s.size;
      }) o.counters refl

  pub burns_beside : IsBeside (burn_row r) (record a { credit = credit.One }) c held looks
  burns_beside = same_beside r a c held looks o (burn_row r) refl refl refl
      (record a { credit = credit.One }) c
      (record {
        place = s.place;
        phase = s.phase;
        credit = refl;
        tries = s.tries;
        victim =
            s.victim;
        size = s.size;
      }) o.counters refl

  pub sleeps_beside : (c' : Counters) → c' ≡ counters_of
      (record r.local.count { sleeps = r.local.count.sleeps + 1 })
      → IsBeside (sleep_row r) (record a { phase = phase.Asleep; credit = credit.Zero }) c' held
      looks
  sleeps_beside c' n = same_beside r a c held looks o (sleep_row r) refl refl refl
      (record a { phase = phase.Asleep; credit = credit.Zero }) c'
      (record {
        place = s.place;
        phase = refl;
        credit = refl;
        tries = s.tries;
        victim =
            s.victim;
        size = s.size;
      }) n refl

  pub overs_beside : (k : ℕ) → IsBeside (read_live k r) (state_leaving (eqb k 0) a) c held looks
  overs_beside k = by (eqb k 0)
    where
      by : (b : Bool) → IsBeside (cond b (over_row r) r) (state_leaving b a) c held looks
      by true = same_beside r a c held looks o (over_row r) refl refl refl
          (record a { phase = phase.Gone }) c
          (record {
            place = s.place;
            phase = refl;
            credit = s.credit;
            tries = s.tries;
            victim =
                s.victim;
            size = s.size;
          }) o.counters refl
      by false = o

  pub stops_beside : (k : ℕ) → IsBeside (halted_row k r) (state_leaving (not (eqb k 0)) a) c held
      looks
  stops_beside k = by (eqb k 0)
    where
      by : (b : Bool) → IsBeside (cond b (halt_row k r) (leave_row (halt_row k r)))
          (state_leaving (not b) a) c held looks
      by true = same_beside r a c held looks o (halt_row k r) refl refl refl a c
          (record {
            place = s.place;
            phase = s.phase;
            credit = s.credit;
            tries = s.tries;
            victim =
                s.victim;
            size = s.size;
          }) o.counters refl
      by false = same_beside r a c held looks o (leave_row (halt_row k r)) refl refl refl
          (record a { phase = phase.Gone }) c
          (record {
            place = s.place;
            phase = refl;
            credit = s.credit;
            tries = s.tries;
            victim =
                s.victim;
            size = s.size;
          }) o.counters refl

  pub halts_beside : (k : ℕ) → IsBeside (halt_row k r) a c held looks
  halts_beside k = same_beside r a c held looks o (halt_row k r) refl refl refl a c
      (record {
        place = s.place;
        phase = s.phase;
        credit = s.credit;
        tries = s.tries;
        victim =
            s.victim;
        size = s.size;
      }) o.counters refl

  pub settles_beside : (total done n most : ℕ) (taken rest : List I) (c' : Counters)
      → n ≡ min (length rest) 18446744073709551615 → length taken ≡ done
      → most ≡ tries_of r.params → c' ≡ counters_of
      (record r.local.count { items = r.local.count.items + done })
      → IsBeside (batch_row total taken rest r) (state_after_batch most n a) c' held looks
  settles_beside total done n most taken rest c' size long tries c_is =
      same_beside r a c held looks o (batch_row total taken rest r) refl refl refl
      (state_after_batch most n a) c'
      (record {
        place = s.place;
        phase = rest_phase rest n size;
        credit = s.credit;
        tries = (λ i. cond (eqb n 0) (tries i) (s.tries i))
            ∙ rest_tries (tries_of r.params) r.local.tries rest n size;
        victim = s.victim;
        size = λ l. omega arith;
      })
      (c_is ∙ ap (λ d. counters_of (record r.local.count { items = r.local.count.items + d }))
      (sym long)) refl

  pub given_beside : (k : Kind) (t u : ℕ) (part rest : List I) (c' : Counters)
      → u ≡ min (length part) 18446744073709551615 → IsPermutation r.local.bag (part ++ rest)
      → c' ≡ counters_of (record r.local.count {
        given = r.local.count.given + of_kind k 1 0;
        line_given =
            r.local.count.line_given + of_kind k 0 1;
        sent_units = r.local.count.sent_units + u;
      })
      → has_edge (setup_in r) k t a.place ≡ true → t < r.lines.places
      → IsBeside (gave_at (name_of k t a.place) part rest r) (state_after_gift u a) c'
      (hold_at k t false held) looks
  given_beside k t u part rest c' size perm c_is there l =
      in_beside r a c held looks o (gave_at (name_of k t a.place) part rest r) refl refl refl
      (state_after_gift u a) c'
      (record {
        place = s.place;
        phase = s.phase;
        credit = refl;
        tries = s.tries;
        victim = s.victim;
        size = let e : length r.local.bag ≡ length part + length rest =
            sym (length_permutation _ _ perm) ∙ length-append part rest in
            given_left a.size u (length r.local.bag) (length part) (length rest) s.size e size;
      })
      (c_is ∙ ap (λ d. counters_of (record r.local.count {
        given = r.local.count.given + of_kind k 1 0;
        line_given =
            r.local.count.line_given + of_kind k 0 1;
        sent_units = r.local.count.sent_units + d;
      }))
      size)
      k t seen.Loot (ap (λ p. (known_row (name_of k t p) seen.Loot r).known) s.place)
      (subst (λ p. has_edge (setup_in r) k t p ≡ true) s.place there) l

  pub taken_beside : (k : Kind) (v u : ℕ) (part : List I) (c' : Counters)
      → u ≡ min (length part) 18446744073709551615
      → c' ≡ counters_of (record r.local.count {
        got = r.local.count.got + of_kind k 1 0;
        line_got =
            r.local.count.line_got + of_kind k 0 1;
        got_units = r.local.count.got_units + u;
        wakes =
            r.local.count.wakes + wake_count a.phase;
      })
      → has_edge (setup_in r) k a.place v ≡ true
      → IsBeside (took_at (name_of k a.place v) part (part ++ r.local.bag) r) (state_after_take u a)
      c' held looks
  taken_beside k v u part c' size c_is there =
      out_beside r a c held looks o (took_at (name_of k a.place v) part (part ++ r.local.bag) r)
      refl refl refl (state_after_take u a) c'
      (record {
        place = s.place;
        phase = refl;
        credit = ap credit_after_take s.credit;
        tries = s.tries;
        victim = s.victim;
        size = λ l. let e : length (part ++ r.local.bag) ≡ length part + length r.local.bag =
            length-append part r.local.bag in let b = s.size (omega arith) in omega arith;
      })
      (c_is ∙ (λ i. counters_of (record r.local.count {
        got = r.local.count.got + of_kind k 1 0;
        line_got =
            r.local.count.line_got + of_kind k 0 1;
        got_units =
            r.local.count.got_units + size i;
        wakes =
            r.local.count.wakes + wake_count (s.phase i);
      })))
      (name_of k a.place v) seen.Idle refl s.place there

-- what stays of a state
pub ask_stays : (v : ℕ) (k : Kind) (a : PlaceState) → ((state_after_ask v k a).place ≡ a.place)
    × ((state_after_ask v k a).size ≡ a.size)
ask_stays v kind.Steal a = (refl, refl)
ask_stays v kind.Line a = (refl, refl)

pub leave_stays : (b : Bool) (a : PlaceState) → ((state_leaving b a).place ≡ a.place)
    × ((state_leaving b a).size ≡ a.size)
leave_stays true a = (refl, refl)
leave_stays false a = (refl, refl)

pub unless_stays : (b : Bool) (a : PlaceState) → ((state_unless b a).place ≡ a.place)
    × ((state_unless b a).size ≡ a.size)
unless_stays true a = (refl, refl)
unless_stays false a = (refl, refl)
