-- What messages count for is what their senders and receivers count.
use Rattle.std.proofs.Common.{◌≡◌, ◌≢◌, ℕ, ◌+◌, ◌<◌, Bool, true, false, cond, ◌&&◌, List, [], ◌∷◌}
use Rattle.std.proofs.Common.{Option, refl, inl, inr, arith}
use Rattle.glb_rules.specs.World.{mark_at, credit_count}
use Rattle.glb_rules.specs.Effects.{credit_after_take}
use Rattle.glb_rules.specs.Decision.{is_mark}
use Rattle.glb_rules.specs.Events.{name_of}
use Rattle.glb_rules.specs.declared.kinds.Kind.{Kind}
use Rattle.glb_rules.specs.declared.kinds.Kind.TheVariants as kind
use Rattle.glb_rules.specs.declared.kinds.Edge.{Edge}
use Rattle.glb_rules.specs.declared.kinds.Edge.TheVariants as seen
use Rattle.glb_rules.specs.declared.kinds.Mark.TheVariants as mark
use Rattle.glb_rules.specs.declared.kinds.Side.TheVariants as side
use Rattle.glb_rules.specs.declared.kinds.Credit.TheVariants as credit
use Rattle.glb_place.specs.declared.record.Record.{Record}
use Rattle.glb_place.specs.Records.{known_at}
use Rattle.glb_place.specs.Rows.{known_row, mark_row, ask_row, deny_row, give_row, shrug_row}
use Rattle.glb_place.specs.Rows.{take_row as takes_in}
use Rattle.glb_place.specs.Calls.{look_row, is_working}
use Rattle.glb_inbox.specs.declared.view.Seated.{Seated}
use Rattle.glb_inbox.specs.declared.view.Member.TheVariants.{Place, Request, Refusal, Parcel}
use Rattle.glb_inbox.specs.inner.Members.{held, wanted}
use Rattle.glb_inbox.specs.inner.Rule.{Job}
use Rattle.glb_inbox.specs.inner.Views.{one}
use Rattle.glb_inbox.proofs.Knowing.{held_here, held_away}
use Rattle.glb_inbox.proofs.Exchange.{Fair}

abbrev pub seat : {I : Type 0} → Record I → Option (Record I) → List I → ℕ → ℕ → Seated I
seat r b left m n = record { kept = r; before = b; rest = left; steps = m; found = n }

steal_line : kind.Steal ≢ kind.Line
steal_line e = cc

line_steal : kind.Line ≢ kind.Steal
line_steal e = cc

module _ {I : Type 0} (j : Job I) (live items : ℕ) (r : Record I) (b c : Option (Record I))
    (spare spare' : List I)
    (m n m' n' : ℕ) where
  -- its own edge becomes known otherwise: the requests that it holds stay
  held_own : (k i : Kind) (v : ℕ) (x : Edge) → r.place ≢ v
      → held i (known_row (name_of k r.place v) x r) ≡ held i r
  held_own k i v x d = held_away r.known k r.place v x r.lines.places (wanted i) i r.place (inr d)

  pub ask_fair : (k : Kind) (v : ℕ) → r.place ≢ v
      → Fair j live items live items (one (seat r b spare m n))
      (Place (seat (ask_row v k r) c spare' m' n') ∷ Request k ∷ [])
  ask_fair kind.Steal v d =
      let s : held kind.Steal (ask_row v kind.Steal r) ≡ held kind.Steal r =
      held_own kind.Steal kind.Steal v seen.Asked d in
      let l : held kind.Line (ask_row v kind.Steal r) ≡ held kind.Line r =
      held_own kind.Steal kind.Line v seen.Asked d in
      record {
        places = omega arith;
        asks = omega arith;
        lines = omega arith;
        denied = omega arith;
        given = omega arith;
        line_given = omega arith;
        units = omega arith;
        live_is = omega arith;
        items_are = omega arith;
      }
  ask_fair kind.Line v d =
      let s : held kind.Steal (ask_row v kind.Line r) ≡ held kind.Steal r =
      held_own kind.Line kind.Steal v seen.Asked d in
      let l : held kind.Line (ask_row v kind.Line r) ≡ held kind.Line r =
      held_own kind.Line kind.Line v seen.Asked d in
      record {
        places = omega arith;
        asks = omega arith;
        lines = omega arith;
        denied = omega arith;
        given = omega arith;
        line_given = omega arith;
        units = omega arith;
        live_is = omega arith;
        items_are = omega arith;
      }

  pub deny_fair : (t : ℕ) → t < r.lines.places → known_at r.known kind.Steal t r.place ≡ seen.Asked
      → Fair j live items live items (one (seat r b spare m n))
      (Place (seat (deny_row t kind.Steal r) c spare' m' n') ∷ Refusal ∷ [])
  deny_fair t l was =
      let s : held kind.Steal (deny_row t kind.Steal r) + 1 ≡ held kind.Steal r + 0 =
      rw was at (held_here r.known kind.Steal t r.place seen.Refused r.lines.places
      (wanted kind.Steal) l) in
      let q : held kind.Line (deny_row t kind.Steal r) ≡ held kind.Line r =
      held_away r.known kind.Steal t r.place seen.Refused r.lines.places (wanted kind.Line)
      kind.Line r.place (inl line_steal) in
      record {
        places = omega arith;
        asks = omega arith;
        lines = omega arith;
        denied = omega arith;
        given = omega arith;
        line_given = omega arith;
        units = omega arith;
        live_is = omega arith;
        items_are = omega arith;
      }

  pub give_fair : (k : Kind) (t : ℕ) (part rest : List I) → t < r.lines.places
      → wanted k (known_at r.known k t r.place) ≡ 1
      → r.local.credit ≡ credit.Minted
      → Fair j live items live items (one (seat r b spare m n))
      (Place (seat (give_row t k part rest r) c spare' m' n') ∷ Parcel k part ∷ [])
  give_fair kind.Steal t part rest l was minted =
      let s : held kind.Steal (give_row t kind.Steal part rest r) + 1 ≡ held kind.Steal r + 0 =
      rw was at (held_here r.known kind.Steal t r.place seen.Loot r.lines.places (wanted kind.Steal)
      l) in
      let q : held kind.Line (give_row t kind.Steal part rest r) ≡ held kind.Line r =
      held_away r.known kind.Steal t r.place seen.Loot r.lines.places (wanted kind.Line) kind.Line
      r.place (inl line_steal) in
      record {
        places = omega arith;
        asks = omega arith;
        lines = omega arith;
        denied = omega arith;
        given = omega arith;
        line_given = omega arith;
        units = omega arith;
        live_is = rw minted (omega arith);
        items_are = omega arith;
      }
  give_fair kind.Line t part rest l was minted =
      let s : held kind.Line (give_row t kind.Line part rest r) + 1 ≡ held kind.Line r + 0 =
      rw was at (held_here r.known kind.Line t r.place seen.Loot r.lines.places (wanted kind.Line)
      l) in
      let q : held kind.Steal (give_row t kind.Line part rest r) ≡ held kind.Steal r =
      held_away r.known kind.Line t r.place seen.Loot r.lines.places (wanted kind.Steal) kind.Steal
      r.place (inl steal_line) in
      record {
        places = omega arith;
        asks = omega arith;
        lines = omega arith;
        denied = omega arith;
        given = omega arith;
        line_given = omega arith;
        units = omega arith;
        live_is = rw minted (omega arith);
        items_are = omega arith;
      }

  pub take_fair : (k : Kind) (v : ℕ) (part rest : List I) → r.place ≢ v
      → credit_count (credit_after_take r.local.credit) ≡ credit_count r.local.credit + 1
      → Fair j live items live items (Place (seat r b spare m n) ∷ Parcel k part ∷ [])
      (one (seat (takes_in v k part rest r) c spare' m' n'))
  take_fair kind.Steal v part rest d w =
      let s : held kind.Steal (takes_in v kind.Steal part rest r) ≡ held kind.Steal r =
      held_own kind.Steal kind.Steal v seen.Idle d in
      let l : held kind.Line (takes_in v kind.Steal part rest r) ≡ held kind.Line r =
      held_own kind.Steal kind.Line v seen.Idle d in
      record {
        places = omega arith;
        asks = omega arith;
        lines = omega arith;
        denied = omega arith;
        given = omega arith;
        line_given = omega arith;
        units = omega arith;
        live_is = omega arith;
        items_are = omega arith;
      }
  take_fair kind.Line v part rest d w =
      let s : held kind.Steal (takes_in v kind.Line part rest r) ≡ held kind.Steal r =
      held_own kind.Line kind.Steal v seen.Idle d in
      let l : held kind.Line (takes_in v kind.Line part rest r) ≡ held kind.Line r =
      held_own kind.Line kind.Line v seen.Idle d in
      record {
        places = omega arith;
        asks = omega arith;
        lines = omega arith;
        denied = omega arith;
        given = omega arith;
        line_given = omega arith;
        units = omega arith;
        live_is = omega arith;
        items_are = omega arith;
      }

  pub shrug_fair : (v : ℕ) → r.place ≢ v
      → Fair j live items live items (Place (seat r b spare m n) ∷ Refusal ∷ [])
      (one (seat (shrug_row v kind.Steal r) c spare' m' n'))
  shrug_fair v d =
      let s : held kind.Steal (shrug_row v kind.Steal r) ≡ held kind.Steal r =
      held_own kind.Steal kind.Steal v seen.Idle d in
      let l : held kind.Line (shrug_row v kind.Steal r) ≡ held kind.Line r =
      held_own kind.Steal kind.Line v seen.Idle d in
      record {
        places = omega arith;
        asks = omega arith;
        lines = omega arith;
        denied = omega arith;
        given = omega arith;
        line_given = omega arith;
        units = omega arith;
        live_is = omega arith;
        items_are = omega arith;
      }

  -- a look in which the place comes to know that it is asked
  pub hold_fair : (k : Kind) (t : ℕ) → t < r.lines.places → wanted k (known_at r.known k t r.place)
      ≡ 0
      → Fair j live items live items (Place (seat r b spare m n) ∷ Request k ∷ [])
      (one (seat (look_row t k side.Inward seen.Asked r) c spare' m' n'))
  hold_fair k t l was = go k
      (is_working r.local.phase && is_mark mark.Unseen (mark_at r.local.marks k t)) was
    where
      go : (k : Kind) (z : Bool) → wanted k (known_at r.known k t r.place) ≡ 0
          → Fair j live items live items (Place (seat r b spare m n) ∷ Request k ∷ [])
          (one (seat (cond z (mark_row t k seen.Asked r)
          (known_row (name_of k t r.place) seen.Asked r)) c spare' m' n'))
      go kind.Steal true was =
          let s : held kind.Steal (mark_row t kind.Steal seen.Asked r) + 0 ≡ held kind.Steal r + 1 =
          rw was at (held_here r.known kind.Steal t r.place seen.Asked r.lines.places
          (wanted kind.Steal) l) in
          let q : held kind.Line (mark_row t kind.Steal seen.Asked r) ≡ held kind.Line r =
          held_away r.known kind.Steal t r.place seen.Asked r.lines.places (wanted kind.Line)
          kind.Line r.place (inl line_steal) in
          record {
            places = omega arith;
            asks = omega arith;
            lines = omega arith;
            denied = omega arith;
            given = omega arith;
            line_given = omega arith;
            units = omega arith;
            live_is = omega arith;
            items_are = omega arith;
          }
      go kind.Line true was =
          let s : held kind.Line (mark_row t kind.Line seen.Asked r) + 0 ≡ held kind.Line r + 1 =
          rw was at (held_here r.known kind.Line t r.place seen.Asked r.lines.places
          (wanted kind.Line) l) in
          let q : held kind.Steal (mark_row t kind.Line seen.Asked r) ≡ held kind.Steal r =
          held_away r.known kind.Line t r.place seen.Asked r.lines.places (wanted kind.Steal)
          kind.Steal r.place (inl steal_line) in
          record {
            places = omega arith;
            asks = omega arith;
            lines = omega arith;
            denied = omega arith;
            given = omega arith;
            line_given = omega arith;
            units = omega arith;
            live_is = omega arith;
            items_are = omega arith;
          }
      go kind.Steal false was =
          let s : held kind.Steal (known_row (name_of kind.Steal t r.place) seen.Asked r) + 0
          ≡ held kind.Steal r + 1 =
          rw was at (held_here r.known kind.Steal t r.place seen.Asked r.lines.places
          (wanted kind.Steal) l) in
          let q : held kind.Line (known_row (name_of kind.Steal t r.place) seen.Asked r)
          ≡ held kind.Line r =
          held_away r.known kind.Steal t r.place seen.Asked r.lines.places (wanted kind.Line)
          kind.Line r.place (inl line_steal) in
          record {
            places = omega arith;
            asks = omega arith;
            lines = omega arith;
            denied = omega arith;
            given = omega arith;
            line_given = omega arith;
            units = omega arith;
            live_is = omega arith;
            items_are = omega arith;
          }
      go kind.Line false was =
          let s : held kind.Line (known_row (name_of kind.Line t r.place) seen.Asked r) + 0
          ≡ held kind.Line r + 1 =
          rw was at (held_here r.known kind.Line t r.place seen.Asked r.lines.places
          (wanted kind.Line) l) in
          let q : held kind.Steal (known_row (name_of kind.Line t r.place) seen.Asked r)
          ≡ held kind.Steal r =
          held_away r.known kind.Line t r.place seen.Asked r.lines.places (wanted kind.Steal)
          kind.Steal r.place (inl steal_line) in
          record {
            places = omega arith;
            asks = omega arith;
            lines = omega arith;
            denied = omega arith;
            given = omega arith;
            line_given = omega arith;
            units = omega arith;
            live_is = omega arith;
            items_are = omega arith;
          }

  -- a record that counts the same, whatever it knows otherwise
  pub record Alike (q : Record I) : Type 0 where
    pub place : q.place ≡ r.place
    pub count : q.local.count ≡ r.local.count
    pub credit : q.local.credit ≡ r.local.credit
    pub done : q.local.done ≡ r.local.done
    pub bag : q.local.bag ≡ r.local.bag
    pub last : q.last ≡ r.last
    pub held_is : (k : Kind) → held k q ≡ held k r

  pub alike_fair : (q : Record I) → Alike q
      → Fair j live items live items (one (seat r b spare m n)) (one (seat q c spare' m' n'))
  alike_fair q A = record {
    places = refl;
    asks = rw (A.held_is kind.Steal, A.count) refl;
    lines = rw (A.held_is kind.Line, A.count, A.place) refl;
    denied = rw A.count refl;
    given = rw A.count refl;
    line_given = rw A.count refl;
    units = rw A.count refl;
    live_is = rw A.credit refl;
    items_are = rw A.count refl;
  }
