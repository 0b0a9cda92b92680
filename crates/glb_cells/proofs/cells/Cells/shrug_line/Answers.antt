use Rattle.std.proofs.Common.{cond, eq-eqb, ◌≡◌, ◌≢◌, ⊎_elim, refl, sym, ap, ◌∙◌, subst, eqb, true, false, true≢false}
use Rattle.std.proofs.lemmas.Bool.{eqb-true}
use Rattle.glb_rules.specs.Events.{name_of}
use Rattle.glb_rules.specs.declared.event.Event.TheVariants as event
use Rattle.glb_rules.specs.declared.kinds.Kind.TheVariants as kind
use Rattle.glb_rules.specs.declared.kinds.Edge.TheVariants as seen
use Rattle.glb_rules.specs.declared.place_state.PlaceState.{PlaceState}
use Rattle.glb_place.specs.declared.record.Record.{Record}
use Rattle.glb_place.specs.Rows.{shrug_row, known_row}
use Rattle.glb_cells.specs.Words.{read}
use Rattle.glb_cells.specs.Plays.{shrugged_line_at, left_at, shrugged_on}
use Rattle.glb_cells.specs.inner.Keeping.{IsBeside, table_of}
use Rattle.glb_cells.proofs.BerthLemmas.Opened.{turned, numbered, table_is, object_is, place_is, may_at, ends, is_free, still_free, moved, found_now}
use Rattle.glb_cells.proofs.BerthLemmas.There.{not_true, not_false, there_shrug}
use Rattle.glb_cells.proofs.BerthLemmas.Sizes.{neither}
use Rattle.glb_cells.proofs.BerthLemmas.States.{shrugs_beside, unless_stays}
use Rattle.glb_cells.proofs.cells.Cells.shrug_line.Goals as goal

pub number-edge-requires-clause-thief : goal.number-edge-requires-clause-thief
number-edge-requires-clause-thief g c =
    let m = may_at c.args.self.now c.berth.inside.seat.me c.berth.inside.state
    c.berth.inside.counters c.berth.inside.held.items (table_of c.berth.inside.looks)
    c.berth.inside.seat.table_id c.args.berth.now c.berth.view_is c.berth.invariant
    c.requires.here.here (λ p. event.Shrug p c.args.victim kind.Line) c.requires.may in
    let there = there_shrug c.berth.invariant.view.own c.berth.invariant.beside.listed kind.Line
    c.berth.inside.state.place c.args.victim m in
    let e = ends c.args.self.now c.berth.inside.seat.me c.berth.inside.state c.berth.inside.counters
    c.berth.inside.held.items (table_of c.berth.inside.looks) c.berth.inside.seat.table_id
    c.args.berth.now c.berth.view_is c.berth.invariant c.requires.here.here
    (name_of kind.Line c.berth.inside.state.place c.args.victim) m.1.0 m.1.2 there in
    e.thief

pub number-edge-requires-clause-victim : goal.number-edge-requires-clause-victim
number-edge-requires-clause-victim g c =
    let m = may_at c.args.self.now c.berth.inside.seat.me c.berth.inside.state
    c.berth.inside.counters c.berth.inside.held.items (table_of c.berth.inside.looks)
    c.berth.inside.seat.table_id c.args.berth.now c.berth.view_is c.berth.invariant
    c.requires.here.here (λ p. event.Shrug p c.args.victim kind.Line) c.requires.may in
    let there = there_shrug c.berth.invariant.view.own c.berth.invariant.beside.listed kind.Line
    c.berth.inside.state.place c.args.victim m in
    let e = ends c.args.self.now c.berth.inside.seat.me c.berth.inside.state c.berth.inside.counters
    c.berth.inside.held.items (table_of c.berth.inside.looks) c.berth.inside.seat.table_id
    c.args.berth.now c.berth.view_is c.berth.invariant c.requires.here.here
    (name_of kind.Line c.berth.inside.state.place c.args.victim) m.1.0 m.1.2 there in
    e.victim

pub number-edge-requires-clause-there : goal.number-edge-requires-clause-there
number-edge-requires-clause-there g c =
    let m = may_at c.args.self.now c.berth.inside.seat.me c.berth.inside.state
    c.berth.inside.counters c.berth.inside.held.items (table_of c.berth.inside.looks)
    c.berth.inside.seat.table_id c.args.berth.now c.berth.view_is c.berth.invariant
    c.requires.here.here (λ p. event.Shrug p c.args.victim kind.Line) c.requires.may in
    let there = there_shrug c.berth.invariant.view.own c.berth.invariant.beside.listed kind.Line
    c.berth.inside.state.place c.args.victim m in
    let e = ends c.args.self.now c.berth.inside.seat.me c.berth.inside.state c.berth.inside.counters
    c.berth.inside.held.items (table_of c.berth.inside.looks) c.berth.inside.seat.table_id
    c.args.berth.now c.berth.view_is c.berth.invariant c.requires.here.here
    (name_of kind.Line c.berth.inside.state.place c.args.victim) m.1.0 m.1.2 there in
    e.there

pub shrug_as-word-requires-clause-table : goal.shrug_as-word-requires-clause-table
shrug_as-word-requires-clause-table g c =
    let n = numbered g.B.Bag.items c.self.inside.table.shared.key
    c.self.inside.table.shared.table_id c.args.self.now c.self.view_is c.number-edge.result
    (name_of kind.Line c.berth.inside.state.place c.args.victim) c.number-edge.ensures.name
    c.number-edge.ensures.small in (
      table_is g.B.Bag.items c.self.inside.table.shared.key c.self.inside.table.shared.table_id
          c.args.self.now c.self.view_is c.berth.inside.seat.table_id
          (object_is c.args.self.now c.berth.inside.seat.me c.berth.inside.state
          c.berth.inside.counters c.berth.inside.held.items (table_of c.berth.inside.looks)
          c.berth.inside.seat.table_id c.args.berth.now c.berth.view_is c.berth.invariant
          c.requires.here.here),
      n.small,
      n.few,
    )

pub shrug_as-word-requires-clause-name : goal.shrug_as-word-requires-clause-name
shrug_as-word-requires-clause-name g c =
    (numbered g.B.Bag.items c.self.inside.table.shared.key c.self.inside.table.shared.table_id
    c.args.self.now c.self.view_is c.number-edge.result
    (name_of kind.Line c.berth.inside.state.place c.args.victim) c.number-edge.ensures.name
    c.number-edge.ensures.small).name

pub shrug_as-word-requires-clause-ready : goal.shrug_as-word-requires-clause-ready
shrug_as-word-requires-clause-ready g c =
    let m = may_at c.args.self.now c.berth.inside.seat.me c.berth.inside.state
    c.berth.inside.counters c.berth.inside.held.items (table_of c.berth.inside.looks)
    c.berth.inside.seat.table_id c.args.berth.now c.berth.view_is c.berth.invariant
    c.requires.here.here (λ p. event.Shrug p c.args.victim kind.Line) c.requires.may in
    let there = there_shrug c.berth.invariant.view.own c.berth.invariant.beside.listed kind.Line
    c.berth.inside.state.place c.args.victim m in
    let e = ends c.args.self.now c.berth.inside.seat.me c.berth.inside.state c.berth.inside.counters
    c.berth.inside.held.items (table_of c.berth.inside.looks) c.berth.inside.seat.table_id
    c.args.berth.now c.berth.view_is c.berth.invariant c.requires.here.here
    (name_of kind.Line c.berth.inside.state.place c.args.victim) m.1.0 m.1.2 there in (
      c.berth.invariant.view,
      c.berth.invariant.me_is,
      (
        is_free c.berth.invariant.me_is (ap (λ b. b.slot) c.berth.view_is ∙ c.requires.here.free),
        m,
      ),
    )

pub invariant_of-berth : goal.invariant_of-berth
invariant_of-berth g c =
    let m = may_at c.args.self.now c.berth.inside.seat.me c.berth.inside.state
    c.berth.inside.counters c.berth.inside.held.items (table_of c.berth.inside.looks)
    c.berth.inside.seat.table_id c.args.berth.now c.berth.view_is c.berth.invariant
    c.requires.here.here (λ p. event.Shrug p c.args.victim kind.Line) c.requires.may in
    let there = there_shrug c.berth.invariant.view.own c.berth.invariant.beside.listed kind.Line
    c.berth.inside.state.place c.args.victim m in
    let e = ends c.args.self.now c.berth.inside.seat.me c.berth.inside.state c.berth.inside.counters
    c.berth.inside.held.items (table_of c.berth.inside.looks) c.berth.inside.seat.table_id
    c.args.berth.now c.berth.view_is c.berth.invariant c.requires.here.here
    (name_of kind.Line c.berth.inside.state.place c.args.victim) m.1.0 m.1.2 there in
    record {
      view = (shrugged_on (name_of kind.Line c.berth.inside.state.place c.args.victim)
          c.shrug_as-word.result) c.berth.invariant.view;
      me_is = (turned (shrugged_on (name_of kind.Line c.berth.inside.state.place c.args.victim)
          c.shrug_as-word.result) c.berth.inside.seat.me c.shrug_as-word.new.seat.me
          c.berth.invariant.view c.berth.invariant.me_is c.shrug_as-word.ensures.moved);
      beside = subst (λ (s : PlaceState). IsBeside
          (shrugged_line_at (name_of kind.Line c.berth.inside.state.place c.args.victim)
          c.shrug_as-word.result c.berth.invariant.view.own) s c.berth.inside.counters
          c.berth.inside.held.items (table_of c.berth.inside.looks)) (sym c.rest_unless.ensures)
          (shrugs_beside c.berth.invariant.view.own c.berth.inside.state c.berth.inside.counters
          c.berth.inside.held.items (table_of c.berth.inside.looks) c.berth.invariant.beside
          c.args.victim c.shrug_as-word.result there);
    }

pub returns-clause-here : goal.returns-clause-here
returns-clause-here g c =
    still_free c.args.self.now c.berth.inside.seat.me c.berth.inside.state c.berth.inside.counters
    c.berth.inside.held.items (table_of c.berth.inside.looks) c.berth.inside.seat.table_id
    c.args.berth.now c.berth.view_is c.berth.invariant c.requires.here.here
    c.shrug_as-word.new.seat.table_id c.shrug_as-word.ensures.table.0
    c.shrug_as-word.new.seat.me ((shrugged_on
    (name_of kind.Line c.berth.inside.state.place c.args.victim) c.shrug_as-word.result)
    c.berth.invariant.view) (turned (shrugged_on
    (name_of kind.Line c.berth.inside.state.place c.args.victim) c.shrug_as-word.result)
    c.berth.inside.seat.me c.shrug_as-word.new.seat.me c.berth.invariant.view
    c.berth.invariant.me_is c.shrug_as-word.ensures.moved) c.rest_unless.new.state
    c.berth.inside.counters refl (neither (λ (x : Record g.row.P-Item.Denot). x.lines) _ _ _ _
    refl refl) (neither (λ (x : Record g.row.P-Item.Denot). x.params) _ _ _ _ refl refl)
    (neither (λ (x : Record g.row.P-Item.Denot). x.place) _ _ _ _ refl refl)
    (is_free c.berth.invariant.me_is (ap (λ b. b.slot) c.berth.view_is ∙ c.requires.here.free))

pub returns-clause-shrugged : goal.returns-clause-shrugged
returns-clause-shrugged g c =
    λ yes.
    let five : eqb c.shrug_as-word.result 5 ≡ false = not_true (eqb c.shrug_as-word.result 5) yes in
    let own = ap (λ b. cond b (known_row (name_of kind.Line c.berth.inside.state.place
    c.args.victim) seen.Loot c.berth.invariant.view.own)
    (left_at (name_of kind.Line c.berth.inside.state.place c.args.victim)
    c.berth.invariant.view.own)) five ∙ ap
    (λ p. left_at (name_of kind.Line p c.args.victim) c.berth.invariant.view.own)
    (sym (place_is c.args.self.now c.berth.inside.seat.me c.berth.inside.state
    c.berth.inside.counters c.berth.inside.held.items (table_of c.berth.inside.looks)
    c.berth.inside.seat.table_id c.args.berth.now c.berth.view_is c.berth.invariant
    c.requires.here.here)) in (
      moved c.args.self.now c.berth.inside.seat.me c.berth.inside.state c.berth.inside.counters
          c.berth.inside.held.items (table_of c.berth.inside.looks) c.berth.inside.seat.table_id
          c.args.berth.now c.berth.view_is c.berth.invariant c.requires.here.here
          c.shrug_as-word.new.seat.table_id c.shrug_as-word.ensures.table.0
          c.shrug_as-word.new.seat.me ((shrugged_on
          (name_of kind.Line c.berth.inside.state.place c.args.victim) c.shrug_as-word.result)
          c.berth.invariant.view) (turned (shrugged_on
          (name_of kind.Line c.berth.inside.state.place c.args.victim) c.shrug_as-word.result)
          c.berth.inside.seat.me c.shrug_as-word.new.seat.me c.berth.invariant.view
          c.berth.invariant.me_is c.shrug_as-word.ensures.moved) c.rest_unless.new.state
          c.berth.inside.counters 1 (shrug_row c.args.victim kind.Line) own refl
          (ap (λ (s : PlaceState). s.size) c.rest_unless.ensures
          ∙ (unless_stays (eqb c.shrug_as-word.result 5) c.berth.inside.state).1) refl,
      ⊎_elim (λ (z : c.shrug_as-word.result ≡ 5). absurd
          (true≢false (sym (eq-eqb c.shrug_as-word.result 5 z) ∙ five)))
          (λ (z : (c.shrug_as-word.result ≢ 5) × (read c.shrug_as-word.result ≡ seen.Refused)). ap
          read (sym (found_now c.args.self.now c.berth.inside.seat.me c.berth.inside.state
          c.berth.inside.counters c.berth.inside.held.items (table_of c.berth.inside.looks)
          c.berth.inside.seat.table_id c.args.berth.now c.berth.view_is c.berth.invariant
          c.requires.here.here c.shrug_as-word.new.seat.table_id c.shrug_as-word.ensures.table.0
          c.shrug_as-word.new.seat.me ((shrugged_on
          (name_of kind.Line c.berth.inside.state.place c.args.victim) c.shrug_as-word.result)
          c.berth.invariant.view) (turned (shrugged_on
          (name_of kind.Line c.berth.inside.state.place c.args.victim) c.shrug_as-word.result)
          c.berth.inside.seat.me c.shrug_as-word.new.seat.me c.berth.invariant.view
          c.berth.invariant.me_is c.shrug_as-word.ensures.moved) c.rest_unless.new.state
          c.berth.inside.counters)) ∙ z.1) c.shrug_as-word.ensures.finds,
    )

pub returns-clause-loot : goal.returns-clause-loot
returns-clause-loot g c =
    λ no.
    let five : eqb c.shrug_as-word.result 5 ≡ true = not_false (eqb c.shrug_as-word.result 5) no in
    let own = ap (λ b. cond b (known_row (name_of kind.Line c.berth.inside.state.place
    c.args.victim) seen.Loot c.berth.invariant.view.own)
    (left_at (name_of kind.Line c.berth.inside.state.place c.args.victim)
    c.berth.invariant.view.own)) five ∙ ap
    (λ p. known_row (name_of kind.Line p c.args.victim) seen.Loot c.berth.invariant.view.own)
    (sym (place_is c.args.self.now c.berth.inside.seat.me c.berth.inside.state
    c.berth.inside.counters c.berth.inside.held.items (table_of c.berth.inside.looks)
    c.berth.inside.seat.table_id c.args.berth.now c.berth.view_is c.berth.invariant
    c.requires.here.here)) in (
      moved c.args.self.now c.berth.inside.seat.me c.berth.inside.state c.berth.inside.counters
          c.berth.inside.held.items (table_of c.berth.inside.looks) c.berth.inside.seat.table_id
          c.args.berth.now c.berth.view_is c.berth.invariant c.requires.here.here
          c.shrug_as-word.new.seat.table_id c.shrug_as-word.ensures.table.0
          c.shrug_as-word.new.seat.me ((shrugged_on
          (name_of kind.Line c.berth.inside.state.place c.args.victim) c.shrug_as-word.result)
          c.berth.invariant.view) (turned (shrugged_on
          (name_of kind.Line c.berth.inside.state.place c.args.victim) c.shrug_as-word.result)
          c.berth.inside.seat.me c.shrug_as-word.new.seat.me c.berth.invariant.view
          c.berth.invariant.me_is c.shrug_as-word.ensures.moved) c.rest_unless.new.state
          c.berth.inside.counters 1 (λ r. known_row (name_of kind.Line r.place c.args.victim)
          seen.Loot r) own refl (ap (λ (s : PlaceState). s.size) c.rest_unless.ensures
          ∙ (unless_stays (eqb c.shrug_as-word.result 5) c.berth.inside.state).1) refl,
      sym (found_now c.args.self.now c.berth.inside.seat.me c.berth.inside.state
          c.berth.inside.counters c.berth.inside.held.items (table_of c.berth.inside.looks)
          c.berth.inside.seat.table_id c.args.berth.now c.berth.view_is c.berth.invariant
          c.requires.here.here c.shrug_as-word.new.seat.table_id c.shrug_as-word.ensures.table.0
          c.shrug_as-word.new.seat.me ((shrugged_on
          (name_of kind.Line c.berth.inside.state.place c.args.victim) c.shrug_as-word.result)
          c.berth.invariant.view) (turned (shrugged_on
          (name_of kind.Line c.berth.inside.state.place c.args.victim) c.shrug_as-word.result)
          c.berth.inside.seat.me c.shrug_as-word.new.seat.me c.berth.invariant.view
          c.berth.invariant.me_is c.shrug_as-word.ensures.moved) c.rest_unless.new.state
          c.berth.inside.counters) ∙ eqb-true c.shrug_as-word.result 5 five,
    )
