use Rattle.std.proofs.Common.{rules, true, ◌≡◌, ◌+◌, ◌*◌, ◌-◌, ◌<◌, arith, false, sym, ap, ◌∙◌, subst}
use mathlib.Core.Option.{some}
use lib.ListN.{get_elem?}
use Rattle.glb_rules.specs.World.{has_edge}
use Rattle.glb_rules.specs.Events.{name_of}
use Rattle.glb_core.specs.Lifelines.{setup_of}
use Rattle.glb_cells.specs.EdgeNames.{names}
use Rattle.glb_cells.specs.Berths.{CellsView}
use Rattle.glb_cells.specs.Starts.{names_from}
use Rattle.glb_cells.proofs.StepLemmas.ListFacts.{below}
use Rattle.glb_cells.proofs.StartLemmas.Rows.{row_small}
use Rattle.glb_cells.proofs.StartLemmas.Named.{steal_low, steal_high, line_number}
use Rattle.glb_cells.proofs.cells.Cells.number.Goals as goal

pub returns-then-thief-victim-clause-name : goal.returns-then-thief-victim-clause-name
returns-then-thief-victim-clause-name g c =
    let s = c.self.inside in
    let key = s.table.shared.key in
    let i = c.self.invariant in
    let few = i.few.0 in
    let at = ap (λ (v : CellsView g.row.P.Denot g.row.P-Item.Denot). v.lines.places)
    c.self.view_is in
    let thief = subst (λ n. c.args.thief < n) (sym at ∙ sym i.placed) c.requires.thief in
    let victim = subst (λ n. c.args.victim < n) (sym at ∙ sym i.placed) c.requires.victim in
    let there = subst (λ (v : CellsView g.row.P.Denot g.row.P-Item.Denot). has_edge
    (setup_of v.lines v.params (λ p. false)) c.args.kind c.args.thief c.args.victim ≡ true)
    (sym c.self.view_is) c.requires.there in
    subst (λ (v : CellsView g.row.P.Denot g.row.P-Item.Denot). get_elem?
    (names (setup_of v.lines v.params (λ p. false)))
    (c.args.thief * c.self.inside.places + c.args.victim - c.args.thief - 1) ≡ some
    (name_of c.args.kind c.args.thief c.args.victim)) c.self.view_is
    (steal_low key.lines.value key.params (λ p. false) s.places i.placed c.args.kind c.args.thief
    c.args.victim thief victim c.in-Steal.is there c.if-thief-victim.true)

pub returns-then-thief-victim-clause-small : goal.returns-then-thief-victim-clause-small
returns-then-thief-victim-clause-small g c =
    let s = c.self.inside in
    let key = s.table.shared.key in
    let i = c.self.invariant in
    let few = i.few.0 in
    let at = ap (λ (v : CellsView g.row.P.Denot g.row.P-Item.Denot). v.lines.places)
    c.self.view_is in
    let thief = subst (λ n. c.args.thief < n) (sym at ∙ sym i.placed) c.requires.thief in
    let victim = subst (λ n. c.args.victim < n) (sym at ∙ sym i.placed) c.requires.victim in
    let there = subst (λ (v : CellsView g.row.P.Denot g.row.P-Item.Denot). has_edge
    (setup_of v.lines v.params (λ p. false)) c.args.kind c.args.thief c.args.victim ≡ true)
    (sym c.self.view_is) c.requires.there in
    let n = steal_low key.lines.value key.params (λ p. false) s.places i.placed c.args.kind
    c.args.thief c.args.victim thief victim c.in-Steal.is there c.if-thief-victim.true in
    let b = below (names_from key) _ _ n in
    let words = i.sized in
    let id = ap (λ (v : CellsView g.row.P.Denot g.row.P-Item.Denot). v.object.words)
    c.self.view_is in
    let small = row_small s.places c.args.thief few thief in
    let e = i.placed in
    (omega arith, omega arith)

pub returns-else-thief-victim-clause-name : goal.returns-else-thief-victim-clause-name
returns-else-thief-victim-clause-name g c =
    let s = c.self.inside in
    let key = s.table.shared.key in
    let i = c.self.invariant in
    let few = i.few.0 in
    let at = ap (λ (v : CellsView g.row.P.Denot g.row.P-Item.Denot). v.lines.places)
    c.self.view_is in
    let thief = subst (λ n. c.args.thief < n) (sym at ∙ sym i.placed) c.requires.thief in
    let victim = subst (λ n. c.args.victim < n) (sym at ∙ sym i.placed) c.requires.victim in
    let there = subst (λ (v : CellsView g.row.P.Denot g.row.P-Item.Denot). has_edge
    (setup_of v.lines v.params (λ p. false)) c.args.kind c.args.thief c.args.victim ≡ true)
    (sym c.self.view_is) c.requires.there in
    subst (λ (v : CellsView g.row.P.Denot g.row.P-Item.Denot). get_elem?
    (names (setup_of v.lines v.params (λ p. false)))
    (c.args.thief * c.self.inside.places + c.args.victim - c.args.thief) ≡ some
    (name_of c.args.kind c.args.thief c.args.victim)) c.self.view_is
    (steal_high key.lines.value key.params (λ p. false) s.places i.placed c.args.kind c.args.thief
    c.args.victim thief victim c.in-Steal.is there c.if-thief-victim.false)

pub returns-else-thief-victim-clause-small : goal.returns-else-thief-victim-clause-small
returns-else-thief-victim-clause-small g c =
    let s = c.self.inside in
    let key = s.table.shared.key in
    let i = c.self.invariant in
    let few = i.few.0 in
    let at = ap (λ (v : CellsView g.row.P.Denot g.row.P-Item.Denot). v.lines.places)
    c.self.view_is in
    let thief = subst (λ n. c.args.thief < n) (sym at ∙ sym i.placed) c.requires.thief in
    let victim = subst (λ n. c.args.victim < n) (sym at ∙ sym i.placed) c.requires.victim in
    let there = subst (λ (v : CellsView g.row.P.Denot g.row.P-Item.Denot). has_edge
    (setup_of v.lines v.params (λ p. false)) c.args.kind c.args.thief c.args.victim ≡ true)
    (sym c.self.view_is) c.requires.there in
    let n = steal_high key.lines.value key.params (λ p. false) s.places i.placed c.args.kind
    c.args.thief c.args.victim thief victim c.in-Steal.is there c.if-thief-victim.false in
    let b = below (names_from key) _ _ n in
    let words = i.sized in
    let id = ap (λ (v : CellsView g.row.P.Denot g.row.P-Item.Denot). v.object.words)
    c.self.view_is in
    let small = row_small s.places c.args.thief few thief in
    let e = i.placed in
    (omega arith, omega arith)

pub returns-in-Line-clause-name : goal.returns-in-Line-clause-name
returns-in-Line-clause-name g c =
    let s = c.self.inside in
    let key = s.table.shared.key in
    let i = c.self.invariant in
    let few = i.few.0 in
    let at = ap (λ (v : CellsView g.row.P.Denot g.row.P-Item.Denot). v.lines.places)
    c.self.view_is in
    let thief = subst (λ n. c.args.thief < n) (sym at ∙ sym i.placed) c.requires.thief in
    let victim = subst (λ n. c.args.victim < n) (sym at ∙ sym i.placed) c.requires.victim in
    let there = subst (λ (v : CellsView g.row.P.Denot g.row.P-Item.Denot). has_edge
    (setup_of v.lines v.params (λ p. false)) c.args.kind c.args.thief c.args.victim ≡ true)
    (sym c.self.view_is) c.requires.there in
    subst (λ (v : CellsView g.row.P.Denot g.row.P-Item.Denot). get_elem?
    (names (setup_of v.lines v.params (λ p. false))) c.index-number.result.now ≡ some
    (name_of c.args.kind c.args.thief c.args.victim)) c.self.view_is
    (line_number key.lines.value key.params (λ p. false) s.places i.placed c.args.kind c.args.thief
    c.args.victim thief victim s.line_numbers.items _ c.index-number.ensures i.numbered
    c.in-Line.is there)

pub returns-in-Line-clause-small : goal.returns-in-Line-clause-small
returns-in-Line-clause-small g c =
    let s = c.self.inside in
    let key = s.table.shared.key in
    let i = c.self.invariant in
    let few = i.few.0 in
    let at = ap (λ (v : CellsView g.row.P.Denot g.row.P-Item.Denot). v.lines.places)
    c.self.view_is in
    let thief = subst (λ n. c.args.thief < n) (sym at ∙ sym i.placed) c.requires.thief in
    let victim = subst (λ n. c.args.victim < n) (sym at ∙ sym i.placed) c.requires.victim in
    let there = subst (λ (v : CellsView g.row.P.Denot g.row.P-Item.Denot). has_edge
    (setup_of v.lines v.params (λ p. false)) c.args.kind c.args.thief c.args.victim ≡ true)
    (sym c.self.view_is) c.requires.there in
    let n = line_number key.lines.value key.params (λ p. false) s.places i.placed c.args.kind
    c.args.thief c.args.victim thief victim s.line_numbers.items _ c.index-number.ensures
    i.numbered c.in-Line.is there in
    let b = below (names_from key) _ _ n in
    let words = i.sized in
    let id = ap (λ (v : CellsView g.row.P.Denot g.row.P-Item.Denot). v.object.words)
    c.self.view_is in
    (omega arith, search rules)
