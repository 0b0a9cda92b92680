use Rattle.std.proofs.Common.{map, ap, subst, arith}
use Rattle.glb_rules.specs.Joins.{join_to}
use Rattle.glb_core.specs.Counters.{all_awake, all_degrees}
use Rattle.glb_place.specs.Close.{Closes}
use Rattle.glb_cells.specs.Starts.{setup_from}
use Rattle.glb_cells.specs.Berths.{CellsView, bag_of, setup_of_cells}
use Rattle.glb_cells.specs.Ends.{IsLastOf}
use Rattle.glb_cells.proofs.EndLemmas.Ending.{ends}
use Rattle.glb_cells.proofs.EndLemmas.Closing.{last_of, closes, all_many, all_placed, all_told, all_here}
use Rattle.glb_cells.proofs.cells.Cells.close.Goals as goal

pub gather_all-all-requires-clause-table : goal.gather_all-all-requires-clause-table
gather_all-all-requires-clause-table g c =
    let i = c.self.invariant in
    let w = i.sized in
    let m = c.requires.all.many in
    let e = ap (λ (s : CellsView g.row.P.Denot g.row.P-Item.Denot). s.lines.places)
    c.self.view_is in
    let few = i.few.1 in
    let p = i.placed in
    (omega arith, omega arith)

pub gather_all-all-requires-clause-berths : goal.gather_all-all-requires-clause-berths
gather_all-all-requires-clause-berths g c =
    all_here g.B.Bag.items c.self.inside.table.shared.key c.self.inside.table.shared.table_id
    c.args.self c.self.view_is c.args.berths.items c.requires.all

pub returns-clause-last : goal.returns-clause-last
returns-clause-last g c =
    let Γ = setup_from g.B.Bag.items g.B.Bag.fits g.P.Program.children
    c.self.inside.table.shared.key in
    let key = c.self.inside.table.shared.key in
    let id = c.self.inside.table.shared.table_id in
    let E = ends Γ _ _ c.gather_all-all.result.id c.word-live.result c.word-items.result
    c.word-stop.result c.gather_all-all.result.me.0 c.close_with-closed.ensures.values.2
    c.word-live.ensures c.word-items.ensures c.word-stop.ensures in
    subst (λ (s : CellsView g.row.P.Denot g.row.P-Item.Denot). IsLastOf
    (g.P.Program.children s.program) (setup_of_cells s) (bag_of s) c.word-live.result
    c.word-items.result c.word-stop.result (map (λ b. b.kept) c.args.berths.items))
    c.self.view_is
    (last_of g.B.Bag.items g.B.Bag.fits g.P.Program.children key c.word-live.result
    c.word-items.result c.word-stop.result c.gather_all-all.result.me.0
    (map (λ b. b.kept) c.args.berths.items) c.gather_all-all.ensures.views E
    (all_many g.B.Bag.items key id c.args.self c.self.view_is c.args.berths.items c.requires.all)
    (all_placed g.B.Bag.items key id c.args.self c.self.view_is c.args.berths.items c.requires.all))

pub returns-clause-closes : goal.returns-clause-closes
returns-clause-closes g c =
    let Γ = setup_from g.B.Bag.items g.B.Bag.fits g.P.Program.children
    c.self.inside.table.shared.key in
    let key = c.self.inside.table.shared.key in
    let id = c.self.inside.table.shared.table_id in
    let E = ends Γ _ _ c.gather_all-all.result.id c.word-live.result c.word-items.result
    c.word-stop.result c.gather_all-all.result.me.0 c.close_with-closed.ensures.values.2
    c.word-live.ensures c.word-items.ensures c.word-stop.ensures in
    subst (λ (s : CellsView g.row.P.Denot g.row.P-Item.Denot). Closes
    (g.P.Program.children s.program) (all_degrees (setup_of_cells s))
    (all_awake (setup_of_cells s)) s.params.limit (join_to s.lines.places (bag_of s))
    (map (λ b. b.kept) c.args.berths.items) c.word-live.result c.word-items.result
    c.word-stop.result) c.self.view_is
    (closes g.B.Bag.items g.B.Bag.fits g.P.Program.children key c.word-live.result
    c.word-items.result c.word-stop.result c.gather_all-all.result.me.0
    (map (λ b. b.kept) c.args.berths.items) c.gather_all-all.ensures.views E
    (all_many g.B.Bag.items key id c.args.self c.self.view_is c.args.berths.items c.requires.all)
    (all_placed g.B.Bag.items key id c.args.self c.self.view_is c.args.berths.items c.requires.all)
    (all_told g.B.Bag.items key id c.args.self c.self.view_is c.args.berths.items c.requires.all))
