use Rattle.std.proofs.Common.{◌≡◌, ◌++◌, None, map, sym, ap, ◌∙◌, append_assoc}
use Rattle.std.proofs.lemmas.List.{map-append}
use Rattle.glb_cells.specs.declared.view.View.{View}
use Rattle.glb_cells.specs.Berths.{BerthView}
use Rattle.glb_cells.proofs.EndLemmas.Popped.{popped}
use Rattle.glb_cells.proofs.closing.gather_all.Goals as goal

pub loop-berth-init : goal.loop-berth-init
loop-berth-init g c =
    let p = popped (λ (b : BerthView g.row.P.Denot g.row.P-Item.Denot). (b.object ≡
    c.args.cells.now.table_id) × (b.slot ≡ None)) (λ b. b.kept) c.args.berths.items c.pop.new.self.items
    c.pop.result c.unwrap.result c.pop.ensures.items c.unwrap.ensures c.requires.berths in
    let e = c.seat_of-all.ensures in
    record {
      one = (e.table ∙ p.1.0, e.free);
      here = p.0;
      whole = ap (λ xs. map (λ b. b.kept) c.pop.new.self.items ++ xs) e.view ∙ p.2;
    }

pub seat_of-seat-requires : goal.seat_of-seat-requires
seat_of-seat-requires g c =
    let p = popped (λ (b : BerthView g.row.P.Denot g.row.P-Item.Denot). (b.object ≡
    c.args.cells.now.table_id) × (b.slot ≡ None)) (λ b. b.kept) c.loop-berth.berths.items
    c.pop-in-loop-berth.new.self.items c.pop-in-loop-berth.result c.in-Some.berth
    c.pop-in-loop-berth.ensures.items c.in-Some.is c.loop-berth.invariant.here in
    record { free = p.1.1 }

pub gather-requires : goal.gather-requires
gather-requires g c =
    let i = c.loop-berth.invariant in
    let p = popped (λ (b : BerthView g.row.P.Denot g.row.P-Item.Denot). (b.object ≡
    c.args.cells.now.table_id) × (b.slot ≡ None)) (λ b. b.kept) c.loop-berth.berths.items
    c.pop-in-loop-berth.new.self.items c.pop-in-loop-berth.result c.in-Some.berth
    c.pop-in-loop-berth.ensures.items c.in-Some.is i.here in
    record { table = (c.seat_of-seat.ensures.table ∙ p.1.0, i.one.0, c.requires.table.0, i.one.1) }

pub loop-berth-preserved : goal.loop-berth-preserved
loop-berth-preserved g c =
    let i = c.loop-berth.invariant in
    let p = popped (λ (b : BerthView g.row.P.Denot g.row.P-Item.Denot). (b.object ≡
    c.args.cells.now.table_id) × (b.slot ≡ None)) (λ b. b.kept) c.loop-berth.berths.items
    c.pop-in-loop-berth.new.self.items c.pop-in-loop-berth.result c.in-Some.berth
    c.pop-in-loop-berth.ensures.items c.in-Some.is i.here in
    let j = c.gather.ensures in
    let e = c.seat_of-seat.ensures in
    let v = map (λ (b : BerthView g.row.P.Denot g.row.P-Item.Denot). b.kept)
    c.pop-in-loop-berth.new.self.items in
    let own = λ (r : View g.row.P.Denot g.row.P-Item.Denot). r.own in
    record {
      one = (j.table.0 ∙ e.table ∙ p.1.0, ap (λ m. m.1) j.joined ∙ e.free);
      here = p.0;
      whole = ap (λ m. v ++ map own m.0) j.joined
          ∙ ap (λ l. v ++ l) (map-append own c.seat_of-seat.result.me.0 c.loop-berth.all.me.0)
          ∙ sym (append_assoc v (map own c.seat_of-seat.result.me.0)
          (map own c.loop-berth.all.me.0))
          ∙ ap (λ l. (v ++ l) ++ map own c.loop-berth.all.me.0) e.view
          ∙ ap (λ l. l ++ map own c.loop-berth.all.me.0) p.2 ∙ i.whole;
    }
