use Rattle.std.proofs.Common.{rules, Some, ◌≡◌, ◌<◌, ℕ, List, [], ◌∷◌, length, min, get_or, arith, refl, sym, ap, ◌∙◌, subst}
use Rattle.std.proofs.lemmas.List.{length-append}
use Rattle.glb_cells.specs.declared.view.View.{View}
use Rattle.glb_cells.specs.Starts.{first_view, setup_from}
use Rattle.glb_cells.specs.Berths.{BerthView}
use Rattle.glb_cells.specs.inner.Keeping.{edge_in}
use Rattle.glb_cells.specs.inner.Seats.{HasFirst}
use Rattle.glb_cells.proofs.StartLemmas.Drops.{drop_some, drop_next}
use Rattle.glb_cells.proofs.StartLemmas.Starting.{long_views}
use Rattle.glb_cells.proofs.BerthLemmas.First.{dealt_is, first_beside, sized}
use Rattle.glb_cells.proofs.EndLemmas.Popped.{pushed}
use Rattle.glb_cells.proofs.opening.deal_all.Goals as goal

pub deal-seat-requires-clause-some : goal.deal-seat-requires-clause-some
deal-seat-requires-clause-some g c =
    let Γ = setup_from g.B.Bag.items g.B.Bag.fits g.P.Program.children c.args.cells.now.key in
    let n : length c.args.dealer.me.0 ≡ length c.args.bags.now = ap length c.requires.all.0
    ∙ long_views Γ c.args.cells.now.key.lines.value.places ∙ sym c.requires.bags.1 in
    let s = drop_some c.args.dealer.me.0 c.loop-place.place
    (let l = c.loop-place-test.true in omega arith) in
    (s.0, s.1, c.loop-place.invariant.left ∙ s.2)

pub berth_at_start-berth-requires : goal.berth_at_start-berth-requires
berth_at_start-berth-requires g c =
    let key = c.args.cells.now.key in
    let d = c.deal-seat.ensures.dealt in
    let is = dealt_is g.B.Bag.items g.B.Bag.fits g.P.Program.children key c.args.dealer.me.0
    c.loop-place.place d.0 d.1 c.requires.all.0 (sym c.loop-place.invariant.left ∙ d.2) in
    let e = c.in_ok-looks.ensures in
    record {
      kept = record {
        view = first_view (setup_from g.B.Bag.items g.B.Bag.fits g.P.Program.children key)
            c.loop-place.place;
        me_is = d.4 ∙ ap (λ (x : View g.row.P.Denot g.row.P-Item.Denot). (x ∷ [], [])) is;
        beside = first_beside g.B.Bag.items g.B.Bag.fits g.P.Program.children key c.requires.sound
            c.requires.cube c.args.bags.now c.requires.bags.0 c.requires.bags.1
            c.loop-place.place c.len.result c.args.tries c.index-bags-place.result
            c.loop-place-test.true
            (c.len.ensures ∙ ap (λ x. min (length (g.B.Bag.items x)) 18446744073709551615)
            c.index-bags-place.is)
            c.requires.tries _ c.in_ok-held.ensures _
            (record {
              steals_in = sized _ _ _ e.steals_in (search rules);
              lines_in = sized _ _ _ e.lines_in (search rules);
              steals_out = sized _ _ _ e.steals_out (search rules);
              lines_out = sized _ _ _ e.lines_out (search rules);
            });
      };
    }

pub loop-place-preserved : goal.loop-place-preserved
loop-place-preserved g c =
    let key = c.args.cells.now.key in
    let Γ = setup_from g.B.Bag.items g.B.Bag.fits g.P.Program.children key in
    let id = c.args.cells.now.table_id in
    let d = c.deal-seat.ensures.dealt in
    let i = c.loop-place.invariant in
    let is = dealt_is g.B.Bag.items g.B.Bag.fits g.P.Program.children key c.args.dealer.me.0
    c.loop-place.place d.0 d.1 c.requires.all.0 (sym i.left ∙ d.2) in
    let next = drop_next c.args.dealer.me.0 c.loop-place.place d.0 d.1 (sym i.left ∙ d.2) in
    let b = c.berth_at_start-berth in
    let v = b.ensures.view d.0 (ap (λ m. m.0) d.4) in
    let push = c.in_ok-push.ensures.items in
    let last : HasFirst Γ id c.loop-place.place b.result = record {
      object = b.ensures.object ∙ c.deal-seat.ensures.table.1 ∙ i.table;
      program = v.0 ∙ ap (λ (r : View g.row.P.Denot g.row.P-Item.Denot). Some r.program) is;
      kept = v.1 ∙ ap (λ (r : View g.row.P.Denot g.row.P-Item.Denot). r.own) is;
      free = v.3 ∙ ap (λ (r : View g.row.P.Denot g.row.P-Item.Denot). edge_in r.hand) is;
      steps = v.2 ∙ ap (λ (r : View g.row.P.Denot g.row.P-Item.Denot). r.steps) is;
    } in
    record {
      table = c.deal-seat.ensures.table.0 ∙ i.table;
      left = ap (λ m. m.0) d.3 ∙ sym next.0;
      none = ap (λ m. m.1) d.3 ∙ i.none;
      many = ap length push ∙ length-append c.loop-place.berths.items (b.result ∷ [])
          ∙ (let m = i.many in omega arith);
      first = subst (λ (xs : List (BerthView g.row.P.Denot g.row.P-Item.Denot)). (p : ℕ)
          (d : BerthView g.row.P.Denot g.row.P-Item.Denot) → p < length xs
          → HasFirst Γ id p (get_or xs p d)) (sym push)
          (pushed (HasFirst Γ id) c.loop-place.berths.items b.result i.first
          (subst (λ n. HasFirst Γ id n b.result) (sym i.many) last));
    }
