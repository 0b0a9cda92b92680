use Rattle.std.proofs.Common.{◌≡◌, ap, ◌∙◌, sym, subst, map, length, get_or, refl, arith, ◌==◌}
use Rattle.std.proofs.lemmas.List.{with_items_is, length-map}
use Rattle.glb_rules.specs.Events.{name_of}
use Rattle.glb_rules.specs.declared.edges.InEdge.{InEdge}
use Rattle.glb_rules.specs.declared.edges.OutEdge.{OutEdge}
use Rattle.glb_core.specs.Tables.{view_of}
use Rattle.glb_core.specs.inner.Sights.{in_seen, out_seen, waited_seen, AllThieves, AllVictims}
use Rattle.glb_core.proofs.Tables.Views.{place_row_shown}
use Rattle.glb_core.proofs.Sights.Told.{thieves_near, victims_near, ins_told, outs_told}
use Rattle.glb_core.proofs.Sights.Told.{waited_told, near_shown, ins_named, outs_named}
use Rattle.glb_core.proofs.world.sight.look_round.Goals as goal

pub returns-clause-seen : goal.returns-clause-seen
returns-clause-seen g c = λ s w S.
    let x = view_of c.args.tables.now in
    let p = c.args.place in
    let r = c.index-place_rows-place.result in
    let n = c.places-places.ensures.places in
    let sl = c.as_slice-edge_rows.ensures.value in
    let ins = c.args.seen.now.ins.items in
    let outs = c.args.seen.now.outs.items in
    let told : c.see_ins.new.ins ≡ map (in_seen r x.edge_rows x.cube.places p) ins =
    c.see_ins.ensures ∙ ap (λ m. map (in_seen r c.as_slice-edge_rows.result.now m p) c.deref_mut.result.now) n
    ∙ ap (λ z. map (in_seen r z x.cube.places p) c.deref_mut.result.now) sl
    ∙ ap (map (in_seen r x.edge_rows x.cube.places p)) c.deref_mut.ensures.value in
    let told_out : c.see_outs.new.outs ≡ map (out_seen x.edge_rows x.cube.places p) outs =
    c.see_outs.ensures ∙ ap (λ m. map (out_seen c.as_slice-edge_rows.result.now m p) c.deref_mut-2.result.now) n
    ∙ ap (λ z. map (out_seen z x.cube.places p) c.deref_mut-2.result.now) sl
    ∙ ap (map (out_seen x.edge_rows x.cube.places p)) c.deref_mut-2.ensures.value in
    let kept_ins = with_items_is c.args.seen.now.ins c.see_ins.new.ins
    (ap length told ∙ length-map ins (in_seen r x.edge_rows x.cube.places p)
    ∙ sym c.args.seen.now.ins.ok.0) in
    let kept_outs = with_items_is c.args.seen.now.outs c.see_outs.new.outs
    (ap length told_out ∙ length-map outs (out_seen x.edge_rows x.cube.places p)
    ∙ sym c.args.seen.now.outs.ok.0) in
    let R = place_row_shown g.B.Bag.items s x w S p p r refl c.requires.place
    (c.index-place_rows-place.is ∙ ap (λ xs. get_or xs p r) c.as_slice-place_rows.ensures.value) in
    let e1 = kept_ins ∙ told
    ∙ ins_told g.B.Bag.items s x w S p c.requires.place r R ins c.requires.made.ins in
    let e2 = kept_outs ∙ told_out
    ∙ outs_told g.B.Bag.items s x w S p c.requires.place r R outs c.requires.made.outs in
    let e3 = c.see_waited-seen.ensures ∙ ap (λ m. waited_seen c.as_slice-edge_rows.result.now m p r.phase) n
    ∙ ap (λ z. waited_seen z x.cube.places p r.phase) sl
    ∙ waited_told g.B.Bag.items s x w S p c.requires.place r R in
    let e4 = ap (λ l. l == 0) S.shows.live in
    let e5 = S.shows.stop in
    λ i. record { ins = e1 i; outs = e2 i; waited = e3 i; ended = e4 i; stop = e5 i }

pub returns-clause-made : goal.returns-clause-made
returns-clause-made g c =
    let x = view_of c.args.tables.now in
    let p = c.args.place in
    let r = c.index-place_rows-place.result in
    let n = c.places-places.ensures.places in
    let sl = c.as_slice-edge_rows.ensures.value in
    let ins = c.args.seen.now.ins.items in
    let outs = c.args.seen.now.outs.items in
    let told : c.see_ins.new.ins ≡ map (in_seen r x.edge_rows x.cube.places p) ins =
    c.see_ins.ensures ∙ ap (λ m. map (in_seen r c.as_slice-edge_rows.result.now m p) c.deref_mut.result.now) n
    ∙ ap (λ z. map (in_seen r z x.cube.places p) c.deref_mut.result.now) sl
    ∙ ap (map (in_seen r x.edge_rows x.cube.places p)) c.deref_mut.ensures.value in
    let told_out : c.see_outs.new.outs ≡ map (out_seen x.edge_rows x.cube.places p) outs =
    c.see_outs.ensures ∙ ap (λ m. map (out_seen c.as_slice-edge_rows.result.now m p) c.deref_mut-2.result.now) n
    ∙ ap (λ z. map (out_seen z x.cube.places p) c.deref_mut-2.result.now) sl
    ∙ ap (map (out_seen x.edge_rows x.cube.places p)) c.deref_mut-2.ensures.value in
    let kept_ins = with_items_is c.args.seen.now.ins c.see_ins.new.ins
    (ap length told ∙ length-map ins (in_seen r x.edge_rows x.cube.places p)
    ∙ sym c.args.seen.now.ins.ok.0) in
    let kept_outs = with_items_is c.args.seen.now.outs c.see_outs.new.outs
    (ap length told_out ∙ length-map outs (out_seen x.edge_rows x.cube.places p)
    ∙ sym c.args.seen.now.outs.ok.0) in
    record {
      ins = ap (map (λ (y : InEdge). name_of y.kind y.thief p)) (kept_ins ∙ told)
          ∙ ins_named r x.edge_rows x.cube.places p ins ∙ c.requires.made.ins;
      outs = ap (map (λ (y : OutEdge). y.victim)) (kept_outs ∙ told_out)
          ∙ outs_named x.edge_rows x.cube.places p outs ∙ c.requires.made.outs;
    }

pub see_ins-requires-clause-thieves : goal.see_ins-requires-clause-thieves
see_ins-requires-clause-thieves g c =
    subst (λ m. AllThieves m c.deref_mut.result.now) (sym c.places-places.ensures.places)
    (subst (AllThieves c.args.tables.now.lines.places) (sym c.deref_mut.ensures.value)
    (thieves_near c.args.tables.now.lines c.args.place c.args.seen.now.ins.items c.requires.made.ins))

pub see_ins-requires-clause-marks : goal.see_ins-requires-clause-marks
see_ins-requires-clause-marks g c =
    let x = view_of c.args.tables.now in
    let p = c.args.place in
    let r = c.index-place_rows-place.result in
    let n = c.places-places.ensures.places in
    let sl = c.as_slice-edge_rows.ensures.value in
    let k = c.requires.sound in
    let R = place_row_shown g.B.Bag.items k.0 x k.1 k.2 p p r refl c.requires.place
    (c.index-place_rows-place.is ∙ ap (λ xs. get_or xs p r) c.as_slice-place_rows.ensures.value) in
    omega (arith, R.many, r.marks.ok.0)

pub see_outs-requires-clause-victims : goal.see_outs-requires-clause-victims
see_outs-requires-clause-victims g c =
    subst (λ m. AllVictims m c.deref_mut-2.result.now) (sym c.places-places.ensures.places)
    (subst (AllVictims c.args.tables.now.lines.places) (sym c.deref_mut-2.ensures.value)
    (victims_near c.args.tables.now.lines c.args.place c.args.seen.now.outs.items c.requires.made.outs))

pub see_waited-seen-requires-clause-near : goal.see_waited-seen-requires-clause-near
see_waited-seen-requires-clause-near g c = λ v k e.
    let x = view_of c.args.tables.now in
    let p = c.args.place in
    let r = c.index-place_rows-place.result in
    let n = c.places-places.ensures.places in
    let sl = c.as_slice-edge_rows.ensures.value in
    let q = c.requires.sound in
    let R = place_row_shown g.B.Bag.items q.0 x q.1 q.2 p p r refl c.requires.place
    (c.index-place_rows-place.is ∙ ap (λ xs. get_or xs p r) c.as_slice-place_rows.ensures.value) in
    let l = near_shown g.B.Bag.items q.0 x q.1 q.2 p c.requires.place r R v k e in
    omega arith
