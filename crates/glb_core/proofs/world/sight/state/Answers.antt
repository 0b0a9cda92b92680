use Rattle.std.proofs.Common.{ap, ◌∙◌, sym, get_or, refl, min, ◌-◌, ◌^◌}
use Rattle.glb_rules.specs.Draws.{drawn}
use Rattle.glb_core.specs.Tables.{view_of}
use Rattle.glb_core.proofs.Tables.PlaceRows.{size_of}
use Rattle.glb_core.proofs.Tables.Views.{place_row_shown, places_are}
use Rattle.glb_core.proofs.world.sight.state.Goals as goal

pub returns : goal.returns
returns g c = λ s w S.
    let x = view_of c.args.tables.now in
    let p = c.args.place in
    let r = c.index-place_rows-place.result in
    let R = place_row_shown g.B.Bag.items s x w S p p r refl c.requires.place
    (c.index-place_rows-place.is ∙ ap (λ xs. get_or xs p r) c.as_slice-place_rows.ensures.value) in
    let a = w.place p in
    let phase = R.same_phase in
    let credit = R.same_credit in
    let tries = R.tries in
    let victim = R.victim
    ∙ ap (λ n. drawn x.params.seed n p a.count.asks) (sym (places_are g.B.Bag.items s x w S.shows)) in
    let size = c.len.ensures ∙ ap (λ n. min n (2 ^ 64 - 1)) (size_of R) in
    λ i. record {
      place = p;
      phase = phase i;
      credit = credit i;
      tries = tries i;
      victim = victim i;
      size = size i;
    }
