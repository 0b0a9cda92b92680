use Rattle.std.proofs.Common.{◌∙◌, refl, sym, ap, ◌-◌, ◌^◌, ◌++◌, min}
use Rattle.glb_rules.specs.declared.place_state.PlaceState.{PlaceState}
use Rattle.glb_place.proofs.AgreesFacts.{agrees_took}
use Rattle.glb_place.proofs.HoldsFacts.{holds_took, holds_beside, take_long}
use Rattle.glb_place.proofs.requests.take.Goals as goal

pub returns-in-Ok-clause-holds : goal.returns-in-Ok-clause-holds
returns-in-Ok-clause-holds g c =
    let e = c.requires.agrees.whole c.requires.not_minted in
    let phases = ap (λ (b : PlaceState). b.phase) c.requires.agrees.is in
    rw (c.take-part.ensures.same.program_stays, c.take-part.ensures.kept)
    (holds_took _ _ _ _ _ _ _ _ _ _ _ c.requires.holds _ (g.B.Bag.items c.take-part.result)
    c.merge.new.self _ e
    c.in-Ok.ensures.merged (c.merge.ensures.fits.kept _ c.requires.holds.bag_fits) refl refl refl
    (rw (c.len.ensures, phases) at (c.count_got.ensures _ c.requires.holds.counters_are)))

pub returns-in-Ok-clause-agrees : goal.returns-in-Ok-clause-agrees
returns-in-Ok-clause-agrees g c =
    let e = c.requires.agrees.whole c.requires.not_minted in
    let long =
    take_long _ _ _ _ _ _ _ _ _ _ _ c.requires.holds (g.B.Bag.items c.take-part.result)
    c.merge.new.self e
    c.in-Ok.ensures.merged
    in
    rw (c.take-part.ensures.kept, c.credit_taken-held.ensures, c.note_line.ensures)
    (agrees_took _ _ _ _ _ _ _ _ _ c.requires.agrees c.args.victim c.args.kind
    (g.B.Bag.items c.take-part.result)
    c.merge.new.self c.len-held.result c.requires.may c.requires.there
    c.take-part.ensures.some c.requires.not_minted
    (c.len-held.ensures ∙ ap (λ n. min n (2 ^ 64 - 1)) long))

pub returns-in-Err-clause-holds : goal.returns-in-Err-clause-holds
returns-in-Err-clause-holds g c =
    let e = c.requires.agrees.whole c.requires.not_minted in
    let phases = ap (λ (b : PlaceState). b.phase) c.requires.agrees.is in
    let same = c.in-Err.ensures.refused in
    rw (c.take-part.ensures.same.program_stays, c.take-part.ensures.kept)
    (holds_beside _ _ _ _ _ _ _ _ _ _ _ c.requires.holds _ c.in-Err.refused c.merge.new.self _ e
    same.1
    (c.merge.ensures.fits.kept _ c.requires.holds.bag_fits)
    (c.in-Err.ensures.other_fits.kept _ c.take-part.ensures.fits)
    (ap (λ xs. xs ++ (g.F.Fabric.kept c.args.held.now.fabric).local.bag) (sym same.0)) refl refl
    (rw (c.len.ensures, phases) at (c.count_got.ensures _ c.requires.holds.counters_are)))
