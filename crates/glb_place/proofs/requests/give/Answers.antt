use Rattle.std.proofs.Common.{◌∙◌, refl, sym, ap, ◌-◌, ◌^◌, min}
use Rattle.glb_place.proofs.AgreesFacts.{agrees_gave}
use Rattle.glb_place.proofs.HoldsFacts.{holds_gave, give_long}
use Rattle.glb_place.proofs.requests.give.Goals as goal

pub returns-in-Ok-clause-holds : goal.returns-in-Ok-clause-holds
returns-in-Ok-clause-holds g c =
    let x = c.in-Ok.ensures.kept in
    let e = sym c.take.ensures.value ∙ c.in-Some.is in
    rw (c.give.ensures.same.program_stays, x.3, c.take.ensures.after)
    (holds_gave _ _ _ _ _ _ _ _ _ _ _ c.requires.holds _ c.in-Some.part x.0 _ e x.1 refl refl refl
    (rw c.len-units.ensures at (c.count_given.ensures _ c.requires.holds.counters_are)))

pub returns-in-Ok-clause-agrees : goal.returns-in-Ok-clause-agrees
returns-in-Ok-clause-agrees g c =
    let x = c.in-Ok.ensures.kept in
    let e = sym c.take.ensures.value ∙ c.in-Some.is in
    let long = give_long _ _ _ _ _ _ _ _ _ _ _ c.requires.holds c.in-Some.part x.0 e x.1 in
    rw (x.3, c.take.ensures.after, c.note_in.ensures)
    (agrees_gave _ _ _ _ _ _ _ _ _ c.requires.agrees c.args.kind c.args.thief _ x.0
    c.len-held.result
    c.requires.there c.requires.may x.2
    (c.len-held.ensures ∙ ap (λ n. min n (2 ^ 64 - 1)) (sym long)))
