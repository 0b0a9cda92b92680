use Rattle.std.proofs.Common.{◌<◌, ◌≤◌, length, refl, arith}
use Rattle.glb_place.proofs.AgreesFacts.{agrees_minted}
use Rattle.glb_place.proofs.HoldsFacts.{holds_split, mint_parts, one_not_minted}
use Rattle.glb_place.proofs.actions.mint.Goals as goal

pub unreachable-requires : goal.unreachable-requires
unreachable-requires g c =
    let n = rw c.in-None.is at c.in_ok-part.ensures.none in
    let whole = c.requires.agrees.whole (one_not_minted _ c.requires.may.2.1) in
    let short : length (g.B.Bag.items c.args.held.now.bag) < 2 = n.0 refl in
    let long : 2 ≤ length (g.B.Bag.items c.args.held.now.bag) =
    mint_parts _ _ _ _ _ _ _ _ _ _ _ c.requires.holds whole c.requires.may.2.2 in
    omega arith

pub returns-clause-holds : goal.returns-clause-holds
returns-clause-holds g c =
    let same = rw c.in-Some.is at c.in_ok-part.ensures.same in
    let part_fits = rw c.in-Some.is at c.in_ok-part.ensures.part_fits in
    let fits = c.requires.holds.bag_fits in
    let whole = c.requires.agrees.whole (one_not_minted _ c.requires.may.2.1) in
    rw (c.mint.ensures.same.program_stays, c.mint.ensures.kept)
    (holds_split _ _ _ _ _ _ _ _ _ _ _ c.requires.holds _ c.in-Some.part c.split.new.self whole same
    (c.split.ensures.fits.kept _ fits) (part_fits.kept _ fits) refl refl refl)

pub returns-clause-agrees : goal.returns-clause-agrees
returns-clause-agrees g c =
    let halves = rw c.in-Some.is at c.in_ok-part.ensures.halves in
    rw c.mint.ensures.kept
    (agrees_minted _ _ _ _ _ _ _ _ _ c.requires.agrees c.in-Some.part c.split.new.self
    c.requires.may
    c.requires.looked c.requires.wanted halves)
