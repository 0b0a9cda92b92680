use Rattle.std.proofs.Common.{◌≡◌, ◌≤◌, ◌∙◌, ap, inl, inr, ⊎_elim, Bool, true, false, refl, subst, arith}
use Rattle.glb_laws.proofs.Expansions.{batch_still}
use Rattle.glb_rules.specs.Setups.{tries_of}
use Rattle.glb_rules.specs.declared.params.Params.{Params}
use Rattle.glb_place.proofs.AgreesFacts.{agrees_settled}
use Rattle.glb_place.proofs.HoldsFacts.{holds_again, batch_moves, batch_some, holds_settled, one_not_minted}
use Rattle.glb_place.proofs.batch.settle.Goals as goal

yes_or : (b : Bool) → (b ≡ false → ⊥) → b ≡ true
yes_or true h = refl
yes_or false h = absurd (h refl)

pub settle-total-requires-clause-moves : goal.settle-total-requires-clause-moves
settle-total-requires-clause-moves g c =
    let whole = c.requires.agrees.whole (one_not_minted _ c.requires.may.2.1) in
    let x = rw (c.unit-gain.ensures, c.requires.program) at c.expand-done.ensures.moves in
    batch_moves _ _ _ _ _ _ _ _ _ _ _ c.requires.holds whole _ _ _ _ _ x

pub returns-then-done-eq0-clause-holds : goal.returns-then-done-eq0-clause-holds
returns-then-done-eq0-clause-holds g c =
    let whole = c.requires.agrees.whole (one_not_minted _ c.requires.may.2.1) in
    holds_again _ _ _ _ _ _ _ _ _ _ _ c.requires.holds c.expand-done.new.bag whole
    (batch_still _ _ _ _ _ _ _ _ c.expand-done.ensures.moves c.if-done-eq0.true)
    (rw c.requires.program at c.expand-done.ensures.fits)

pub returns-then-done-eq0-clause-none : goal.returns-then-done-eq0-clause-none
returns-then-done-eq0-clause-none g c = λ e.
    let whole = c.requires.agrees.whole (one_not_minted _ c.requires.may.2.1) in (
      yes_or _ (λ d. batch_some _ _ _ _ _ _ _ _ _ _ _ c.requires.holds whole c.requires.may.2.0
          c.requires.agrees.tells.own.fits (c.expand-done.ensures.none d c.if-done-eq0.true)),
      refl,
    )

pub returns-clause-holds : goal.returns-clause-holds
returns-clause-holds g c =
    let whole = c.requires.agrees.whole (one_not_minted _ c.requires.may.2.1) in
    rw (c.settle-total.ensures.same.program_stays, c.combine-held.ensures)
    (holds_settled _ _ _ _ _ _ _ _ _ _ _ c.requires.holds g.met.P.Value.Monoid.monoid_laws
    (g.met.P.Program.value_proper _)
    whole _ _ c.expand-done.new.bag _ _ _ _ c.settle-total.ensures.kept
    (rw c.requires.program at c.expand-done.ensures.fits)
    (c.count_items.ensures _ c.requires.holds.counters_are))

pub returns-clause-agrees : goal.returns-clause-agrees
returns-clause-agrees g c = λ low.
    let x = c.settle-total.ensures.kept in
    let tries = c.tries_of.ensures ∙ ap tries_of c.requires.agrees.params_are in
    rw (x.4, c.rest.ensures, tries, c.unmark_all.ensures)
    (agrees_settled _ _ _ _ _ _ _ _ _ c.requires.agrees c.settle-total.result x.0
    (g.B.Bag.items c.expand-done.new.bag) c.expand-done.new.bag c.requires.may low)

pub returns-clause-settled : goal.returns-clause-settled
returns-clause-settled g c = rw c.requires.program (
  _,
  _,
  c.settle-total.ensures.kept,
  (let n = c.if-done-eq0.false in omega arith),
  subst (λ (q : Params). c.expand-done.result.0 ≤ q.batch) c.requires.agrees.params_are
      c.expand-done.ensures.most,
  λ s. ⊎_elim (λ e. inl (e ∙ ap (λ (q : Params). q.batch) c.requires.agrees.params_are))
      (λ n. inr n)
      (c.expand-done.ensures.whole s),
)
