use Rattle.std.proofs.Common.{◌≡◌, ◌<◌, arith, ap, ◌∙◌, set, subst, sym, refl, length, ⊎_elim}
use Rattle.glb_core.specs.Tables.{view_of}
use Rattle.glb_core.proofs.Tables.PlaceRows.{size_of}
use Rattle.glb_core.proofs.Tables.Fits.{fits_place_row, bag_at}
use Rattle.glb_core.proofs.Tables.Views.{place_row_shown, places_are}
use Rattle.glb_core.proofs.Events.Items.{works, stays_at, value_stays, rest_none}
use Rattle.std.proofs.Common.{inl, inr, ◌≤◌, ◌+◌}
use Rattle.glb_rules.specs.Lawful.{PhaseFits}
use Rattle.std.proofs.lemmas.Bool.{cases_lt}
use Rattle.glb_core.specs.inner.ItemEffects.{AfterBatch}
use Rattle.glb_core.proofs.world.steps.batch.Goals as goal

pub returns-in-Ok-clause-worked : goal.returns-in-Ok-clause-worked
returns-in-Ok-clause-worked g c =
    let x = view_of c.args.tables.now in
    let items = g.B.Bag.items in
    let r = c.index_mut-place_row.result.now in
    let r2 = c.work.new.place_row in
    λ s w S.
    let batch : s.batch ≡ x.params.batch = ap (λ t. t.batch) S.shows.setup in
    let whole = c.in-Ok.ensures.whole in
    let lead = works items (g.P.Program.children c.args.program.now)
    (g.P.Program.value c.args.program.now) g.P.Value.Monoid.combine g.P.Value.Monoid.unit s x w S
    g.P.Value.Monoid.is_proper g.met.P.Value.Monoid.monoid_laws
    (g.met.P.Program.value_proper c.args.program.now)
    c.args.place c.in-Ok.count r r2 c.work.new.value (set x.place_rows c.args.place r2)
    (x.total + c.in-Ok.count) c.requires.named (c.requires.enabled s w S) c.index_mut-place_row.ensures.value
    c.in-Ok.ensures.done whole.0 (let m = whole.1 in omega arith)
    (subst (λ m. AfterBatch items m c.in-Ok.count r r2)
    (c.tries_of-tries.ensures ∙ sym (ap (λ t. t.tries) S.shows.setup)) c.in-Ok.ensures.settled) refl
    refl in (
      lead.0,
      ⊎_elim
          (λ (less : c.in-Ok.count < x.params.batch).
          inr (lead.1 ∙ rest_none (items r2.bag) (whole.2 less)))
          (λ (full : x.params.batch ≤ c.in-Ok.count).
          inl (let m = whole.1 in let n = lead.0.number in omega arith))
          (cases_lt c.in-Ok.count x.params.batch),
    )

pub returns-in-Err-clause-cut : goal.returns-in-Err-clause-cut
returns-in-Err-clause-cut g c =
    let x = view_of c.args.tables.now in
    let items = g.B.Bag.items in
    let r = c.index_mut-place_row.result.now in
    let r2 = c.work.new.place_row in
    let d = c.in-Err.stopped.done in
    ⊎_elim
    (λ (none : d < 1).
    let zero_done : d ≡ 0 = omega arith in
    inr (
      value_stays (g.P.Program.children c.args.program.now) (g.P.Program.value c.args.program.now)
          g.P.Value.Monoid.combine (items r.bag) (items r2.bag) x.value c.work.new.value d
          c.in-Err.ensures.stopped zero_done,
      λ s w S. stays_at items (g.P.Program.children c.args.program.now)
          (g.P.Program.value c.args.program.now) g.P.Value.Monoid.combine s x w S c.args.place d r r2
          c.work.new.value (set x.place_rows c.args.place r2) (x.total + d)
          c.requires.named c.index_mut-place_row.ensures.value c.in-Err.ensures.stopped zero_done
          (c.in-Err.ensures.cut.3 zero_done) refl refl,
    ))
    (λ (some : 1 ≤ d). inl (
      d,
      λ s w S.
          let batch : s.batch ≡ x.params.batch = ap (λ t. t.batch) S.shows.setup in
          let less = c.in-Err.ensures.cut.0 in
          let more = c.in-Err.ensures.cut.1 in
          let lead = works items (g.P.Program.children c.args.program.now) (g.P.Program.value c.args.program.now)
          g.P.Value.Monoid.combine g.P.Value.Monoid.unit s x w S
          g.P.Value.Monoid.is_proper g.met.P.Value.Monoid.monoid_laws
          (g.met.P.Program.value_proper c.args.program.now)
          c.args.place d r r2 c.work.new.value (set x.place_rows c.args.place r2) (x.total + d)
          c.requires.named (c.requires.enabled s w S) c.index_mut-place_row.ensures.value
          c.in-Err.ensures.stopped some (omega arith)
          (subst (λ m. AfterBatch items m d r r2)
          (c.tries_of-tries.ensures ∙ sym (ap (λ t. t.tries) S.shows.setup))
          (c.in-Err.ensures.cut.2 some)) refl refl in (
            lead.0,
            λ whole. ⊎_elim
                (λ full. let n = lead.0.number in omega (arith, less, batch, full))
                (λ none. let left = ap length (sym lead.1 ∙ none) in omega (arith, left, more))
                whole,
          ),
    ))
    (cases_lt d 1)

pub overflow_add-tables : goal.overflow_add-tables
overflow_add-tables g c = let l = c.requires.sound.2.shows.limits.batch.1 in
    let m = c.in-Ok.ensures.whole.1 in let t = c.requires.total in omega arith

pub overflow_add-tables-in-Err : goal.overflow_add-tables-in-Err
overflow_add-tables-in-Err g c = let l = c.requires.sound.2.shows.limits.batch.1 in
    let m = c.in-Err.ensures.cut.0 in let t = c.requires.total in omega arith

pub work-requires-clause-working : goal.work-requires-clause-working
work-requires-clause-working g c =
    let k = c.requires.sound in
    let x = view_of c.args.tables.now in
    let R = place_row_shown g.B.Bag.items k.0 x k.1 k.2 c.args.place c.args.place c.index_mut-place_row.result.now
    refl c.requires.named c.index_mut-place_row.ensures.value in
    R.same_phase ∙ (c.requires.enabled k.0 k.1 k.2).0

pub work-requires-clause-items : goal.work-requires-clause-items
work-requires-clause-items g c =
    let k = c.requires.sound in
    let x = view_of c.args.tables.now in
    let R = place_row_shown g.B.Bag.items k.0 x k.1 k.2 c.args.place c.args.place c.index_mut-place_row.result.now
    refl c.requires.named c.index_mut-place_row.ensures.value in
    let n = places_are g.B.Bag.items k.0 x k.1 k.2.shows in
    let l : c.args.place < k.0.places = let i = c.requires.named in omega arith in
    let a = k.1.place c.args.place in
    let fits = subst (λ y. PhaseFits y a.credit (length a.bag)) (c.requires.enabled k.0 k.1 k.2).0
    (k.2.lawful.inner c.args.place l).fits in
    let some = fits.0 in
    omega (arith, size_of R)

pub work-requires-clause-some : goal.work-requires-clause-some
work-requires-clause-some g c = let l = c.requires.sound.2.shows.limits.batch.0 in l

pub work-requires-clause-fits : goal.work-requires-clause-fits
work-requires-clause-fits g c =
    let k = c.requires.sound in
    let x = view_of c.args.tables.now in
    let r = c.index_mut-place_row.result.now in
    let l : c.args.place < length x.place_rows = let a = k.2.shows.place_rows in let i = c.requires.named
    in omega arith in
    subst (λ y. g.B.Bag.fits y.bag c.args.program.now) (sym c.index_mut-place_row.ensures.value)
    (c.requires.fits.place_rows c.args.place r l)

pub returns-in-Ok-clause-fits : goal.returns-in-Ok-clause-fits
returns-in-Ok-clause-fits g c =
    let x = view_of c.args.tables.now in
    let r = c.index_mut-place_row.result.now in
    let fits = g.B.Bag.fits in
    let l : c.args.place < length x.place_rows = let a = c.requires.sound.2.shows.place_rows in
    let b = c.requires.named in omega arith in
    record {
      kept = λ p A. fits_place_row fits p x c.args.place c.work.new.place_row x.live x.stop
          (x.total + c.in-Ok.count) c.work.new.value A
          (c.work.ensures.fits.kept p (bag_at fits p x c.args.place r A l c.index_mut-place_row.ensures.value));
    }

pub returns-in-Err-clause-fits : goal.returns-in-Err-clause-fits
returns-in-Err-clause-fits g c =
    let x = view_of c.args.tables.now in
    let r = c.index_mut-place_row.result.now in
    let fits = g.B.Bag.fits in
    let l : c.args.place < length x.place_rows = let a = c.requires.sound.2.shows.place_rows in
    let b = c.requires.named in omega arith in
    record {
      kept = λ p A. fits_place_row fits p x c.args.place c.work.new.place_row x.live x.stop
          (x.total + c.in-Err.stopped.done) c.work.new.value A
          (c.work.ensures.fits.kept p (bag_at fits p x c.args.place r A l c.index_mut-place_row.ensures.value));
    }
