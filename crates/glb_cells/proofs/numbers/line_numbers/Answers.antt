use Rattle.std.proofs.Common.{rules, ◌≡◌, ◌+◌, ◌*◌, ◌<◌, ℕ, length, ap, ◌∙◌, arith, get_or, add-one, refl}
use Rattle.glb_cube.specs.Lines.{Cube, outs_of}
use Rattle.glb_cells.specs.inner.Numbers.{fill, filled, first_number}
use Rattle.glb_cells.proofs.StartLemmas.Rows.{next_small, row_in, row_small, sum_next}
use Rattle.glb_cells.proofs.StartLemmas.Numbering.{filled_long}
use Rattle.glb_cells.proofs.numbers.line_numbers.Goals as goal

pub fill_row-requires-clause-room : goal.fill_row-requires-clause-room
fill_row-requires-clause-room c = λ k d l.
    let p = c.places-places.ensures.places in
    let t : c.loop-thief.thief < c.args.lines.now.places = omega arith in
    let near : get_or c.out-row.result.now k d < c.args.lines.now.places =
    c.out-row.ensures.near k d l in
    let long : length c.loop-thief.numbers.items ≡ c.args.lines.now.places *
    c.args.lines.now.places = ap length c.loop-thief.invariant.numbers
    ∙ filled_long c.args.lines.now c.loop-thief.thief in
    let r = row_in c.args.lines.now.places c.loop-thief.thief (get_or c.out-row.result.now k d) t
    near in
    rw (p, long) r

pub fill_row-requires-clause-first : goal.fill_row-requires-clause-first
fill_row-requires-clause-first c =
    let p = c.places-places.ensures in
    let t : c.loop-thief.thief < c.args.lines.now.places = (let q = p.places in omega arith) in
    let z = next_small c.args.lines.now p.graph p.few c.loop-thief.thief c.loop-thief.next
    (length c.out-row.result.now) t c.loop-thief.invariant.small c.out-row.ensures.few in
    let y = row_small c.args.lines.now.places c.loop-thief.thief p.few t in
    (z.0, rw p.places (omega arith))

pub overflow_cast-next : goal.overflow_cast-next
overflow_cast-next c =
    let p = c.places-places.ensures in
    let t : c.loop-thief.thief < c.args.lines.now.places = (let q = p.places in omega arith) in
    let z = next_small c.args.lines.now p.graph p.few c.loop-thief.thief c.loop-thief.next
    (length c.out-row.result.now) t c.loop-thief.invariant.small c.out-row.ensures.few in
    let f : length c.out-row.result.now < 4294967296 = z.2 in search (rules, f)

pub overflow_add-next : goal.overflow_add-next
overflow_add-next c =
    let p = c.places-places.ensures in
    let t : c.loop-thief.thief < c.args.lines.now.places = (let q = p.places in omega arith) in
    let z = next_small c.args.lines.now p.graph p.few c.loop-thief.thief c.loop-thief.next
    (length c.out-row.result.now) t c.loop-thief.invariant.small c.out-row.ensures.few in
    let f : c.loop-thief.next + length c.out-row.result.now < 4294967296 = z.0 in search (rules, f)

pub loop-thief-preserved : goal.loop-thief-preserved
loop-thief-preserved c =
    let p = c.places-places.ensures in
    let t : c.loop-thief.thief < c.args.lines.now.places = (let q = p.places in omega arith) in
    let i = c.loop-thief.invariant in
    let z = next_small c.args.lines.now p.graph p.few c.loop-thief.thief c.loop-thief.next
    (length c.out-row.result.now) t i.small c.out-row.ensures.few in
    let row = c.out-row.ensures.targets in
    let s = sum_next c.loop-thief.thief (λ u. length (outs_of c.args.lines.now u)) in
    let long : length c.out-row.result.now ≡ length (outs_of c.args.lines.now c.loop-thief.thief) =
    ap length row in
    let next : c.loop-thief.next ≡ first_number c.args.lines.now c.loop-thief.thief = i.next in
    record {
      numbers = c.fill_row.ensures ∙ (λ j. fill (i.numbers j) (c.loop-thief.thief * p.places j)
          (i.next j) (row j)) ∙ one c.args.lines.now c.loop-thief.thief;
      next = omega arith;
      small = z.1;
    }
  where
    one : (l : Cube) (t : ℕ) → fill (filled l t) (t * l.places) (first_number l t) (outs_of l t) ≡
        filled l (t + 1)
    one l t = rw add-one refl
