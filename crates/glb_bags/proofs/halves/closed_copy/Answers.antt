use Rattle.std.proofs.Common.{◌≡◌, ℕ, ◌-◌, ◌≤◌, ◌∙◌, [], ap, sym, arith, length, take, map, false, true, vec_len}
use Rattle.std.specs.Prelude.{vec_capacity}
use Rattle.std.proofs.lemmas.List.{length-map}
use Rattle.glb_bags.specs.Ranges.{all_closed, closed_item}
use Rattle.glb_bags.proofs.OpenedItems.{all_closed-more, copy_step, enough_before, open_at}
use Rattle.glb_bags.proofs.halves.closed_copy.Goals as goal
use Rattle.glb_bags.proofs.halves.closed_copy.Goals.{then-opened, else-opened}

pub overflow_sub-len : goal.overflow_sub-len
overflow_sub-len g c =
    let children = g.P.Program.children c.args.program.now in
    let made = c.args.made.now in
    let i : ℕ = c.loop-each.each-index in
    let before = all_closed children [] (take i made) in
    let m = c.each-item.result in
    omega (
      arith,
      enough_before children before m
          (open_at children made i m c.requires c.loop-each-test.true c.each-item.is)
          c.if-opened.true,
      c.fan.ensures,
      c.len.ensures,
      ap length c.loop-each.invariant.copy,
      length-map before closed_item,
      c.loop-each.copy.ok.0,
    )

pub loop-each-preserved : goal.loop-each-preserved
loop-each-preserved g c =
    let children = g.P.Program.children c.args.program.now in
    let made = c.args.made.now in
    let i : ℕ = c.loop-each.each-index in
    let before = all_closed children [] (take i made) in
    let m = c.each-item.result in
    let old = c.loop-each.copy.items in
    let cut = c.if-opened.copy.items in
    let facts : (m.opened ≡ true → cut ≡ take (length before - length (children m.item)) old)
    × (m.opened ≡ false → cut ≡ old)
    × (vec_len c.if-opened.copy ≤ i)
    × (length made ≤ vec_capacity c.if-opened.copy) = elim c.if-opened.branch [
      | then-opened w ↦
          let size : length before ≡ w.len.result =
          omega (
            arith,
            w.len.ensures,
            ap length c.loop-each.invariant.copy,
            length-map before closed_item,
            c.loop-each.copy.ok.0,
          ) in (
            (λ e. ap (λ v. v.items) w.copy-is ∙ w.truncate.ensures.items
                ∙ ap (λ k. take k old) (omega (arith, size, w.fan.ensures))),
            (λ e. cc),
            omega (arith, ap vec_len w.copy-is, w.truncate.ensures.len, c.loop-each.invariant.len),
            omega (
              arith,
              ap vec_capacity w.copy-is,
              w.truncate.ensures.capacity,
              c.loop-each.invariant.capacity,
            ),
          )
      | else-opened w ↦ (
        (λ e. cc),
        (λ e. ap (λ v. v.items) w.copy-is),
        omega (arith, ap vec_len w.copy-is, c.loop-each.invariant.len),
        omega (arith, ap vec_capacity w.copy-is, c.loop-each.invariant.capacity),
      )
    ] in
    record {
      copy = copy_step children before m old cut c.push_reserved.new.self.items
          c.loop-each.invariant.copy facts.0 facts.1 c.push_reserved.ensures.items
          ∙ ap (map closed_item)
          (sym (all_closed-more children made i m c.loop-each-test.true c.each-item.is));
      len = omega (arith, facts.2, c.push_reserved.ensures.len);
      capacity = omega (arith, facts.3, c.push_reserved.ensures.capacity);
    }
