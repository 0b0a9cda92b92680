use Rattle.std.proofs.Common.{◌≡◌, ◌-◌, ◌<◌, ◌++◌, ◌∙◌, ◌∷◌, [], ap, sym, arith, take, length, length-append, get_or, vec_len}
use Rattle.glb_bags.specs.inner.Entries.{all_children}
use Rattle.glb_bags.proofs.RangesOfChildren.{last_of}
use Rattle.glb_bags.proofs.OpenedItems.{IsTakenHeld, some_held, taken_held}
use Rattle.glb_bags.proofs.range_bag.expand_last.Goals as goal
use Rattle.glb_bags.proofs.range_bag.expand_last.Goals.{After-combine}

pub last_made-item-requires : goal.last_made-item-requires
last_made-item-requires g c =
    let entries = c.make_last.new.entries.items in
    let some : 0 < length entries = omega (arith, c.make_last.ensures.count, c.requires.some) in
    omega (
      arith,
      c.make_last.new.made.ok.0,
      some_held (g.P.Program.children c.args.program.now) entries c.make_last.new.made.items some
          c.make_last.ensures.held c.in_ok-make_last.ensures.ready,
    )

-- the last item is taken, and its children are put in
taken_here : (g : _) (c : After-combine g)
    → IsTakenHeld (g.P.Program.children c.args.program.now) c.make_last.new.entries.items
    c.push_some.new.entries.items c.pop-made.new.self.items c.last_made-item.result.item
taken_here g c =
    let entries = c.make_last.new.entries.items in
    let made = c.make_last.new.made.items in
    let m = c.last_made-item.result in
    let front = take (length entries - 1) entries in
    let some : 0 < length entries = omega (arith, c.make_last.ensures.count, c.requires.some) in
    let last = last_of entries some in
    let end : vec_len c.make_last.new.made - 1 ≡ length made - 1 =
    omega (arith, c.make_last.new.made.ok.0) in
    taken_held (g.P.Program.children c.args.program.now) entries front
    c.push_some.new.entries.items made c.pop-made.new.self.items last.element m
    c.fan-fan.result c.make_last.ensures.held last.split
    (c.in_ok-make_last.ensures.ready last.element last.read)
    (some_held (g.P.Program.children c.args.program.now) entries made some
    c.make_last.ensures.held c.in_ok-make_last.ensures.ready)
    (c.last_made-item.ensures ∙ ap (λ i. get_or made i m) end)
    (c.pop-made.ensures.rest ∙ ap (λ i. take i made) end)
    c.fan-fan.ensures
    (c.push_some.ensures.items
    ∙ ap (λ l. c.take_last.new.entries.items ++ l) c.all_children.ensures
    ∙ ap (λ l. l ++ all_children m.item c.fan-fan.result m.opened)
    (c.take_last.ensures.taken front last.element (c.reserve.ensures.items ∙ last.split)))

pub returns-clause-held : goal.returns-clause-held
returns-clause-held g c =
    let t = taken_here g c in record { kept = t.taken.kept; all_open = t.all_open }

pub returns-clause-expanded : goal.returns-clause-expanded
returns-clause-expanded g c =
    let t = (taken_here g c).taken in
    record {
      item = c.last_made-item.result.item;
      rest = t.rest;
      before_is = sym c.make_last.ensures.same ∙ t.before_is;
      after_is = t.after_is;
      gain_is = c.combine.ensures
          ∙ ap (g.P.Value.Monoid.combine c.args.acc.now) c.in_ok-value.ensures;
    }

pub returns-clause-count : goal.returns-clause-count
returns-clause-count g c =
    let children = g.P.Program.children c.args.program.now in
    let item = c.last_made-item.result.item in
    let t = (taken_here g c).taken in
    omega (
      arith,
      ap (λ l. length l) (sym c.make_last.ensures.same),
      ap (λ l. length l) t.before_is,
      length-append t.rest (item ∷ []),
      ap (λ l. length l) t.after_is,
      length-append t.rest (children item),
      c.fan-fan.ensures,
      c.requires.count,
      c.saturating_sub.ensures,
      c.in-Some.ensures.1,
    )
