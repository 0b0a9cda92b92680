use Rattle.std.proofs.Common.{◌≡◌, ◌+◌, ◌-◌, ◌++◌, ◌∷◌, [], ◌∙◌, ap, map, refl, sym, subst, arith, length, take, drop, length-take, slice_get}
use Rattle.std.proofs.lemmas.Option.{slice_get_within}
use Rattle.std.specs.Prelude.{Some}
use Rattle.glb_bags.specs.Ranges.{AllOpen, closed_item}
use Rattle.glb_bags.specs.inner.Entries.{opened_item}
use Rattle.glb_bags.proofs.GroupsOfChildren.{group_within, numbers_of_all}
use Rattle.glb_bags.proofs.OpenedItems.{Opens, opens, read_split}
use Rattle.glb_bags.proofs.ahead.make_and_open.Goals as goal
use Rattle.glb_bags.proofs.ahead.make_and_open.Goals.{After-make_asked, After-open_item}

pub make_asked-requires-clause-room : goal.make_asked-requires-clause-room
make_asked-requires-clause-room g c =
    omega (
      arith,
      c.deref.ensures.len,
      c.ask_all.ensures.len,
      c.in-Some.ensures.most,
      c.saturating_sub-most.ensures,
      c.len-count.ensures,
      c.requires.fresh_room,
    )

pub make_asked-requires-clause-numbers : goal.make_asked-requires-clause-numbers
make_asked-requires-clause-numbers g c =
    numbers_of_all (g.P.Program.children c.args.program.now) c.args.asked.now.items
    c.deref.result.now c.in-Some.found.item c.in-Some.found.fan
    (c.deref.ensures.value ∙ c.ask_all.ensures.asked) c.in-Some.ensures.fan c.requires.numbers

pub open_item-requires-clause-place : goal.open_item-requires-clause-place
open_item-requires-clause-place g c =
    omega (
      arith,
      slice_get_within c.args.made.now.items c.in-Some.found.place
          (closed_item c.in-Some.found.item)
          c.in-Some.ensures.closed,
      c.args.made.now.ok.0,
    )

pub open_item-requires-clause-room : goal.open_item-requires-clause-room
open_item-requires-clause-room g c =
    let fresh = c.make_asked.new.fresh in
    let count = c.len-count.result in
    omega (
      arith,
      length-take (c.len.result - count) (drop count fresh),
      c.len.ensures,
      c.ask_all.ensures.len,
      c.in-Some.ensures.most,
      c.saturating_sub-most.ensures,
      c.len-count.ensures,
      c.requires.made_room,
    )

-- what is made of the two that asked
made_here : (g : _) (c : After-open_item g)
    → (map Some (take c.len-count.result c.make_asked.new.fresh)
    ≡ map (λ a. slice_get (g.P.Program.children c.args.program.now a.0) a.1)
    c.args.asked.now.items)
    × (take (length c.deref.result.now - c.len-count.result)
    (drop c.len-count.result c.make_asked.new.fresh)
    ≡ g.P.Program.children c.args.program.now c.in-Some.found.item)
made_here g c =
    group_within (g.P.Program.children c.args.program.now) c.args.asked.now.items
    c.deref.result.now c.make_asked.new.fresh c.in-Some.found.item c.in-Some.found.fan
    c.len-count.result (length c.deref.result.now)
    (c.deref.ensures.value ∙ c.ask_all.ensures.asked) c.make_asked.ensures
    c.in-Some.ensures.fan (omega (arith, c.len-count.ensures, c.args.asked.now.ok.0)) refl

-- an item is opened
opens_here : (g : _) (c : After-open_item g)
    → Opens (g.P.Program.children c.args.program.now) c.args.made.now.items
    c.open_item.new.made.items
opens_here g c =
    let children = g.P.Program.children c.args.program.now in
    let made = c.args.made.now.items in
    let place = c.in-Some.found.place in
    let item = c.in-Some.found.item in
    let rest = drop c.len-count.result c.make_asked.new.fresh in
    let front = take place made in
    let back = drop (place + 1) made in
    let parts : made ≡ front ++ closed_item item ∷ back =
    read_split made place (closed_item item) c.in-Some.ensures.closed in
    let long : c.len.result ≡ length c.deref.result.now =
    omega (arith, c.len.ensures, c.deref.ensures.len) in
    let all : take (c.len.result - c.len-count.result) rest ≡ children item =
    ap (λ n. take (n - c.len-count.result) rest) long ∙ (made_here g c).1 in
    let after : (front ++ map closed_item (children item)) ++ opened_item item ∷ back
    ≡ c.open_item.new.made.items =
    ap (λ l. (front ++ map closed_item l) ++ opened_item item ∷ back) (sym all)
    ∙ sym c.open_item.ensures.items in
    subst (λ l. Opens children l c.open_item.new.made.items) (sym parts)
    (subst (Opens children (front ++ closed_item item ∷ back)) after
    (opens children front back item (subst (AllOpen children []) parts c.requires.all_open)))

pub returns-in-Some-clause-all_open : goal.returns-in-Some-clause-all_open
returns-in-Some-clause-all_open g c = (opens_here g c).all_open

pub returns-in-Some-clause-same : goal.returns-in-Some-clause-same
returns-in-Some-clause-same g c = (opens_here g c).same

pub returns-in-Some-clause-fresh : goal.returns-in-Some-clause-fresh
returns-in-Some-clause-fresh g c =
    subst
    (λ n. map Some (take n c.make_asked.new.fresh)
    ≡ map (λ a. slice_get (g.P.Program.children c.args.program.now a.0) a.1)
    c.args.asked.now.items)
    c.len-count.ensures (made_here g c).0

pub returns-in-Some-clause-room : goal.returns-in-Some-clause-room
returns-in-Some-clause-room g c =
    let fresh = c.make_asked.new.fresh in
    let count = c.len-count.result in
    omega (
      arith,
      c.open_item.ensures.len,
      c.open_item.ensures.capacity,
      length-take (c.len.result - count) (drop count fresh),
      c.len.ensures,
      c.ask_all.ensures.len,
      c.in-Some.ensures.most,
      c.saturating_sub-most.ensures,
      c.len-count.ensures,
      c.requires.made_room,
    )
