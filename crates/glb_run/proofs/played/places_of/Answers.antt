use Rattle.std.proofs.Common.{◌≡◌, ◌<◌, ◌++◌, ◌∙◌, ap, arith, length, length-append, map}
use Rattle.std.proofs.lemmas.List.{length-map}
use Rattle.glb_run.proofs.PlayedFacts.{at_end, first_next, none_without, whole_front}
use Rattle.glb_run.proofs.played.places_of.Goals as goal

pub unreachable-requires : goal.unreachable-requires
unreachable-requires g c =
    let i = c.loop-bag.invariant in
    let some : 0 < length c.loop-bag.bag-iterator.rest.items =
    omega (arith, ap length c.in-Some.ensures.steps.0)
    in
    let none : length c.loop-bag.left.rest.items ≡ 0 =
    omega (arith, c.loop-bag.left.rest.ok.0, c.in_default.ensures.cases.0)
    in
    none_without c.args.bags.items c.loop-bag.yielded c.loop-bag.bag-iterator.rest.items
    c.args.fabrics.items (map (λ p. p.fabric) c.loop-bag.places.items) c.loop-bag.left.rest.items
    c.args.params.now.places i.bags i.fabrics
    (length-map c.loop-bag.places.items (λ p. p.fabric) ∙ i.number)
    (omega (arith, c.args.bags.ok.0, c.requires.bags))
    (omega (arith, c.args.fabrics.ok.0, c.requires.fabrics))
    none some

pub new-requires-clause-first : goal.new-requires-clause-first
new-requires-clause-first g c =
    let i = c.loop-bag.invariant in
    first_next g.B.Bag.items g.F.Fabric.kept c.args.lines.now c.args.params.now c.args.bags.items
    c.loop-bag.yielded c.next.new.self.rest.items c.in-Some.bag c.args.fabrics.items
    (map (λ p. p.fabric) c.loop-bag.places.items) c.next-in-loop-bag.new.self.rest.items
    c.in-Some-next.fabric c.len-number.result c.requires.first
    (i.bags ∙ ap (λ l. c.loop-bag.yielded ++ l) c.in-Some.ensures.steps.0)
    (i.fabrics
    ∙ ap (λ l. map (λ p. p.fabric) c.loop-bag.places.items ++ l) c.in-Some-next.ensures.items)
    (omega (arith, i.number, c.loop-bag.places.ok.0, c.len-number.ensures))
    (length-map c.loop-bag.places.items (λ p. p.fabric)
    ∙ omega (arith, c.loop-bag.places.ok.0, c.len-number.ensures))

pub new-requires-clause-program : goal.new-requires-clause-program
new-requires-clause-program g c =
    let i = c.loop-bag.invariant in
    at_end (λ f. c.args.program.now ≡ g.F.Fabric.program f) c.args.fabrics.items
    (map (λ p. p.fabric) c.loop-bag.places.items) c.next-in-loop-bag.new.self.rest.items
    c.in-Some-next.fabric
    (i.fabrics
    ∙ ap (λ l. map (λ p. p.fabric) c.loop-bag.places.items ++ l) c.in-Some-next.ensures.items)
    c.requires.programs

pub returns : goal.returns
returns g c =
    let i = c.loop-bag.invariant in
    let none : length c.loop-bag.bag-iterator.rest.items ≡ 0 =
    omega (arith, c.loop-bag.bag-iterator.rest.ok.0, c.in-None.ensures.steps.0)
    in
    whole_front c.args.fabrics.items (map (λ p. p.fabric) c.loop-bag.places.items)
    c.loop-bag.left.rest.items i.fabrics
    (omega (
      arith,
      length-map c.loop-bag.places.items (λ p. p.fabric),
      i.number,
      ap length i.bags,
      length-append c.loop-bag.yielded c.loop-bag.bag-iterator.rest.items,
      c.args.bags.ok.0,
      c.args.fabrics.ok.0,
      c.requires.bags,
      c.requires.fabrics,
    ))
