use Rattle.std.proofs.Common.{◌∙◌, false, map, ap, sym, arith}
use Rattle.std.proofs.lemmas.List.{length-map}
use Rattle.std.proofs.lemmas.Result.{IfOk-weaker}
use Rattle.glb_run.specs.Roots.{at_first, roots_by}
use Rattle.glb_run.proofs.RootFacts.{lists_dealt, lists_few, few_roots}
use Rattle.glb_run.proofs.roots.first_roots.Goals as goal

pub returns-then-not-order-clause-few : goal.returns-then-not-order-clause-few
returns-then-not-order-clause-few g c =
    let children = g.P.Program.children c.args.program.now in
    IfOk-weaker c.roots_at_first.result _ _
    (λ lists are.
    lists_few (λ v. v.items) lists.items 100000 (at_first c.args.root) are
    (λ p. few_roots false c.args.order.now.params.places 100000 children c.args.root p
    c.requires.few (omega arith)))
    c.roots_at_first.ensures.lists

spread_lists : goal.returns-in-Ok-clause-lists
spread_lists g c = λ p.
    let places = c.args.order.now.params.places in
    let children = g.P.Program.children c.args.program.now in
    lists_dealt places (children c.args.root) (map (λ v. v.items) c.in-Ok.lists.items)
    (omega (arith, c.requires.places.0))
    (length-map c.in-Ok.lists.items (λ v. v.items) ∙ sym c.in-Ok.lists.ok.0
    ∙ c.in-Ok.ensures.many)
    c.in-Ok.ensures.dealt p
    ∙ ap (λ b. roots_by b places children c.args.root p) (sym c.if-not-order.false)

pub returns-in-Ok-clause-lists : goal.returns-in-Ok-clause-lists
returns-in-Ok-clause-lists g c = spread_lists g c

pub returns-in-Ok-clause-few : goal.returns-in-Ok-clause-few
returns-in-Ok-clause-few g c =
    let places = c.args.order.now.params.places in
    let children = g.P.Program.children c.args.program.now in
    lists_few (λ v. v.items) c.in-Ok.lists.items 100000
    (roots_by c.args.order.now.spread places children c.args.root) (spread_lists g c)
    (λ p. few_roots c.args.order.now.spread places 100000 children c.args.root p c.requires.few
    (omega arith))
