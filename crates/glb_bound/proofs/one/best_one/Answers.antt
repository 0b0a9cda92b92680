use Rattle.std.proofs.Common.{arith, subst, ◌∷◌, []}
use Rattle.std.proofs.lemmas.List.{nil_from_length}
use Rattle.glb_bound.specs.Best.{worth_of}
use Rattle.glb_bound.specs.inner.Walks.{Visits, IsWalked}
use Rattle.glb_bound.proofs.Walking.{walk_begins, walk_on, last_is_node, best_stays, first_best}
use Rattle.glb_bound.proofs.Walking.{walk_ends, walk_exceeds}
use Rattle.glb_bound.proofs.one.best_one.Goals as goal

pub loop-item-init : goal.loop-item-init
loop-item-init g c =
    let children = g.S.Program.children c.args.search.now in
    let worth = worth_of (g.S.Program.value c.args.search.now) in
    let cap = g.S.Search.cap_of c.args.search.now in
    let below = g.met.S.Search.caps_children c.args.search.now in
    let v : Visits children worth cap c.args.root [] c.visit.new.waiting.items 0
    c.visit.new.best.worth =
    subst (λ l. Visits children worth cap c.args.root l c.visit.new.waiting.items 0
    c.visit.new.best.worth) c.new-waiting.ensures.items c.in-Ok.ensures.visited in
    let first = first_best children worth cap _ _ _ _ v c.in-Ok.ensures.item in
    record {
      within = c.requires.limited.0;
      walked = walk_on children worth cap below _ 0 [] _ _ 0 _
          (walk_begins children worth cap c.args.root 0) v;
      node = first.0;
      worth = first.1;
    }

pub returns-then-visited-limit-clause-fault : goal.returns-then-visited-limit-clause-fault
returns-then-visited-limit-clause-fault g c =
    let children = g.S.Program.children c.args.search.now in
    let worth = worth_of (g.S.Program.value c.args.search.now) in
    let cap = g.S.Search.cap_of c.args.search.now in
    let below = g.met.S.Search.caps_children c.args.search.now in
    let i = c.loop-item.invariant in
    let walked = subst (λ l. IsWalked children worth cap (c.args.root ∷ []) c.loop-item.visited l
    c.loop-item.best.worth) c.in-Some.ensures.items i.walked in
    walk_exceeds children worth cap _ _ _ _ _
    (walk_on children worth cap below _ _ _ _ _ _ _ walked c.in-Ok-visit.ensures.visited)
    c.if-visited-limit.true

pub loop-item-preserved : goal.loop-item-preserved
loop-item-preserved g c =
    let children = g.S.Program.children c.args.search.now in
    let worth = worth_of (g.S.Program.value c.args.search.now) in
    let cap = g.S.Search.cap_of c.args.search.now in
    let below = g.met.S.Search.caps_children c.args.search.now in
    let i = c.loop-item.invariant in
    let walked = subst (λ l. IsWalked children worth cap (c.args.root ∷ []) c.loop-item.visited l
    c.loop-item.best.worth) c.in-Some.ensures.items i.walked in
    let best = best_stays children worth cap _ _ _ _ _ _
    (last_is_node children worth cap _ _ _ _ _ walked) i.node i.worth
    c.in-Ok-visit.ensures.item in
    record {
      within = c.if-visited-limit.false;
      walked = walk_on children worth cap below _ _ _ _ _ _ _ walked
          c.in-Ok-visit.ensures.visited;
      node = best.0;
      worth = best.1;
    }

pub returns-clause-worth : goal.returns-clause-worth
returns-clause-worth g c =
    let children = g.S.Program.children c.args.search.now in
    let worth = worth_of (g.S.Program.value c.args.search.now) in
    let cap = g.S.Search.cap_of c.args.search.now in
    let laws = g.met.S.Search in
    let i = c.loop-item.invariant in
    let none = nil_from_length c.loop-item.waiting.items
    (omega (arith, c.loop-item.waiting.ok.0, c.in_default.ensures.cases.0)) in
    let walked = subst (λ l. IsWalked children worth cap (c.args.root ∷ []) c.loop-item.visited l
    c.loop-item.best.worth) none i.walked in
    walk_ends children worth cap (laws.caps_value c.args.search.now)
    (laws.caps_children c.args.search.now) _ _ _ _ walked i.node i.worth
