use Rattle.std.proofs.Common.{[], ap, ◌∙◌, sym, arith, rules, inr, subst}
use Rattle.glb_bound.specs.Best.{worth_of}
use Rattle.glb_bound.specs.inner.Places.{IsWalking, items_at}
use Rattle.glb_bound.proofs.ListFacts.{get_same}
use Rattle.glb_bound.proofs.PlaceWalks.{claimed_none, claimed_some, played_out, walking_tree}
use Rattle.glb_bound.proofs.place.Work.walk_all.Goals as goal

pub returns-then-number-frontier-clause-played : goal.returns-then-number-frontier-clause-played
returns-then-number-frontier-clause-played g c =
    let children = g.S.Program.children c.args.search.now in
    let worth = worth_of (g.S.Program.value c.args.search.now) in
    let cap = g.S.Search.cap_of c.args.search.now in
    let i = c.loop-limit.invariant in
    played_out children worth cap c.args.frontier.now c.args.limit c.args.self.now.best
    c.loop-limit.self.visited c.loop-limit.self.waiting.items c.loop-limit.self.best
    c.loop-limit.seat.me.0 c.claim-number.new.seat.me.0
    (ap (λ m. m.0) c.claim-number.ensures.moved
    ∙ claimed_none c.claim-number.result c.loop-limit.seat.me.0
    (omega (arith, i.frontier, c.if-number-frontier.true)))
    i.places i.visited i.within c.requires.limit.1 i.code i.empty i.walking

pub loop-limit-preserved : goal.loop-limit-preserved
loop-limit-preserved g c =
    let children = g.S.Program.children c.args.search.now in
    let worth = worth_of (g.S.Program.value c.args.search.now) in
    let cap = g.S.Search.cap_of c.args.search.now in
    let i = c.loop-limit.invariant in
    let e = c.in_ok-walk_tree.ensures in
    let on = e.on c.if-not-branch.false in
    record {
      table = search rules;
      slots = search rules;
      places = search rules;
      frontier = search rules;
      ended = search rules;
      code = search rules;
      empty = on.0;
      visited = search rules;
      within = on.1;
      walking = λ root all node same.
          subst (λ m. IsWalking children worth cap root
          (items_at c.args.frontier.now root c.walk_tree.new.seat.me.0.claimed) m []
          c.walk_tree.new.self.best c.walk_tree.new.seat.me.0) (sym e.visited.0)
          (subst (λ l. IsWalking children worth cap root
          (items_at c.args.frontier.now root c.walk_tree.new.seat.me.0.claimed)
          c.walk_tree.new.seat.me.0.counted l c.walk_tree.new.self.best
          c.walk_tree.new.seat.me.0) on.0
          (walking_tree children worth cap c.args.frontier.now c.args.self.now.best
          c.loop-limit.self.visited c.claim-number.result c.index-frontier-number.result
          c.loop-limit.self.waiting.items c.walk_tree.new.self.waiting.items c.loop-limit.self.best
          c.walk_tree.new.self.best c.loop-limit.seat.me.0 c.claim-number.new.seat.me.0
          c.walk_tree.new.seat.me.0
          (ap (λ m. m.0) c.claim-number.ensures.moved
          ∙ claimed_some c.claim-number.result c.loop-limit.seat.me.0
          (omega (arith, i.frontier, c.if-number-frontier.false)))
          c.walk_tree.ensures.same i.empty c.if-number-frontier.false
          (λ d. c.index-frontier-number.is ∙ get_same c.args.frontier.now c.claim-number.result
          c.index-frontier-number.result d c.if-number-frontier.false)
          i.visited c.in_ok-walk_tree.ensures.kept i.walking root all node same));
    }

pub returns-then-not-branch-clause-played : goal.returns-then-not-branch-clause-played
returns-then-not-branch-clause-played g c =
    let children = g.S.Program.children c.args.search.now in
    let worth = worth_of (g.S.Program.value c.args.search.now) in
    let cap = g.S.Search.cap_of c.args.search.now in
    let i = c.loop-limit.invariant in
    let e = c.in_ok-walk_tree.ensures in
    record {
      places_are = search rules;
      counted = e.visited.0;
      few = omega (arith, e.visited.1, c.requires.limit.1);
      code = search rules;
      ends = inr (e.off c.if-not-branch.true);
      walking = λ root all node same.
          subst (λ m. IsWalking children worth cap root
          (items_at c.args.frontier.now root c.walk_tree.new.seat.me.0.claimed) m
          c.walk_tree.new.self.waiting.items
          c.walk_tree.new.self.best c.walk_tree.new.seat.me.0) (sym e.visited.0)
          (walking_tree children worth cap c.args.frontier.now c.args.self.now.best
          c.loop-limit.self.visited c.claim-number.result c.index-frontier-number.result
          c.loop-limit.self.waiting.items c.walk_tree.new.self.waiting.items c.loop-limit.self.best
          c.walk_tree.new.self.best c.loop-limit.seat.me.0 c.claim-number.new.seat.me.0
          c.walk_tree.new.seat.me.0
          (ap (λ m. m.0) c.claim-number.ensures.moved
          ∙ claimed_some c.claim-number.result c.loop-limit.seat.me.0
          (omega (arith, i.frontier, c.if-number-frontier.false)))
          c.walk_tree.ensures.same i.empty c.if-number-frontier.false
          (λ d. c.index-frontier-number.is ∙ get_same c.args.frontier.now c.claim-number.result
          c.index-frontier-number.result d c.if-number-frontier.false)
          i.visited c.in_ok-walk_tree.ensures.kept i.walking root all node same);
    }
