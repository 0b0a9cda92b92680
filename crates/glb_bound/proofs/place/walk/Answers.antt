use Rattle.std.proofs.Common.{◌+◌, refl, sym, subst, ◌∙◌, arith, rules}
use Rattle.std.proofs.lemmas.List.{nil_from_length}
use Rattle.glb_bound.specs.Best.{worth_of}
use Rattle.glb_bound.specs.inner.Places.{IsWalking}
use Rattle.glb_bound.proofs.PlaceWalks.{walking_on, walking_same, walking_settled}
use Rattle.glb_bound.proofs.place.walk.Goals as goal

pub returns-then-not-settle-clause-kept : goal.returns-then-not-settle-clause-kept
returns-then-not-settle-clause-kept g c root roots old =
    let children = g.S.Program.children c.args.search.now in
    let worth = worth_of (g.S.Program.value c.args.search.now) in
    let cap = g.S.Search.cap_of c.args.search.now in
    let i = c.loop-item.invariant in
    let e = c.visit_shared.ensures in
    let s = c.in_ok-visit_shared.ensures in
    walking_settled children worth cap root roots c.loop-item.visited (c.loop-item.more + 1)
    c.visit_shared.new.waiting.items c.visit_shared.new.best c.loop-item.seat.me.0
    c.visit_shared.new.seat.me.0 c.settle.new.seat.me.0 i.visited e.view c.settle.ensures.settled
    (walking_on children worth cap (g.met.S.Search.caps_children c.args.search.now) root roots
    (c.loop-item.visited + c.loop-item.more) (c.loop-item.visited + (c.loop-item.more + 1))
    c.loop-item.waiting.items c.pop.new.self.items
    c.visit_shared.new.waiting.items c.in-Some.item c.loop-item.best c.visit_shared.new.best
    c.loop-item.seat.me.0 c.visit_shared.new.seat.me.0 (omega arith) c.in-Some.ensures.items
    (i.kept root roots old) s.passes s.item s.raised s.least)

pub loop-item-preserved-then-more-eq-CHUNK : goal.loop-item-preserved-then-more-eq-CHUNK
loop-item-preserved-then-more-eq-CHUNK g c =
    let children = g.S.Program.children c.args.search.now in
    let worth = worth_of (g.S.Program.value c.args.search.now) in
    let cap = g.S.Search.cap_of c.args.search.now in
    let i = c.loop-item.invariant in
    let e = c.visit_shared.ensures in
    let s = c.in_ok-visit_shared.ensures in
    record {
      table = search rules;
      slots = search rules;
      same = search rules;
      visited = search rules;
      within = search rules;
      few = search rules;
      kept = λ root roots old.
          walking_same children worth cap root roots c.settle.new.seat.me.0.counted
          (c.settle.new.visited + 0) c.visit_shared.new.waiting.items c.visit_shared.new.best
          c.settle.new.seat.me.0 c.settle.new.seat.me.0
          (omega (arith, c.settle.ensures.visited)) refl refl
          (walking_settled children worth cap root roots c.loop-item.visited (c.loop-item.more + 1)
          c.visit_shared.new.waiting.items c.visit_shared.new.best c.loop-item.seat.me.0
          c.visit_shared.new.seat.me.0 c.settle.new.seat.me.0 i.visited e.view
          c.settle.ensures.settled
          (walking_on children worth cap (g.met.S.Search.caps_children c.args.search.now) root roots
          (c.loop-item.visited + c.loop-item.more) (c.loop-item.visited + (c.loop-item.more + 1))
          c.loop-item.waiting.items c.pop.new.self.items
          c.visit_shared.new.waiting.items c.in-Some.item c.loop-item.best c.visit_shared.new.best
          c.loop-item.seat.me.0 c.visit_shared.new.seat.me.0 (omega arith) c.in-Some.ensures.items
          (i.kept root roots old) s.passes s.item s.raised s.least));
    }

pub loop-item-preserved : goal.loop-item-preserved
loop-item-preserved g c =
    let children = g.S.Program.children c.args.search.now in
    let worth = worth_of (g.S.Program.value c.args.search.now) in
    let cap = g.S.Search.cap_of c.args.search.now in
    let i = c.loop-item.invariant in
    let s = c.in_ok-visit_shared.ensures in
    record {
      table = search rules;
      slots = search rules;
      same = search rules;
      visited = search rules;
      within = search rules;
      few = search rules;
      kept = λ root roots old.
          walking_on children worth cap (g.met.S.Search.caps_children c.args.search.now) root roots
          (c.loop-item.visited + c.loop-item.more) (c.loop-item.visited + (c.loop-item.more + 1))
          c.loop-item.waiting.items c.pop.new.self.items
          c.visit_shared.new.waiting.items c.in-Some.item c.loop-item.best c.visit_shared.new.best
          c.loop-item.seat.me.0 c.visit_shared.new.seat.me.0 (omega arith) c.in-Some.ensures.items
          (i.kept root roots old) s.passes s.item s.raised s.least;
    }

pub returns-clause-kept : goal.returns-clause-kept
returns-clause-kept g c root roots old =
    let children = g.S.Program.children c.args.search.now in
    let worth = worth_of (g.S.Program.value c.args.search.now) in
    let cap = g.S.Search.cap_of c.args.search.now in
    let i = c.loop-item.invariant in
    let before = nil_from_length c.loop-item.waiting.items
    (omega (arith, c.loop-item.waiting.ok.0, c.in_default.ensures.cases.0)) in
    let after = nil_from_length c.pop.new.self.items
    (omega (arith, c.pop.new.self.ok.0, c.in_default.ensures.cases.1)) in
    walking_settled children worth cap root roots c.loop-item.visited c.loop-item.more
    c.pop.new.self.items c.loop-item.best c.loop-item.seat.me.0
    c.loop-item.seat.me.0 c.settle-2.new.seat.me.0 i.visited refl c.settle-2.ensures.settled
    (subst (λ l. IsWalking children worth cap root roots (c.loop-item.visited + c.loop-item.more) l
    c.loop-item.best c.loop-item.seat.me.0) (before ∙ sym after) (i.kept root roots old))
