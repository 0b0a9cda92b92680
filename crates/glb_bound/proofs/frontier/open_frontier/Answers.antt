use Rattle.std.proofs.Common.{◌≡◌, ◌≤◌, ◌<◌, ◌⊎◌, ◌∷◌, ◌++◌, inl, inr, ap, sym, ◌∙◌, arith}
use Rattle.glb_bound.specs.Best.{worth_of}
use Rattle.glb_bound.proofs.ListFacts.{first_removed}
use Rattle.glb_bound.proofs.Opening.{opened_first, opened_on}
use Rattle.glb_bound.proofs.Walking.{walk_exceeds}
use Rattle.glb_bound.proofs.frontier.open_frontier.Goals.{then-worth-best, else-worth-best}
use Rattle.glb_bound.proofs.frontier.open_frontier.Goals as goal

pub loop-items-init : goal.loop-items-init
loop-items-init g c = record {
  within = c.requires.limited.0;
  opened = opened_first (g.S.Program.children c.args.search.now)
      (worth_of (g.S.Program.value c.args.search.now)) (g.S.Search.cap_of c.args.search.now)
      (g.met.S.Search.caps_children c.args.search.now) c.args.root c.expand.new.out.items
      c.in-Ok.worth.0
      (c.in-Ok.ensures.appended
      ∙ ap (λ l. l ++ g.S.Program.children c.args.search.now c.args.root)
      c.new-items.ensures.items)
      (ap (λ v. v.0) c.in-Ok.ensures.value);
}

pub returns-then-visited-limit-clause-fault : goal.returns-then-visited-limit-clause-fault
returns-then-visited-limit-clause-fault g c =
    let children = g.S.Program.children c.args.search.now in
    let worth = worth_of (g.S.Program.value c.args.search.now) in
    let cap = g.S.Search.cap_of c.args.search.now in
    let i = c.loop-items.invariant in
    let old = c.loop-items.best in
    let new = c.if-worth-best.best in
    let n = c.in-Ok-expand.worth.0 in
    let item = c.remove-item.result in
    let t : ((n ≤ old.worth) × (new ≡ old))
    ⊎ ((old.worth < n) × (new ≡ record { worth = n; item = item })) =
    elim c.if-worth-best.branch [
      | then-worth-best w ↦ inr (w.if-worth-best.true, w.best-is)
      | else-worth-best w ↦ inl (w.if-worth-best.false, w.best-is)
    ] in
    let o = opened_on children worth cap (g.met.S.Search.caps_children c.args.search.now)
    c.args.root c.loop-items.visited c.loop-items.items.items c.remove-item.new.self.items
    c.expand-in-loop-items.new.out.items item n old new
    (first_removed c.loop-items.items.items item
    (omega (arith, c.loop-items-test.true, c.len.ensures, c.loop-items.items.ok.0))
    c.remove-item.ensures.value
    ∙ ap (λ l. item ∷ l) (sym c.remove-item.ensures.items))
    c.in-Ok-expand.ensures.appended (ap (λ v. v.0) c.in-Ok-expand.ensures.value) t i.opened in
    walk_exceeds children worth cap _ _ _ _ _ o.walked c.if-visited-limit.true

pub loop-items-preserved : goal.loop-items-preserved
loop-items-preserved g c =
    let children = g.S.Program.children c.args.search.now in
    let worth = worth_of (g.S.Program.value c.args.search.now) in
    let cap = g.S.Search.cap_of c.args.search.now in
    let i = c.loop-items.invariant in
    let old = c.loop-items.best in
    let new = c.if-worth-best.best in
    let n = c.in-Ok-expand.worth.0 in
    let item = c.remove-item.result in
    let t : ((n ≤ old.worth) × (new ≡ old))
    ⊎ ((old.worth < n) × (new ≡ record { worth = n; item = item })) =
    elim c.if-worth-best.branch [
      | then-worth-best w ↦ inr (w.if-worth-best.true, w.best-is)
      | else-worth-best w ↦ inl (w.if-worth-best.false, w.best-is)
    ] in
    let o = opened_on children worth cap (g.met.S.Search.caps_children c.args.search.now)
    c.args.root c.loop-items.visited c.loop-items.items.items c.remove-item.new.self.items
    c.expand-in-loop-items.new.out.items item n old new
    (first_removed c.loop-items.items.items item
    (omega (arith, c.loop-items-test.true, c.len.ensures, c.loop-items.items.ok.0))
    c.remove-item.ensures.value
    ∙ ap (λ l. item ∷ l) (sym c.remove-item.ensures.items))
    c.in-Ok-expand.ensures.appended (ap (λ v. v.0) c.in-Ok-expand.ensures.value) t i.opened in
    record { within = c.if-visited-limit.false; opened = o }
