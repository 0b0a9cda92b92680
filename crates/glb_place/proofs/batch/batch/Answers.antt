use Rattle.std.proofs.Common.{◌<◌, ◌≤◌, ◌∙◌, inl, inr, refl, subst}
use Rattle.glb_rules.specs.declared.params.Params.{Params}
use Rattle.glb_place.proofs.batch.batch.Goals as goal

pub returns-else-total-held-clause-acts : goal.returns-else-total-held-clause-acts
returns-else-total-held-clause-acts g c =
    let s = rw c.in-Some-false.is-0 at c.settle-settled.ensures.settled in
    let same = c.settle-settled.ensures.limit ∙ c.requires.agrees.params_are in
    inl (record {
      done = s.0;
      items = g.B.Bag.items c.settle-settled.new.held.bag;
      gain = s.1;
      total = c.in-Some-false.total;
      settled = g.F.Fabric.kept c.settle-settled.new.held.fabric;
      some = s.3;
      most = s.4;
      settles = s.2;
      not_partial = s.5 c.in-Some-false.is-1;
      ends = inl (
        subst (λ (q : Params). c.in-Some-false.total ≤ q.limit)
            same c.if-total-held.false,
        refl,
      );
    })

pub returns-then-total-held-clause-acts : goal.returns-then-total-held-clause-acts
returns-then-total-held-clause-acts g c =
    let s = rw c.in-Some-false.is-0 at c.settle-settled.ensures.settled in
    let same = c.settle-settled.ensures.limit ∙ c.requires.agrees.params_are in
    inl (record {
      done = s.0;
      items = g.B.Bag.items c.settle-settled.new.held.bag;
      gain = s.1;
      total = c.in-Some-false.total;
      settled = g.F.Fabric.kept c.settle-settled.new.held.fabric;
      some = s.3;
      most = s.4;
      settles = s.2;
      not_partial = s.5 c.in-Some-false.is-1;
      ends = inr (
        subst (λ (q : Params). q.limit < c.in-Some-false.total) same c.if-total-held.true,
        c.halt-then-total-held.ensures.halted,
      );
    })

pub returns-in-Some-true-clause-acts : goal.returns-in-Some-true-clause-acts
returns-in-Some-true-clause-acts g c =
    let s = rw c.in-Some-true.is-0 at c.settle-settled.ensures.settled in
    inr (inr (
      s.0,
      g.B.Bag.items c.settle-settled.new.held.bag,
      s.1,
      c.in-Some-true.field-0-0,
      g.F.Fabric.kept c.settle-settled.new.held.fabric,
      s.3,
      s.4,
      s.2,
      c.halt.ensures.halted,
    ))
