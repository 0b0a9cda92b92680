use Rattle.std.proofs.Common.{◌≡◌, ◌+◌, ◌-◌, [], ap, refl, sym, subst, ◌∙◌, arith, rules}
use Rattle.std.specs.Prelude.{All}
use Rattle.std.proofs.lemmas.List.Elements.{All-push}
use Rattle.glb_bound.specs.inner.Views.{fresh}
use Rattle.glb_bound.specs.inner.Places.{IsReady}
use Rattle.glb_bound.proofs.many.deal_places.Goals as goal

pub deal-requires-clause-some : goal.deal-requires-clause-some
deal-requires-clause-some g c =
    let more : c.args.places - c.loop.counter ≡ c.args.places - (c.loop.counter + 1) + 1 =
    omega (arith, c.loop-test.true) in (
      c.args.places - (c.loop.counter + 1),
      c.args.words.now.key.frontier,
      c.loop.invariant.dealt ∙ ap (λ n. (fresh n c.args.words.now.key.frontier, [])) more,
    )

pub loop-preserved : goal.loop-preserved
loop-preserved g c =
    let more : c.args.places - c.loop.counter ≡ c.args.places - (c.loop.counter + 1) + 1 =
    omega (arith, c.loop-test.true) in
    let dealt = c.deal.ensures.dealt (c.args.places - (c.loop.counter + 1))
    c.args.words.now.key.frontier
    (c.loop.invariant.dealt ∙ ap (λ n. (fresh n c.args.words.now.key.frontier, [])) more) in
    record {
      table = search rules;
      dealt = dealt.0;
      number = search rules;
      ready = subst (All (IsReady c.args.words.now.table_id c.args.words.now.key.frontier
          c.args.best)) (sym c.in_ok-push.ensures.items)
          (All-push (IsReady c.args.words.now.table_id c.args.words.now.key.frontier c.args.best)
          c.loop.all.items _ c.loop.invariant.ready
          (record {
            table = c.deal.ensures.table.1 ∙ c.loop.invariant.table;
            fresh_view = dealt.1;
            found_memory = refl;
            best = refl;
          }));
    }
