use Rattle.std.proofs.Common.{◌∙◌, ◌++◌, ◌∷◌, [], sym, ap, append_assoc}
use Rattle.glb_run.proofs.RootFacts.{joined_more}
use Rattle.glb_run.proofs.roots.all_of.Goals as goal

pub loop-list-preserved : goal.loop-list-preserved
loop-list-preserved g c =
    let whole = c.loop-list.invariant.whole
    ∙ ap (λ l. c.loop-list.yielded ++ l) c.in-Some.ensures.steps.0
    in
    record {
      whole = whole
          ∙ sym (append_assoc c.loop-list.yielded (c.in-Some.list ∷ []) c.next.new.self.rest.items);
      all = joined_more (λ v. v.items) c.args.lists.items c.loop-list.yielded
          c.next.new.self.rest.items c.in-Some.list c.loop-list.all.items _ whole
          c.in-Ok.ensures.items c.loop-list.invariant.all;
    }
