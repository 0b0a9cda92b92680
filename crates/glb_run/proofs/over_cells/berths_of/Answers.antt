use Rattle.std.proofs.Common.{◌∷◌, [], ◌++◌, ◌∙◌, ap, append_assoc, subst, sym}
use Rattle.std.proofs.lemmas.List.Elements.{All-push}
use Rattle.glb_cells.specs.Berths.{IsOf}
use Rattle.glb_run.proofs.PlayedFacts.{mapped_more}
use Rattle.glb_run.proofs.over_cells.berths_of.Goals as goal

pub loop-stand-preserved : goal.loop-stand-preserved
loop-stand-preserved g c =
    let i = c.loop-stand.invariant in
    let stand = c.in-Some.stand in
    record {
      whole = i.whole ∙ ap (λ l. c.loop-stand.yielded ++ l) c.in-Some.ensures.steps.0
          ∙ sym (append_assoc c.loop-stand.yielded (stand ∷ []) c.next.new.self.rest.items);
      here = All-push (λ s. IsOf s.cells.now s.berth) c.loop-stand.yielded stand i.here
          (subst (IsOf stand.cells.now) c.leave.ensures.berth c.leave.ensures.here);
      berths = mapped_more (λ s. s.berth) c.loop-stand.yielded stand c.loop-stand.berths.items
          c.push.new.self.items c.leave.result i.berths c.leave.ensures.berth
          c.in_ok-push.ensures.items;
    }
