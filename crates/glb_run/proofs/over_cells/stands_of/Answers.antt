use Rattle.std.proofs.Common.{◌≡◌, ◌∷◌, [], ◌++◌, ◌∙◌, All, ap, append_assoc, map, subst, sym}
use Rattle.std.proofs.lemmas.List.{map_push}
use Rattle.std.proofs.lemmas.List.Elements.{All-push}
use Rattle.glb_run.proofs.over_cells.stands_of.Goals as goal

pub loop-berth-preserved : goal.loop-berth-preserved
loop-berth-preserved g c =
    let i = c.loop-berth.invariant in
    let stand = c.new.result in
    let more = c.in_ok-push.ensures.items in
    record {
      whole = i.whole ∙ ap (λ l. c.loop-berth.yielded ++ l) c.in-Some.ensures.steps.0
          ∙ sym (append_assoc c.loop-berth.yielded (c.in-Some.berth ∷ [])
          c.next.new.self.rest.items);
      cells = subst (All (λ s. s.cells.now ≡ c.args.cells.now)) (sym more)
          (All-push (λ s. s.cells.now ≡ c.args.cells.now) c.loop-berth.stands.items stand i.cells
          c.new.ensures.cells);
      berths = ap (map (λ s. s.berth)) more
          ∙ map_push (λ s. s.berth) c.loop-berth.stands.items stand
          ∙ ap (λ l. l ++ stand.berth ∷ []) i.berths
          ∙ ap (λ b. c.loop-berth.yielded ++ b ∷ []) c.new.ensures.berth;
    }
