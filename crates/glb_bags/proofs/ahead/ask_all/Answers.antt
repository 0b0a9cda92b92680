use Rattle.std.proofs.Common.{◌++◌, ◌∷◌, [], ◌∙◌, ap, map, sym, arith, append_assoc}
use Rattle.std.specs.List.{range_with_len}
use Rattle.std.proofs.lemmas.List.FromFn.{map-range_with_len_more}
use Rattle.glb_bags.proofs.ahead.ask_all.Goals as goal

pub loop-i-preserved : goal.loop-i-preserved
loop-i-preserved g c =
    let parent = c.args.parent in
    record {
      asked = c.push_reserved.ensures.items
          ∙ ap (λ l. l ++ (parent, c.loop-i.i) ∷ []) c.loop-i.invariant.asked
          ∙ append_assoc c.args.asked.now.items
          (map (λ n. (parent, n)) (range_with_len 0 c.loop-i.i)) ((parent, c.loop-i.i) ∷ [])
          ∙ ap (λ l. c.args.asked.now.items ++ l)
          (sym (map-range_with_len_more (λ n. (parent, n)) 0 c.loop-i.i c.loop-i.i (omega arith)));
      len = omega (arith, c.push_reserved.ensures.len, c.loop-i.invariant.len);
      capacity = c.push_reserved.ensures.capacity ∙ c.loop-i.invariant.capacity;
    }
