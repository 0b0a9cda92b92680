use Rattle.std.proofs.Common.{◌++◌, ◌∷◌, [], ℕ, map, ◌∙◌, ap, sym, arith, append_assoc}
use Rattle.std.specs.List.{range_with_len}
use Rattle.std.proofs.lemmas.List.FromFn.{map-range_with_len_more}
use Rattle.glb_bags.proofs.tests.range_bag.FansProgram.expand.Goals as goal

pub loop-number-preserved : goal.loop-number-preserved
loop-number-preserved c =
    let f : ℕ → ℕ × ℕ = λ n. (0, n) in
    let n = c.loop-number.number in
    let before = c.args.out.now.items in
    record {
      items = c.push_reserved.ensures.items
          ∙ ap (λ l. l ++ f n ∷ []) c.loop-number.invariant.items
          ∙ append_assoc before (map f (range_with_len 0 n)) (f n ∷ [])
          ∙ ap (λ l. before ++ l) (sym (map-range_with_len_more f 0 n n (omega arith)));
      room = omega (
        arith,
        c.push_reserved.ensures.len,
        c.push_reserved.ensures.capacity,
        c.loop-number.invariant.room,
      );
    }
