use Rattle.std.proofs.Common.{ℕ, sym}
use Rattle.std.proofs.lemmas.List.FromFn.{length-map-range_with_len}
use Rattle.glb_bags.proofs.tests.range_bag.FansRanged.fan.Goals as goal

pub returns : goal.returns
returns c =
    let f : ℕ → ℕ × ℕ = λ n. (0, n) in
    sym (length-map-range_with_len f 0 c.args.item.now.0)
