use Rattle.std.proofs.Common.{◌<◌, ℕ, Some, map, ap, ◌∙◌, arith}
use Rattle.std.specs.List.{range_with_len}
use Rattle.std.proofs.lemmas.List.FromFn.{length-map-range_with_len, get_or-map-range_with_len}
use Rattle.std.proofs.lemmas.Option.{slice_get-get_or}
use Rattle.glb_bags.proofs.tests.range_bag.FansRanged.child.Goals as goal

pub returns : goal.returns
returns c =
    let f : ℕ → ℕ × ℕ = λ n. (0, n) in
    let fan = c.args._item.now.0 in
    let n = c.args.number in
    let few : n < fan = omega (arith, c.requires, length-map-range_with_len f 0 fan) in
    slice_get-get_or (map f (range_with_len 0 fan)) n (0, 0) c.requires
    ∙ ap Some (get_or-map-range_with_len f 0 fan n n (0, 0) few (omega arith))
