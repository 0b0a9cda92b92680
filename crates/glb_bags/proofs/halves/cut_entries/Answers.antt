use Rattle.std.proofs.Common.{◌≡◌, ◌∙◌, ap, arith, drop, refl, take, length}
use Rattle.std.specs.List.{sum_by}
use Rattle.std.proofs.lemmas.List.{take-map, drop-map, length-map}
use Rattle.glb_bags.specs.Ranges.{IsKept, all_made, closed_item}
use Rattle.glb_bags.specs.inner.Entries.{made_size}
use Rattle.glb_bags.proofs.EntriesCutInTwo.{cut_between, cut_held, made_before}
use Rattle.glb_bags.proofs.halves.cut_entries.Goals as goal

pub copy_from-requires : goal.copy_from-requires
copy_from-requires g c =
    let children = g.P.Program.children c.args._program.now in
    let old = c.args.entries.now.items in
    let fewer =
    made_before children old (all_made children old) c.args.half
    (record { whole = c.requires.whole; made_is = refl }) in
    omega (
      arith,
      c.count_made-count.ensures,
      fewer,
      ap length c.requires.made,
      length-map (all_made children old) closed_item,
      c.args.made.now.ok.0,
      ap (λ l. sum_by made_size (take c.args.half l)) c.deref.ensures.value,
    )

pub returns-clause-cut : goal.returns-clause-cut
returns-clause-cut g c =
    let children = g.P.Program.children c.args._program.now in
    let old = c.args.entries.now.items in
    let xs = all_made children old in
    let kept : IsKept children old xs =
    record { whole = c.requires.whole; made_is = refl } in
    let fewer = made_before children old xs c.args.half kept in
    let n = c.count_made-count.result in
    let count : n ≡ sum_by made_size (take c.args.half old) =
    omega (
      arith,
      c.count_made-count.ensures,
      fewer,
      ap length c.requires.made,
      length-map xs closed_item,
      c.args.made.now.ok.0,
      ap (λ l. sum_by made_size (take c.args.half l)) c.deref.ensures.value,
    ) in
    cut_held children old _ _ (take n xs) (drop n xs) _ _
    (cut_between children old _ _ xs (take n xs) (drop n xs) c.args.half n kept
    c.requires.some c.requires.within
    (ap (λ v. v.items) c.replace.ensures.value ∙ c.in_ok-rest.ensures.items)
    (ap (λ v. v.items) c.replace.ensures.after ∙ c.in_ok-rest.ensures.tail)
    count refl refl)
    (ap (λ v. v.items) c.replace-2.ensures.value ∙ c.truncate.ensures.items
    ∙ ap (take n) c.requires.made ∙ take-map closed_item n xs)
    (ap (λ v. v.items) c.replace-2.ensures.after ∙ c.in_ok-rest_made.ensures
    ∙ ap (drop n) c.requires.made ∙ drop-map closed_item n xs)
