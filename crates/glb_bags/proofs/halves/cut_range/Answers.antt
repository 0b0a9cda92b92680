use Rattle.std.proofs.Common.{◌≡◌, ◌++◌, ◌∷◌, [], ◌∙◌, ap, set, ◌-◌, ◌+◌, ◌/◌, ◌≤◌, arith, ℕ, take, drop, refl}
use Rattle.std.proofs.lemmas.List.{take-map, drop-map}
use Rattle.glb_bags.specs.Ranges.{IsKept, all_made, closed_item}
use Rattle.glb_bags.specs.declared.entry.Entry.TheVariants.{Range}
use Rattle.glb_bags.proofs.EntriesCutInTwo.{cut_inside, cut_held, only_one}
use Rattle.glb_bags.proofs.halves.cut_range.Goals as goal

pub returns-in_ok-push-in-Range-clause-cut : goal.returns-in_ok-push-in-Range-clause-cut
returns-in_ok-push-in-Range-clause-cut g c =
    let parent = c.in-Range.parent in
    let first : ℕ = c.in-Range.first in
    let from : ℕ = c.in-Range.from in
    let end : ℕ = c.in-Range.end in
    let middle : ℕ = first + (end - first) / 2 in
    let one =
    only_one c.args.entries.now.items c.index.result.now (Range parent first from end)
    c.requires.one c.index.ensures c.in-Range.is in
    let wide : first + 2 ≤ end = omega (arith, c.saturating_sub.ensures) in
    let count : c.saturating_sub-count.result ≡ middle - from = c.saturating_sub-count.ensures in
    let children = g.P.Program.children c.args._program.now in
    let old = c.args.entries.now.items in
    let xs = all_made children old in
    let kept : IsKept children old xs =
    record { whole = c.requires.whole; made_is = refl } in
    let k : ℕ = middle - from in
    cut_held children old _ _ (take k xs) (drop k xs) _ _
    (cut_inside children old _ _ xs (take k xs) (drop k xs) parent first from middle end kept one
    (omega arith) (omega arith)
    (c.in_ok-push-in-Range.ensures.items
    ∙ ap (λ l. l ++ Range parent first c.min.result middle ∷ []) c.new-part.ensures.items
    ∙ ap (λ k. Range parent first k middle ∷ []) c.min.ensures)
    (ap (λ l. set l 0 (Range parent middle c.max.result end)) one
    ∙ ap (λ k. Range parent middle k end ∷ []) c.max.ensures)
    refl refl)
    (ap (λ v. v.items) c.replace.ensures.value ∙ c.truncate.ensures.items
    ∙ ap (λ k. take k c.args.made.now.items) count
    ∙ ap (take k) c.requires.made ∙ take-map closed_item k xs)
    (ap (λ v. v.items) c.replace.ensures.after ∙ c.in_ok-rest_made-in-Range.ensures
    ∙ ap (λ k. drop k c.args.made.now.items) count
    ∙ ap (drop k) c.requires.made ∙ drop-map closed_item k xs)
