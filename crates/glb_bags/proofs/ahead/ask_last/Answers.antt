use Rattle.std.proofs.Common.{◌≡◌, ◌-◌, ◌+◌, ◌<◌, ◌≤◌, ◌++◌, ◌∷◌, [], ℕ, ◌∙◌, ap, map, refl, sym, subst, arith, take, length, get_or}
use Rattle.std.specs.List.{range_with_len}
use Rattle.std.proofs.lemmas.List.FromFn.{map-range_with_len_more}
use Rattle.glb_bags.specs.declared.entry.Entry.TheVariants.{Range}
use Rattle.glb_bags.specs.inner.Entries.{IsReady}
use Rattle.glb_bags.proofs.RangesOfChildren.{last_read, last_set, last_whole}
use Rattle.glb_bags.proofs.GroupsOfChildren.{asked_of_last}
use Rattle.glb_bags.proofs.ahead.ask_last.Goals as goal

pub loop-i-preserved : goal.loop-i-preserved
loop-i-preserved g c =
    let from : ℕ = c.in-Range.made - c.min-count.result in
    record {
      asked = c.push_reserved.ensures.items
          ∙ ap (λ l. l ++ (c.in-Range.parent, from + c.loop-i.i) ∷ []) c.loop-i.invariant.asked
          ∙ sym (map-range_with_len_more (λ n. (c.in-Range.parent, n)) from c.loop-i.i
          (from + c.loop-i.i) refl);
      len = omega (arith, c.push_reserved.ensures.len, c.loop-i.invariant.len);
      room = omega (arith, c.push_reserved.ensures.capacity, c.loop-i.invariant.room);
    }

pub returns-clause-asked : goal.returns-clause-asked
returns-clause-asked g c = λ children whole.
    let old = c.args.entries.now.items in
    let parent = c.in-Range.parent in
    let first : ℕ = c.in-Range.first in
    let made : ℕ = c.in-Range.made in
    let end : ℕ = c.in-Range.end in
    let count : ℕ = c.min-count.result in
    let long : c.len-last.result ≡ length old = c.len-last.ensures ∙ c.args.entries.now.ok.0 in
    let one =
    last_read old c.index.result.now (Range parent first made end) c.len-last.result long
    c.requires.some c.index.ensures c.in-Range.is in
    let last = last_whole children old (take (length old - 1) old) (Range parent first made end)
    whole one in
    let at : c.len-last.result - 1 ≡ length old - 1 = omega arith in
    let unmade : made < end → ⊥ = subst (λ e. ¬ IsReady e) c.in-Range.is
    (c.requires.unmade c.index.result.now
    (c.index.ensures ∙ ap (λ i. get_or old i c.index.result.now) at)) in
    let none : end ≤ made = omega (arith, unmade) in
    let all : c.loop-i.i ≡ count = omega arith in
    asked_of_last children old _ (take (length old - 1) old) _ parent first made end count
    (made - count) whole one
    (last_set old (Range parent first (made - count) end) c.len-last.result long c.requires.some)
    none (omega (arith, c.min-count.ensures, c.saturating_sub.ensures, last.0))
    (omega (arith, c.min-count.ensures, c.saturating_sub.ensures))
    (omega (arith, c.min-count.ensures, c.saturating_sub.ensures))
    (c.loop-i.invariant.asked
    ∙ ap (λ k. map (λ n. (parent, n)) (range_with_len (made - count) k)) all)
