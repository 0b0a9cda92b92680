use Rattle.std.proofs.Common.{◌≡◌, ◌++◌, ◌∙◌, ap, ap₂, sym, subst, length}
use Rattle.std.specs.List.Sorted.{IsPermutation}
use Rattle.glb_bags.specs.Ranges.{all_items, IsHeld}
use Rattle.glb_bags.proofs.range_bag.RangeBagBag.merge.Goals as goal

pub merge_entries-requires-clause-other_held : goal.merge_entries-requires-clause-other_held
merge_entries-requires-clause-other_held g c =
    let one =
    ap (λ v. v.0) c.other.view_is ∙ c.requires.fits.1.1 ∙ sym c.requires.fits.1.0
    ∙ sym (ap (λ v. v.0) c.self.view_is) in
    subst
    (λ p. IsHeld (g.P.Program.children p) c.other.inside.entries.items c.other.inside.made.items)
    one c.other.invariant.0

pub merge_entries-requires-clause-more : goal.merge_entries-requires-clause-more
merge_entries-requires-clause-more g c =
    let one =
    ap (λ v. v.0) c.other.view_is ∙ c.requires.fits.1.1 ∙ sym c.requires.fits.1.0
    ∙ sym (ap (λ v. v.0) c.self.view_is) in
    subst
    (λ p. c.other.inside.count
    ≡ length (all_items (g.P.Program.children p) c.other.inside.entries.items))
    one c.other.invariant.1

pub returns-in_default-clause-merged : goal.returns-in_default-clause-merged
returns-in_default-clause-merged g c =
    let one =
    ap (λ v. v.0) c.other.view_is ∙ c.requires.fits.1.1 ∙ sym c.requires.fits.1.0
    ∙ sym (ap (λ v. v.0) c.self.view_is) in
    let more = c.other.inside.entries.items in
    subst
    (λ l. IsPermutation l
    (all_items (g.P.Program.children c.self.inside.program) c.merge_entries.new.entries.items))
    (ap₂ (λ l m. l ++ m) (ap (λ v. v.1) c.self.view_is)
    (ap (λ p. all_items (g.P.Program.children p) more) (sym one)
    ∙ ap (λ v. v.1) c.other.view_is))
    c.in_default.ensures.merged
