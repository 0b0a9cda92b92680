use Rattle.std.proofs.Common.{◌++◌, ◌∙◌, ap, sym, subst}
use Rattle.std.specs.Prelude.{IfSome}
use Rattle.std.specs.List.Sorted.{IsPermutation}
use Rattle.std.proofs.lemmas.List.Sorted.{IsPermutation-refl}
use Rattle.glb_bags.specs.Ranges.{all_items}
use Rattle.glb_bags.specs.inner.Entries.{IsCut}
use Rattle.glb_bags.proofs.range_bag.RangeBagBag.split.Goals as goal

pub returns-clause-same : goal.returns-clause-same
returns-clause-same g c =
    let children = g.P.Program.children c.self.inside.program in
    let rest = c.cut_half.new in
    let cut : IsCut children c.self.inside.entries.items c.in-Some.part.entries.items
    c.in-Some.part.made.items rest.entries.items rest.made.items =
    subst
    (λ o. IfSome o (λ part. IsCut children c.self.inside.entries.items part.entries.items
    part.made.items rest.entries.items rest.made.items))
    c.in-Some.is c.in_ok-part.ensures.cut in
    let both = all_items children c.in-Some.part.entries.items
    ++ all_items children rest.entries.items in
    subst (λ l. IsPermutation l both) (sym cut.joined ∙ ap (λ v. v.1) c.self.view_is)
    (IsPermutation-refl both)

pub returns-clause-part_fits : goal.returns-clause-part_fits
returns-clause-part_fits g c = record { kept = λ p e. ap (λ v. v.0) c.self.view_is ∙ e }

pub returns-clause-fits : goal.returns-clause-fits
returns-clause-fits g c = record { kept = λ p e. ap (λ v. v.0) c.self.view_is ∙ e }
