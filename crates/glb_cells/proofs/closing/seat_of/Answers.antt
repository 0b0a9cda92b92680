use Rattle.std.proofs.Common.{◌∷◌, [], map, sym, ap, ◌∙◌}
use Rattle.glb_cells.specs.Plays.{slots_in}
use Rattle.glb_cells.specs.inner.Keeping.{kept_in}
use Rattle.glb_cells.proofs.BerthLemmas.Opened.{is_free}
use Rattle.glb_cells.proofs.closing.seat_of.Goals as goal

pub returns-clause-table : goal.returns-clause-table
returns-clause-table g c = ap (λ b. b.object) c.berth.view_is

pub returns-clause-view : goal.returns-clause-view
returns-clause-view g c =
    let o = c.berth.invariant in
    ap (λ m. map (λ r. r.own) m.0) o.me_is ∙ ap (λ x. x ∷ []) (sym (ap (λ m. kept_in m.0) o.me_is)
    ∙ ap (λ b. b.kept) c.berth.view_is)

pub returns-clause-free : goal.returns-clause-free
returns-clause-free g c =
    let o = c.berth.invariant in
    ap (λ m. m.1) o.me_is
    ∙ ap slots_in (is_free o.me_is (ap (λ b. b.slot) c.berth.view_is ∙ c.requires.free))
