use Rattle.std.proofs.Common.{arith, get_or, ◌≡◌, ⊎_elim, subst, sym}
use Rattle.glb_rules.specs.declared.kinds.Kind.TheVariants as kind
use Rattle.glb_core.specs.declared.world.rows.EdgeRow.TheVariants as edge_row
use Rattle.glb_core.specs.Tables.{edge_index}
use Rattle.glb_core.specs.inner.Conditions.{IsWantedRow}
use Rattle.glb_core.proofs.Tables.EdgeRows.{edge_index_below, at_index}
use Rattle.glb_core.proofs.world.conditions.is_asked_by_lines.Goals as goal

pub returns-then-is_wanted-clause-found : goal.returns-then-is_wanted-clause-found
returns-then-is_wanted-clause-found g c = λ _. (
  c.loop-thief.thief-index,
  c.loop-thief-test.true,
  at_index IsWantedRow c.args.edge_rows.now c.edge_index.result
      (edge_index c.args.places kind.Line (get_or c.args.thieves.now c.loop-thief.thief-index 0)
      c.args.place) c.index-edge_rows-edge_index.result edge_row.Idle c.index-edge_rows-edge_index.is
      (omega (
        arith,
        c.edge_index.ensures,
        c.requires.edge_rows,
        edge_index_below c.args.places kind.Line _ c.args.place
            (c.requires.thieves c.loop-thief.thief-index 0 c.loop-thief-test.true) c.requires.place,
      ))
      c.edge_index.ensures
      (⊎_elim (λ (e : c.index-edge_rows-edge_index.result ≡ edge_row.Asked). subst IsWantedRow (sym e) tt)
      (λ x. subst IsWantedRow (sym x.1) tt) (c.is_wanted.ensures.0 c.if-is_wanted.true)),
)
