use Rattle.std.proofs.Common.{arith, get_or, ◌≡◌, ◌∙◌, sym}
use Rattle.std.proofs.lemmas.Bool.{true≢false}
use Rattle.glb_rules.specs.declared.kinds.Kind.TheVariants as kind
use Rattle.glb_core.specs.declared.world.rows.EdgeRow.TheVariants as edge_row
use Rattle.glb_core.specs.Tables.{edge_index}
use Rattle.glb_core.proofs.Tables.EdgeRows.{edge_index_below, at_index}
use Rattle.glb_core.proofs.world.conditions.holds_request.Goals.{in-Refused, in_default}
use Rattle.glb_core.proofs.world.conditions.holds_request.Goals as goal

pub returns-then-matches-clause-found : goal.returns-then-matches-clause-found
returns-then-matches-clause-found g c = λ _. (
  c.loop-thief.thief-index,
  c.loop-thief-test.true,
  at_index (λ z. z ≡ edge_row.Refused) c.args.edge_rows.now c.edge_index.result
      (edge_index c.args.places kind.Line (get_or c.args.thieves.now c.loop-thief.thief-index 0)
      c.args.place) c.index-edge_rows-edge_index.result edge_row.Idle c.index-edge_rows-edge_index.is
      (omega (
        arith,
        c.edge_index.ensures,
        c.requires.edge_rows,
        edge_index_below c.args.places kind.Line _ c.args.place
            (c.requires.thieves c.loop-thief.thief-index 0 c.loop-thief-test.true) c.requires.place,
      ))
      c.edge_index.ensures (elim c.match-matches.branch [
        | in-Refused w ↦ w.in-Refused.is
        | in_default w ↦ absurd (true≢false (sym c.if-matches.true ∙ w.matches-is))
      ]),
)
