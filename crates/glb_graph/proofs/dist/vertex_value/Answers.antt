use Rattle.std.proofs.Common.{length, arith, ap, ◌∙◌}
use Rattle.glb_graph.specs.Distances.{value_of}
use Rattle.glb_graph.specs.inner.Tables.{shown}
use Rattle.glb_graph.proofs.ValueFacts.{table_small, table_value}
use Rattle.glb_graph.proofs.dist.vertex_value.Goals as goal

pub tally-requires-clause-few : goal.tally-requires-clause-few
tally-requires-clause-few c = omega (arith, c.deref.ensures.len, c.in_ok-table.ensures.limit)

pub tally-requires-clause-small : goal.tally-requires-clause-small
tally-requires-clause-small c =
    rw c.deref.ensures.value
    (table_small c.args.graph.now c.args.start c.in_ok-table.table.items c.in_ok-table.ensures.table
    c.in_ok-table.ensures.limit)

pub returns : goal.returns
returns c = c.tally.ensures
    ∙ ap (λ t. value_of (shown t) c.args.start (length t)) c.deref.ensures.value
    ∙ table_value c.args.graph.now c.args.start c.in_ok-table.table.items
    c.in_ok-table.ensures.table
