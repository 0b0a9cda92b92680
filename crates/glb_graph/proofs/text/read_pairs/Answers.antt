use Rattle.std.proofs.Common.{arith, subst, sym}
use Rattle.glb_graph.specs.GraphText.{lines_of}
use Rattle.glb_graph.proofs.ReadFacts.{IsSoFar, says_none, says_bad, so_begin, so_more, so_missing}
use Rattle.glb_graph.proofs.ReadFacts.{so_bad, so_extra, so_done, pushed_pairs}
use Rattle.glb_graph.proofs.LineFacts.{lines_none, some_line}
use Rattle.glb_graph.proofs.text.read_pairs.Goals as goal

pub returns-then-bytes-eq0-clause-fault : goal.returns-then-bytes-eq0-clause-fault
returns-then-bytes-eq0-clause-fault c = says_none _ (lines_none _ c.if-bytes-eq0.true)

pub returns-in_default-clause-fault : goal.returns-in_default-clause-fault
returns-in_default-clause-fault c = let l = some_line _ (omega arith)
    in says_bad _ l.0 l.1 l.2 (λ a b p. c.in_default.ensures.none a b l.0 l.1 l.2 p)

pub loop-number-init : goal.loop-number-init
loop-number-init c =
    let b = c.in-Some.ensures.some in
    let s = so_begin (lines_of c.args.bytes.now) b.line (lines_of c.in-Some.after.now)
    c.in-Some.vertices
    c.in-Some.edges b.lines_are b.such c.if-vertices-gt-MOST_VERTICES.false
    c.if-edges-gt-MOST_EDGES.false in
    subst (λ ps. IsSoFar (lines_of c.args.bytes.now) c.in-Some.vertices c.in-Some.edges 0 ps
    (lines_of c.in-Some.after.now)) (sym c.in-Ok.ensures.items) s

pub returns-then-rest-eq0-clause-fault : goal.returns-then-rest-eq0-clause-fault
returns-then-rest-eq0-clause-fault c =
    so_missing _ _ _ _ _ _ c.loop-number.invariant (omega arith) (lines_none _ c.if-rest-eq0.true)

pub returns-in_default-edge-clause-fault : goal.returns-in_default-edge-clause-fault
returns-in_default-edge-clause-fault c =
    let l = some_line c.loop-number.rest.now (omega arith) in
    so_bad _ _ _ _ _ _ c.loop-number.invariant (omega arith) l.0 l.1 l.2
    (λ a b e. c.in_default-edge.ensures.none a b l.0 l.1 l.2 e)

pub loop-number-preserved : goal.loop-number-preserved
loop-number-preserved c =
    let e = c.in-Some-edge.ensures.some in
    pushed_pairs _ _ _ _ _ _ _ c.in-Ok-push.ensures.items
    (so_more _ _ _ _ _ _ c.loop-number.invariant (omega arith) e.line _
    (c.in-Some-edge.from, c.in-Some-edge.to) e.lines_are e.such)

pub returns-then-rest-gt0-clause-fault : goal.returns-then-rest-gt0-clause-fault
returns-then-rest-gt0-clause-fault c = let l = some_line c.loop-number.rest.now (omega arith)
    in so_extra _ _ _ _ _ _ c.loop-number.invariant (omega arith) l.0 l.1 l.2

pub returns-clause-graph : goal.returns-clause-graph
returns-clause-graph c =
    so_done _ _ _ _ _ _ c.loop-number.invariant (omega arith) (lines_none _ (omega arith))
