use Rattle.std.proofs.Common.{arith, subst, sym}
use Rattle.glb_graph.specs.GraphText.{lines_of}
use Rattle.glb_knap.proofs.Readings.{IsSoFar, says_none, says_bad, so_begin, so_more, so_missing}
use Rattle.glb_knap.proofs.Readings.{so_bad, so_extra, so_done, pushed_lines}
use Rattle.glb_graph.proofs.LineFacts.{lines_none, some_line}
use Rattle.glb_knap.proofs.text.read_lines.Goals as goal

pub returns-then-bytes-eq0-clause-fault : goal.returns-then-bytes-eq0-clause-fault
returns-then-bytes-eq0-clause-fault c = says_none _ (lines_none _ c.if-bytes-eq0.true)

pub returns-in_default-clause-fault : goal.returns-in_default-clause-fault
returns-in_default-clause-fault c = let l = some_line _ (omega arith)
    in says_bad _ l.0 l.1 l.2 (λ a b p. c.in_default.ensures.none a b l.0 l.1 l.2 p)

pub loop-number-init : goal.loop-number-init
loop-number-init c =
    let b = c.in-Some.ensures.some in
    let s = so_begin (lines_of c.args.bytes.now) b.line (lines_of c.in-Some.after.now)
    c.in-Some.count
    c.in-Some.capacity b.lines_are b.such c.if-count-gt-MOST_LINES.false
    c.if-capacity-gt-MOST_NUMBER.false in
    subst (λ ps. IsSoFar (lines_of c.args.bytes.now) c.in-Some.capacity c.in-Some.count 0 ps
    (lines_of c.in-Some.after.now)) (sym c.in-Ok.ensures.items) s

pub returns-then-rest-eq0-clause-fault : goal.returns-then-rest-eq0-clause-fault
returns-then-rest-eq0-clause-fault c =
    so_missing _ _ _ _ _ _ c.loop-number.invariant (omega arith) (lines_none _ c.if-rest-eq0.true)

pub returns-in_default-read_line-clause-fault : goal.returns-in_default-read_line-clause-fault
returns-in_default-read_line-clause-fault c =
    let l = some_line c.loop-number.rest.now (omega arith) in
    so_bad _ _ _ _ _ _ c.loop-number.invariant (omega arith) l.0 l.1 l.2
    (λ a b e. c.in_default-read_line.ensures.none a b l.0 l.1 l.2 e)

pub loop-number-preserved : goal.loop-number-preserved
loop-number-preserved c =
    let e = c.in-Some-read_line.ensures.some in
    pushed_lines _ _ _ _ _ _ _ c.in-Ok-push.ensures.items
    (so_more _ _ _ _ _ _ c.loop-number.invariant (omega arith) e.line _
    (c.in-Some-read_line.weight, c.in-Some-read_line.value) e.lines_are e.such)

pub returns-then-rest-gt0-clause-fault : goal.returns-then-rest-gt0-clause-fault
returns-then-rest-gt0-clause-fault c = let l = some_line c.loop-number.rest.now (omega arith)
    in so_extra _ _ _ _ _ _ c.loop-number.invariant (omega arith) l.0 l.1 l.2

pub returns-clause-lines : goal.returns-clause-lines
returns-clause-lines c =
    so_done _ _ _ _ _ _ c.loop-number.invariant (omega arith) (lines_none _ (omega arith))
