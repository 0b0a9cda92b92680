use Rattle.std.proofs.Common.{ℕ, ◌+◌, ◌<◌, length, get_or, take, arith, ap, sym, ◌∙◌, subst, refl}
use Rattle.glb_graph.specs.Rows.{targets_of}
use Rattle.glb_graph.proofs.SearchFacts.{IsDone, begun, length-queue, head_is, head_near}
use Rattle.glb_graph.proofs.SearchFacts.{front_begin, front_done, front_near, target_next}
use Rattle.glb_graph.proofs.SearchFacts.{all_found, finished}
use Rattle.glb_graph.proofs.search.distances.Goals as goal
use Rattle.glb_graph.proofs.search.distances.Goals.{then-loop-head-test+else-found-count}
use Rattle.glb_graph.proofs.search.distances.Goals.{else-loop-head-test}

pub loop-head-init : goal.loop-head-init
loop-head-init c =
    let b = begun c.args.graph.now c.args.start c.vertices-count.result c.in_ok-table.table.items
    c.in_ok-queue.queue.items c.vertices-count.ensures c.known.ensures c.requires
    (c.in_ok-table.ensures.items_if_clones_equal (λ y e. e))
    (c.in_ok-queue.ensures.items_if_clones_equal (λ y e. e)) in
    record {
      room = b.2;
      search = b.0;
      before = λ k l. absurd (omega arith);
      within = omega arith;
      near =
          λ _. b.1;
    }

pub index-requires : goal.index-requires
index-requires c =
    let I = c.loop-head.invariant in
    omega (
      arith,
      (head_is _ _ _ _ _ _ _ I.room I.search c.loop-head-test.true c.index-vertex.ensures).1,
      I.search.same_length,
      c.loop-head.table.ok,
    )

pub overflow_add-steps : goal.overflow_add-steps
overflow_add-steps c =
    let I = c.loop-head.invariant in
    omega (
      arith,
      (head_near _ _ _ _ _ _ _ _ I.room I.search c.loop-head-test.true c.index-vertex.ensures
          c.index.ensures).1,
    )

pub out-target-items-requires : goal.out-target-items-requires
out-target-items-requires c =
    let I = c.loop-head.invariant in
    omega (
      arith,
      c.from.ensures,
      (head_is _ _ _ _ _ _ _ I.room I.search c.loop-head-test.true c.index-vertex.ensures).1,
    )

pub loop-target-init : goal.loop-target-init
loop-target-init c =
    let I = c.loop-head.invariant in
    let n = length-queue _ _ _ I.room in
    let h = head_is _ _ _ _ _ _ _ I.room I.search c.loop-head-test.true c.index-vertex.ensures in
    let d = head_near _ _ _ _ _ _ _ _ I.room I.search c.loop-head-test.true c.index-vertex.ensures
    c.index.ensures in
    let targets = c.out-target-items.ensures ∙ ap (targets_of c.args.graph.now) c.from.ensures in
    record {
      room = I.room;
      front = front_begin _ _ _ _ _ _ _ _ I.search I.before (omega arith)
          (I.near c.loop-head-test.true)
          (ap (λ x. x + 1) d.0) h.0 targets
          (subst (λ t. (k : ℕ) → k < length t → get_or t k 0 < length c.args.graph.now)
          (sym targets)
          (c.known.ensures.below c.index-vertex.result.now));
    }

pub loop-target-preserved : goal.loop-target-preserved
loop-target-preserved c =
    let T = c.loop-target.invariant in
    let next = target_next _ _ _ _ _ _ _ _ _ _ _ _ T.room T.front (omega arith) refl
    c.index-known.ensures
    _ c.min.ensures _ c.from-found.ensures in
    record { room = next.0; front = next.1 }

pub loop-head-preserved : goal.loop-head-preserved
loop-head-preserved c =
    let T = c.loop-target.invariant in
    let n = length-queue _ _ _ T.room in
    record {
      room = T.room;
      search = T.front.search;
      before = front_done _ _ _ _ _ _ _ _ _ T.front (omega arith);
      within = omega (arith, T.front.at_work);
      near = λ l. front_near _ _ _ _ _ _ _ _ _ T.front (omega arith);
    }

pub returns-clause-table : goal.returns-clause-table
returns-clause-table c =
    let I = c.loop-head.invariant in
    let n = length-queue _ _ _ I.room in
    finished _ _ _ _ I.search (elim c.loop-head-test.branch [
      | then-loop-head-test+else-found-count w ↦ all_found _ _ _ _ _ c.known.ensures I.search
          I.before
          (λ l. I.near (omega arith))
          (omega (arith, w.if-found-count.false, c.vertices-count.ensures))
      | else-loop-head-test w ↦ subst
          (λ k. IsDone c.args.graph.now c.loop-head.table.items
          (take c.loop-head.found c.loop-head.queue.items) k)
          (omega (arith, I.within, w.loop-head-test.false)) I.before
    ])
