use Rattle.std.proofs.Common.{◌+◌, ◌∷◌, ◌++◌, [], ap, sym, subst, ◌∙◌, arith}
use Rattle.std.proofs.Common.{append_assoc, length, length-append}
use Rattle.std.specs.Prelude.{All}
use Rattle.glb_bound.specs.Best.{worth_of}
use Rattle.glb_bound.specs.inner.Views.{joined}
use Rattle.glb_bound.specs.inner.Places.{IsDone, HasPlayed}
use Rattle.glb_bound.proofs.Members.{All-first, All-others}
use Rattle.glb_bound.proofs.Together.{none_played, played_together, greater_least}
use Rattle.glb_bound.proofs.many.gather_all.Goals as goal

pub loop-place-init : goal.loop-place-init
loop-place-init g c =
    let children = g.S.Program.children c.args.search.now in
    let worth = worth_of (g.S.Program.value c.args.search.now) in
    let cap = g.S.Search.cap_of c.args.search.now in
    let same = c.into_iter-place-iterator.ensures.into_iter_gives.0 in
    record {
      whole = sym same;
      table = c.requires.table.0;
      done = subst (All (IsDone children worth cap c.args.words.now.table_id c.args.frontier.now
          c.args.first)) (sym same) c.requires.done;
      played = (
        0,
        [],
        omega arith,
        subst (HasPlayed children worth cap c.args.frontier.now c.args.first 0 0 [] c.args.first)
            (sym (ap (λ m. m.0) c.requires.fresh))
            (none_played children worth cap c.args.frontier.now c.args.first
            (length c.args.frontier.now)),
      );
      least = omega arith;
    }

pub overflow_add-visited : goal.overflow_add-visited
overflow_add-visited g c =
    let children = g.S.Program.children c.args.search.now in
    let worth = worth_of (g.S.Program.value c.args.search.now) in
    let cap = g.S.Search.cap_of c.args.search.now in
    let i = c.loop-place.invariant in
    let next = c.in-Some.ensures.steps.0 in
    let all = subst (All (IsDone children worth cap c.args.words.now.table_id c.args.frontier.now
    c.args.first)) next i.done in
    let one = All-first (IsDone children worth cap c.args.words.now.table_id c.args.frontier.now
    c.args.first) c.in-Some.place c.next.new.self.rest.items all in
    let q = (one.played c.if-is_refused.false).1 in
    omega (
      arith,
      i.played.2,
      i.played.3.few,
      q.few,
      c.requires.few.0,
      c.requires.few.1,
      c.args.places.ok.0,
      ap length i.whole,
      length-append c.loop-place.yielded c.loop-place.place-iterator.rest.items,
    )

pub gather-requires-clause-table : goal.gather-requires-clause-table
gather-requires-clause-table g c =
    let children = g.S.Program.children c.args.search.now in
    let worth = worth_of (g.S.Program.value c.args.search.now) in
    let cap = g.S.Search.cap_of c.args.search.now in
    let i = c.loop-place.invariant in
    let next = c.in-Some.ensures.steps.0 in
    let all = subst (All (IsDone children worth cap c.args.words.now.table_id c.args.frontier.now
    c.args.first)) next i.done in
    let one = All-first (IsDone children worth cap c.args.words.now.table_id c.args.frontier.now
    c.args.first) c.in-Some.place c.next.new.self.rest.items all in
    (i.table, one.table, c.requires.table.1)

pub gather-requires-clause-free : goal.gather-requires-clause-free
gather-requires-clause-free g c =
    let children = g.S.Program.children c.args.search.now in
    let worth = worth_of (g.S.Program.value c.args.search.now) in
    let cap = g.S.Search.cap_of c.args.search.now in
    let i = c.loop-place.invariant in
    let next = c.in-Some.ensures.steps.0 in
    let all = subst (All (IsDone children worth cap c.args.words.now.table_id c.args.frontier.now
    c.args.first)) next i.done in
    let one = All-first (IsDone children worth cap c.args.words.now.table_id c.args.frontier.now
    c.args.first) c.in-Some.place c.next.new.self.rest.items all in
    one.slots

pub loop-place-preserved : goal.loop-place-preserved
loop-place-preserved g c =
    let children = g.S.Program.children c.args.search.now in
    let worth = worth_of (g.S.Program.value c.args.search.now) in
    let cap = g.S.Search.cap_of c.args.search.now in
    let i = c.loop-place.invariant in
    let next = c.in-Some.ensures.steps.0 in
    let all = subst (All (IsDone children worth cap c.args.words.now.table_id c.args.frontier.now
    c.args.first)) next i.done in
    let one = All-first (IsDone children worth cap c.args.words.now.table_id c.args.frontier.now
    c.args.first) c.in-Some.place c.next.new.self.rest.items all in
    let place = c.in-Some.place in
    let yielded = c.loop-place.yielded in
    let h = i.played in
    let own = one.played c.if-is_refused.false in
    let together = played_together children worth cap c.args.frontier.now c.args.first
    (length yielded) 1 h.0 place.visited h.1 own.0 c.loop-place.best place.best
    c.greater-best.result c.loop-place.seat.me.0 place.seat.me.0 c.greater-best.ensures h.3
    own.1 in
    record {
      whole = i.whole ∙ ap (λ l. yielded ++ l) next
          ∙ sym (append_assoc yielded (place ∷ []) c.next.new.self.rest.items);
      table = c.gather.ensures.table ∙ i.table;
      done = All-others (IsDone children worth cap c.args.words.now.table_id c.args.frontier.now
          c.args.first) place c.next.new.self.rest.items all;
      played = (
        h.0 + place.visited,
        h.1 ++ own.0,
        omega (arith, h.2),
        subst (HasPlayed children worth cap c.args.frontier.now c.args.first
            (length (yielded ++ place ∷ [])) (h.0 + place.visited) (h.1 ++ own.0)
            c.greater-best.result) (sym (ap (λ m. m.0) c.gather.ensures.me))
            (subst (λ n. HasPlayed children worth cap c.args.frontier.now c.args.first n
            (h.0 + place.visited) (h.1 ++ own.0) c.greater-best.result
            (joined c.loop-place.seat.me.0 place.seat.me.0))
            (sym (length-append yielded (place ∷ []))) together),
      );
      least = greater_least children worth cap c.args.first.worth c.loop-place.best place.best
          c.greater-best.result c.greater-best.ensures i.least;
    }
