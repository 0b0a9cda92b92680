use Rattle.std.proofs.Common.{ℕ, arith}
use Rattle.glb_graph.specs.GraphText.{IsPair}
use Rattle.glb_graph.specs.FirstLines.{BeginsWithout}
use Rattle.glb_graph.proofs.LineFacts.{none_holds, pair_end, pair_feed, pair_no_first}
use Rattle.glb_graph.proofs.LineFacts.{pair_no_space, pair_no_second, pair_no_end}
use Rattle.glb_graph.proofs.text.read_pair.Goals as goal

pub returns-in_err-first-clause-none : goal.returns-in_err-first-clause-none
returns-in_err-first-clause-none c =
    let no_pair : (a b : ℕ)
    → BeginsWithout (λ line. IsPair line a b) c.args.bytes.now = λ a b line lines e p.
    pair_no_first _ _ _ _ _ e p c.in_err-first.ensures.none in
    none_holds _ _ no_pair

pub returns-in_err-after_space-clause-none : goal.returns-in_err-after_space-clause-none
returns-in_err-after_space-clause-none c =
    let no_pair : (a b : ℕ)
    → BeginsWithout (λ line. IsPair line a b) c.args.bytes.now = λ a b line lines e p.
    pair_no_space _ _ _ _ _ e p _ _ c.in_ok-first.ensures.some c.in_err-after_space.ensures.none in
    none_holds _ _ no_pair

pub returns-in_err-second-clause-none : goal.returns-in_err-second-clause-none
returns-in_err-second-clause-none c =
    let no_pair : (a b : ℕ)
    → BeginsWithout (λ line. IsPair line a b) c.args.bytes.now = λ a b line lines e p.
    pair_no_second _ _ _ _ _ e p _ _ c.in_ok-first.ensures.some _ c.in_ok-after_space.ensures.some
    c.in_err-second.ensures.none in
    none_holds _ _ no_pair

pub returns-then-end-eq0-clause-some : goal.returns-then-end-eq0-clause-some
returns-then-end-eq0-clause-some c =
    pair_end _ _ _ c.in_ok-first.ensures.some _ _ _ c.in_ok-after_space.ensures.some
    c.in_ok-second.ensures.some c.if-end-eq0.true

pub returns-in_err-rest-clause-none : goal.returns-in_err-rest-clause-none
returns-in_err-rest-clause-none c =
    let no_pair : (a b : ℕ)
    → BeginsWithout (λ line. IsPair line a b) c.args.bytes.now = λ a b line lines e p.
    pair_no_end _ _ _ _ _ e p _ _ c.in_ok-first.ensures.some _ c.in_ok-after_space.ensures.some _ _
    c.in_ok-second.ensures.some (omega arith) c.in_err-rest.ensures.none in
    none_holds _ _ no_pair

pub returns-clause-some : goal.returns-clause-some
returns-clause-some c =
    pair_feed _ _ _ c.in_ok-first.ensures.some _ _ _ c.in_ok-after_space.ensures.some
    c.in_ok-second.ensures.some _ c.in_ok-rest.ensures.some
