use Rattle.std.proofs.Common.{ℕ, [], false, ap₂, ◌∙◌, ◌++◌, arith, get_or, length-set}
use Rattle.std.specs.Int.{w32, to_be_bytes}
use Rattle.std.proofs.lemmas.List.{get_or_default}
use Rattle.sha1.specs.Sha1.{sha1}
use Rattle.glb_uts.specs.declared.node.Node.{Node}
use Rattle.glb_uts.proofs.ChildrenAsked.{one_more_filled}
use Rattle.glb_uts.proofs.ranged.make_eight.Goals as goal

pub asked-preserved : goal.asked-preserved
asked-preserved c =
    let asked = c.args.asked.now in
    let i = c.asked.i in
    let none : Node × ℕ = (record { descriptor = []; depth = 0; root = false }, 0) in
    let e = get_or asked i none in
    let read = get_or_default asked i none e (omega arith) in
    record {
      parents = length-set c.asked.parents i e.0.descriptor ∙ c.asked.invariant.parents;
      numbers = length-set c.asked.numbers i e.1 ∙ c.asked.invariant.numbers;
      filled = λ k a less is. (
        one_more_filled (λ (b : Node × ℕ). b.0.descriptor) asked c.asked.parents [] i e
            (omega arith) (omega arith) read
            (λ j b lt at. (c.asked.invariant.filled j b lt at).0) k a less is,
        one_more_filled (λ (b : Node × ℕ). b.1) asked c.asked.numbers 0 i e (omega arith)
            (omega arith) read (λ j b lt at. (c.asked.invariant.filled j b lt at).1) k a less is,
      );
    }

pub put_nodes-requires-clause-descriptors : goal.put_nodes-requires-clause-descriptors
put_nodes-requires-clause-descriptors c = λ k a lt is.
    let here = c.asked.invariant.filled k a (omega arith) is in
    c.digests-descriptors.ensures k (omega arith)
    ∙ ap₂ (λ p n. sha1 (p ++ to_be_bytes w32 n)) here.0 here.1
