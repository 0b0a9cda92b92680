use Rattle.std.proofs.Common.{ℕ, ◌^◌, ◌<◌, [], ◌++◌, false, ap₂, ◌∙◌, arith, get_or, sym}
use Rattle.std.specs.Int.{w32, to_be_bytes}
use Rattle.std.proofs.lemmas.List.{get_or_default}
use Rattle.sha1.specs.Sha1.{sha1}
use Rattle.glb_uts.specs.declared.node.Node.{Node}
use Rattle.glb_uts.proofs.ranged.make_row.Goals as goal

pub children-descriptors-requires : goal.children-descriptors-requires
children-descriptors-requires c =
    let asked = c.args.asked.now in
    let none : Node × ℕ = (record { descriptor = []; depth = 0; root = false }, 0) in
    let last = get_or asked 7 none in
    let first = get_or asked 0 none in
    let row = c.requires.row 7 last first (omega arith)
    (get_or_default asked 7 none last (omega arith))
    (get_or_default asked 0 none first (omega arith)) in
    let small : last.1 < 2 ^ 32 = (c.requires.within 7 none (omega arith)).number in
    omega (arith, row.1, small)

pub put_nodes-requires-clause-descriptors : goal.put_nodes-requires-clause-descriptors
put_nodes-requires-clause-descriptors c = λ k a lt is.
    let asked = c.args.asked.now in
    let none : Node × ℕ = (record { descriptor = []; depth = 0; root = false }, 0) in
    let first = get_or asked 0 none in
    let row = c.requires.row k a first (omega arith) is
    (get_or_default asked 0 none first (omega arith)) in
    c.children-descriptors.ensures k (omega arith)
    ∙ ap₂ (λ p n. sha1 (p ++ to_be_bytes w32 n)) (sym row.0) (sym row.1)
