use Rattle.std.proofs.Common.{◌≡◌, ◌*◌, ◌-◌, ◌++◌, ◌∷◌, replicate, map, get_or, []}
use Rattle.glb_rules.specs.Joins.{join_to}
use Rattle.glb_rules.specs.Setups.{has_items}
use Rattle.glb_cells.specs.inner.Numbers.{line_words}
use Rattle.glb_cells.proofs.numbers.first_words.Given as goal

abbrev pub invariant-loop : goal.invariant-loop
invariant-loop g l = l.words.items ≡ l.live ∷ 0 ∷ 0 ∷ replicate l.counter 0

abbrev pub invariant-loop-thief : goal.invariant-loop-thief
invariant-loop-thief g l =
    l.words.items ≡ l.live ∷ 0 ∷ 0 ∷ (replicate (l.lines.places * (l.lines.places - 1)) 0
    ++ join_to l.thief (line_words l.lines (λ p. has_items
    (get_or (map g.B.Bag.items l.bags) p []))))
