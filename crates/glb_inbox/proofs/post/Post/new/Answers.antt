use Rattle.std.proofs.Common.{map, sym, ◌∙◌, ap}
use Rattle.glb_inbox.proofs.Opening.{lists_are}
use Rattle.glb_inbox.proofs.post.Post.new.Goals as goal

pub returns-clause-bags : goal.returns-clause-bags
returns-clause-bags g c =
    lists_are g.P.Program.children g.B.Bag.items c.in_ok-words.words.value.shared.key
    c.args.bags.now
    (ap (λ t. map (λ s. s.value) t.shared.key.bags.items) c.in_ok-words.ensures.ok
    ∙ c.in_ok-table.ensures.key.3)

pub first_desks-requires-clause-bags : goal.first_desks-requires-clause-bags
first_desks-requires-clause-bags g c =
    sym (lists_are g.P.Program.children g.B.Bag.items c.in_ok-words.words.value.shared.key
    c.args.bags.now
    (ap (λ t. map (λ s. s.value) t.shared.key.bags.items) c.in_ok-words.ensures.ok
    ∙ c.in_ok-table.ensures.key.3))
