use Rattle.std.proofs.Common.{Some, map, ap, ◌∙◌, arith}
use Rattle.glb_uts.proofs.ChildrenAsked.{asked_within, children_asked}
use Rattle.glb_uts.proofs.ranged.UtsRanged.make.Goals as goal

pub make_all-requires-clause-within : goal.make_all-requires-clause-within
make_all-requires-clause-within c =
    asked_within c.args.self.now c.widest-widest.result c.args.asked.now
    c.widest-widest.ensures.root
    c.widest-widest.ensures.others (omega arith) c.requires.numbers

pub returns : goal.returns
returns c =
    ap (map Some) c.make_all.ensures
    ∙ children_asked c.args.self.now c.args.asked.now c.requires.numbers
