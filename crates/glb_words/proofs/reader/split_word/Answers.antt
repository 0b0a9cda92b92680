use Rattle.std.proofs.Common.{rules, sym}
use Rattle.glb_words.proofs.TextFacts.{lacks_equals, before_lacks}
use Rattle.glb_words.proofs.reader.split_word.Goals as goal

pub returns-in-None : goal.returns-in-None
returns-in-None c =
    let none = lacks_equals c.args.word.now (search rules) in
    record { name = sym (before_lacks c.args.word.now none); value = none }
