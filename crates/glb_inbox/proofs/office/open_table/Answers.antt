use Rattle.std.proofs.Common.{ap, ◌∙◌}
use Rattle.glb_inbox.specs.declared.rule.Start.{Start}
use Rattle.glb_inbox.proofs.Opening.{opens}
use Rattle.glb_inbox.proofs.office.open_table.Goals as goal

pub of_words-requires : goal.of_words-requires
of_words-requires g c =
    let key : Start g.row.P.Denot g.row.B.Denot =
    record {
      program = c.of.result;
      lines = c.of-2.result;
      params = c.args.params;
      bags = c.in_ok-snapshots.field-0;
    } in
    let same = c.of-2.ensures in
    rw c.count_awake.ensures
    (opens g.P.Program.children g.B.Bag.items key c.args.bags.now c.in_ok-snapshots.ensures
    c.requires.limits
    (ap (λ l. l.places) same ∙ c.requires.lines.0) (rw same c.requires.lines.1) c.requires.bags)
