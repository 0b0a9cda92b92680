use Rattle.std.proofs.Common.{ap, arith}
use Rattle.std.specs.List.{sum_by}
use Rattle.glb_bags.specs.inner.Entries.{entry_size}
use Rattle.glb_bags.proofs.RangesOfChildren.{AllWhole-size}
use Rattle.glb_bags.proofs.halves.count_part.Goals as goal

pub returns : goal.returns
returns g c =
    let size =
    AllWhole-size (g.P.Program.children c.args._program.now) c.args.part.now.entries.items
    c.requires.held.kept.whole in
    omega (
      arith,
      size,
      ap (sum_by entry_size) c.deref.ensures.value,
      c.count_items.ensures,
      c.requires.count,
    )
