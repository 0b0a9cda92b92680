use Rattle.std.proofs.Common.{◌*◌, ◌+◌, ◌/◌, ◌-◌, ℕ, ◌≡◌, length, arith}
use Rattle.glb_uts.specs.inner.Siblings.{child_of}
use Rattle.glb_uts.proofs.ChildrenAsked.{part_written, rest_written}
use Rattle.glb_uts.proofs.ranged.make_all.Goals as goal

pub groups-preserved : goal.groups-preserved
groups-preserved c =
    let asked = c.args.asked.now in
    let from : ℕ = 8 * c.groups.group in
    let count : ℕ = from + 8 - from in
    let next : 8 * (c.groups.group + 1) ≡ from + count = omega arith in
    let part = part_written child_of asked c.groups.into c.make_group.new.into from count count
    (omega arith) (omega arith) (omega arith) c.groups.invariant c.make_group.ensures in
    rw next part

pub returns : goal.returns
returns c =
    let asked = c.args.asked.now in
    let from : ℕ = 8 * (length asked / 8) in
    rest_written child_of asked c.groups.into c.make_rest.new.into from (8 * c.groups.group)
    (length c.groups.into - from) (length asked - from) (omega arith) (omega arith) (omega arith)
    (omega arith) (omega arith) c.groups.invariant c.make_rest.ensures
