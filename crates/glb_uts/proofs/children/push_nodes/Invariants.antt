use Rattle.std.proofs.Common.{◌≡◌, ◌++◌, ◌+◌, map, drop, vec_len}
use Rattle.std.specs.Prelude.{vec_capacity}
use Rattle.glb_uts.specs.inner.Siblings.{node_at}
use Rattle.glb_uts.proofs.children.push_nodes.Given as goal

abbrev pub invariant-nodes : goal.invariant-nodes
invariant-nodes l = record {
  pushed : l.out.items ++ map (node_at l.depth) (drop l.descriptor-index l.descriptors)
      ≡ l.fn.out.items ++ map (node_at l.depth) l.descriptors;
  len : vec_len l.out ≡ vec_len l.fn.out + l.descriptor-index;
  capacity : vec_capacity l.out ≡ vec_capacity l.fn.out;
}
