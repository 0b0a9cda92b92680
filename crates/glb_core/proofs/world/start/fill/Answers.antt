use Rattle.std.proofs.Common.{arith, refl, ◌∙◌}
use Rattle.glb_core.proofs.Start.Filled.{fill_round}
use Rattle.glb_core.proofs.world.start.fill.Goals as goal

pub loop-bag-preserved : goal.loop-bag-preserved
loop-bag-preserved g c = record {
  made = fill_round g.B.Bag.items c.args.bags.items c.loop-bag.bags.items c.pop.new.self.items
      c.args.place_rows.now.items c.loop-bag.place_rows.items _
      c.in-Some.bag c.index_mut.result.now c.give_bag.new.place_row c.len.result c.loop-bag.invariant.made
      c.requires.number c.in-Some.ensures.items
      (c.len.ensures ∙ c.pop.new.self.ok.0) c.index_mut.ensures.value c.give_bag.ensures refl;
}

pub returns : goal.returns
returns g c = let F = c.loop-bag.invariant.made
    in record {
      number = F.number;
      place_rows = λ i d e l.
          F.done i d e (let z = c.in_default.ensures.cases.0 in let o = c.loop-bag.bags.ok.0 in omega arith) l;
    }
