use Rattle.std.proofs.Common.{◌∙◌, ap, sym, subst, length, arith}
use Rattle.std.proofs.lemmas.List.{length-map}
use Rattle.std.specs.Prelude.{slice_index_or}
use Rattle.glb_rules.specs.Events.{name_of}
use Rattle.glb_core.specs.Seen.{in_names}
use Rattle.glb_rules.specs.declared.kinds.Kind.TheVariants as kind
use Rattle.glb_rules.specs.declared.local.EdgeName.{EdgeName}
use Rattle.glb_place.specs.declared.record.Record.{Record}
use Rattle.glb_place.specs.Looks.{LooksAt}
use Rattle.glb_place.proofs.KnownFacts.{name_in}
use Rattle.glb_place.proofs.Finding.{learns_on}
use Rattle.glb_place.proofs.LookFacts.{looked_further}
use Rattle.glb_place.proofs.SightLists.{names_apart}
use Rattle.glb_place.proofs.poll.poll_ins.Goals as goal

pub loop-at-preserved : goal.loop-at-preserved
loop-at-preserved g c =
    let r = g.F.Fabric.kept c.args.held.now.fabric in
    let i = c.loop-at.invariant in
    let e = c.poll_in.ensures in
    let first = g.F.Fabric.looks c.args.held.now.fabric in
    let old = g.F.Fabric.looks c.loop-at.held.fabric in
    let new = g.F.Fabric.looks c.poll_in.new.held.fabric in
    let names = in_names r.lines r.place in
    let none : EdgeName = name_of kind.Steal 0 0 in
    let looks : (d : EdgeName) → LooksAt (slice_index_or names c.loop-at.at d) old new = λ d.
    subst (λ x. LooksAt (slice_index_or (in_names x.lines x.place) c.loop-at.at d) old new)
    i.learns.rest (e.looks d)
    in
    let made = ap length c.requires.agrees.tells.made.ins in
    let long = length-map c.args.held.now.seen.ins.items (name_in r.place) in
    record {
      holds = e.holds;
      agrees = e.agrees;
      learns = learns_on r (g.F.Fabric.kept c.loop-at.held.fabric)
          (g.F.Fabric.kept c.poll_in.new.held.fabric)
          i.learns e.learns;
      many = e.many ∙ i.many;
      bound = i.bound;
      into = looked_further names c.loop-at.at first old new (names_apart r.lines r.place)
          (let b = i.bound in let t = c.loop-at-test.true in omega arith) i.into looks;
      outs = λ n own. e.outs n (own ∙ sym (ap (λ (x : Record _). x.place) i.learns.rest))
          ∙ i.outs n own;
      home = record {
        program_stays = e.home.program_stays ∙ i.home.program_stays;
        home_stays = e.home.home_stays ∙ i.home.home_stays;
        refuses_stays = e.home.refuses_stays ∙ i.home.refuses_stays;
      };
      counts = record {
        live = (looks none).live ∙ i.counts.live;
        stop = (looks none).stop ∙ i.counts.stop;
      };
    }

pub returns-clause-all : goal.returns-clause-all
returns-clause-all g c =
    let made = ap length c.requires.agrees.tells.made.ins in
    let long = length-map c.args.held.now.seen.ins.items
    (name_in (g.F.Fabric.kept c.args.held.now.fabric).place) in
    let into = c.loop-at.invariant.into in
    let b = c.loop-at.invariant.bound in
    let t = c.loop-at-test.false in
    record {
      before = λ i d less short. into.before i d (omega arith) short;
      after = λ i d more short. absurd (omega arith);
    }
