use Rattle.std.proofs.Common.{◌≡◌, ◌∙◌, ap, refl}
use Rattle.std.specs.Prelude.{map}
use Rattle.rand_pcg.specs.Lcg.{started, increment_of}
use Rattle.glb_rules.specs.Setups.{has_items}
use Rattle.glb_core.specs.Seen.{sight}
use Rattle.glb_core.proofs.Start.Made.{first_words, first_drawn}
use Rattle.glb_place.specs.inner.Seeing.{with_state, first_known}
use Rattle.glb_place.proofs.FirstFacts.{knows_first, first_holds, view_of}
use Rattle.glb_place.proofs.SpareFacts.{spare_of}
use Rattle.glb_place.proofs.first.first_holding.Goals as goal

pub returns-clause-stands : goal.returns-clause-stands
returns-clause-stands g c =
    let r = g.F.Fabric.kept c.args.fabric in
    let p = c.args.number in
    let params = c.args.params.now in
    let s = c.requires.seen in
    let drawn_by =
    c.new-words.ensures ∙ ap (λ q. started 64 _ params.seed (increment_of 64 q)) c.from.ensures in
    let awake : c.is_awake-awake.result ≡ has_items (g.B.Bag.items c.args.bag) =
    c.is_awake-awake.ensures in
    let outs =
    c.note_first.ensures ∙ (λ i. map (with_state (first_known (awake i))) (s i).outs) in
    let z : sight (record (c.args.seen) { outs = c.note_first.new.outs })
    ≡ view_of r p (has_items (g.B.Bag.items c.args.bag)) =
    λ i. record {
      ins = (s i).ins;
      outs = outs i;
      waited = (s i).waited;
      ended = (s i).ended;
      stop = (s i).stop;
    }
    in
    let a =
    knows_first g.B.Bag.items r c.args.bag c.first_victim-victim.result
    c.first_victim-victim.new.words c.requires.cube
    p params c.requires.first c.requires.limits c.requires.places c.requires.number
    (first_drawn params.seed params.places p c.first_victim-victim.result c.new-words.result
    c.first_victim-victim.new.words drawn_by c.first_victim-victim.ensures)
    (λ l. first_words params.seed p c.new-words.result c.first_victim-victim.new.words drawn_by
    (c.first_victim-victim.ensures.words l))
    in
    record {
      here = a.running.here;
      holds = first_holds g.B.Bag.items r c.args.bag c.first_victim-victim.result
          c.first_victim-victim.new.words
          c.requires.cube g.B.Bag.fits g.P.Program.value g.P.Value.Monoid.unit
          g.P.Value.Monoid.combine
          (g.F.Fabric.program c.args.fabric)
          c.unit.result _ p params c.requires.first c.unit.ensures refl
          c.requires.fits;
      spare = spare_of g.B.Bag.items r _ _ _ _ _ _ _ a;
      agrees = λ n. rw (
        z,
        c.phase_of.ensures,
        c.credit_of.ensures,
        c.tries_of.ensures,
        awake,
        c.len.ensures,
      ) a;
    }
