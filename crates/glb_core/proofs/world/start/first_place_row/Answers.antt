use Rattle.std.proofs.Common.{◌*◌, ap, ◌∙◌, refl, arith, length, get_or}
use Rattle.std.proofs.lemmas.List.{get_or-replicate, length-replicate}
use Rattle.rand_pcg.specs.Lcg.{started, increment_of}
use Rattle.rand_pcg.specs.Pcg.{multiplier_64}
use Rattle.glb_laws.proofs.Joins.{same}
use Rattle.glb_rules.specs.declared.kinds.Mark.TheVariants as mark
use Rattle.glb_core.specs.Tables.{mark_index}
use Rattle.glb_core.proofs.Tables.EdgeRows.{mark_below}
use Rattle.glb_core.proofs.Start.Made.{first_words, first_drawn}
use Rattle.glb_core.proofs.world.start.first_place_row.Goals as goal

pub returns : goal.returns
returns g c =
    let words = c.new-words.ensures
    ∙ ap (λ p. started 64 multiplier_64 c.args.params.now.seed (increment_of 64 p)) c.from.ensures in
    record {
      same_phase = refl;
      same_credit = refl;
      tries = c.tries_of.ensures;
      bag = same c.empty.ensures.items;
      many = ap length c.in_ok-marks.ensures ∙ length-replicate (c.args.params.now.places * 2) mark.Unseen
          ∙ omega arith;
      marks = λ k t l. ap (λ xs. get_or xs (mark_index c.args.params.now.places k t) mark.Unseen)
          c.in_ok-marks.ensures
          ∙ get_or-replicate (c.args.params.now.places * 2) (mark_index c.args.params.now.places k t)
          mark.Unseen mark.Unseen (omega (arith, mark_below c.args.params.now.places k t l));
      counters = refl;
      words = λ l. first_words c.args.params.now.seed c.args.place c.new-words.result
          c.first_victim-victim.new.words words (c.first_victim-victim.ensures.words l);
      victim = first_drawn c.args.params.now.seed c.args.params.now.places c.args.place
          c.first_victim-victim.result c.new-words.result c.first_victim-victim.new.words words
          c.first_victim-victim.ensures;
    }
