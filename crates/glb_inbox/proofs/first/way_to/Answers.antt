use Rattle.std.proofs.Common.{◌∙◌}
use Rattle.glb_inbox.specs.inner.Posted.{tie}
use Rattle.glb_inbox.proofs.WayLemmas.{ways_put}
use Rattle.glb_inbox.proofs.first.way_to.Goals as goal

pub another-requires : goal.another-requires
another-requires g c =
    let w = c.args.words.now in
    record {
      tied = (
        tie w.key.program.value w.table_id,
        c.index_mut.ensures.value
            ∙ c.requires.inboxes.tied c.args.place c.index_mut.result.now c.requires.near,
      );
    }

pub returns-clause-inboxes : goal.returns-clause-inboxes
returns-clause-inboxes g c =
    ways_put c.args.words.now.key.lines.value.places c.args.inboxes.now.items c.requires.inboxes
    c.args.place c.another.new.self
    (c.another.ensures.same ∙ c.index_mut.ensures.value ∙ c.requires.inboxes.tied c.args.place
    c.index_mut.result.now c.requires.near)
