use Rattle.std.proofs.Common.{refl, inl}
use Rattle.std.specs.Prelude.{slice_index_or}
use Rattle.glb_rules.specs.declared.event.Event.TheVariants as event
use Rattle.glb_rules.specs.declared.kinds.Edge.TheVariants as seen
use Rattle.glb_rules.specs.declared.kinds.Kind.TheVariants as kind
use Rattle.glb_rules.specs.declared.kinds.Mark.TheVariants as mark
use Rattle.glb_rules.specs.declared.edges.InEdge.{InEdge}
use Rattle.glb_place.proofs.ActFacts.{named, free_of, free_poll, rests_poll, decides}
use Rattle.glb_place.proofs.play.go.Goals as goal

none : InEdge
none = record { thief = 0; kind = kind.Steal; mark = mark.Unseen; edge = seen.Idle }

pub look-requires-clause-may : goal.look-requires-clause-may
look-requires-clause-may g c = λ d.
    let x = slice_index_or c.args.held.now.seen.ins.items c.choose.new.first d in
    (named _ _ _ _ _ _ _ _ _ c.requires.agrees (λ p. event.Look p x.thief x.kind)
    c.args.held.now.state.place refl
    (decides _ _ _ _ _ _ _ _ _ c.requires.agrees _ (c.in-Looks.ensures.chooses.1 d))).0

pub look-requires-clause-not_minted : goal.look-requires-clause-not_minted
look-requires-clause-not_minted g c =
    free_of _ _ _ _ _ _ _ _ _ c.requires.agrees _
    (decides _ _ _ _ _ _ _ _ _ c.requires.agrees _ (c.in-Looks.ensures.chooses.1 none)) tt

pub act-requires-clause-decided : goal.act-requires-clause-decided
act-requires-clause-decided g c =
    decides _ _ _ _ _ _ _ _ _ c.requires.agrees _ c.in-Acts.ensures.chooses.0

pub poll-requires-clause-rests : goal.poll-requires-clause-rests
poll-requires-clause-rests g c =
    rests_poll _ _ _ _ _ _ _ _ _ c.requires.agrees
    (decides _ _ _ _ _ _ _ _ _ c.requires.agrees _ c.in-Polls.ensures.chooses)

pub poll-requires-clause-not_minted : goal.poll-requires-clause-not_minted
poll-requires-clause-not_minted g c =
    free_poll _ _ _ _ _ _ _ _ _ c.requires.agrees
    (decides _ _ _ _ _ _ _ _ _ c.requires.agrees _ c.in-Polls.ensures.chooses)

pub returns-in-Looks-clause-goes : goal.returns-in-Looks-clause-goes
returns-in-Looks-clause-goes g c = (
  _,
  decides _ _ _ _ _ _ _ _ _ c.requires.agrees _ (c.in-Looks.ensures.chooses.1 none),
  tt,
  inl (c.look.ensures.looked none),
)

pub returns-in-Acts-clause-goes : goal.returns-in-Acts-clause-goes
returns-in-Acts-clause-goes g c = (
  c.in-Acts.event,
  decides _ _ _ _ _ _ _ _ _ c.requires.agrees _ c.in-Acts.ensures.chooses.0,
  c.act.ensures.goes_on,
  c.act.ensures.acts,
)

pub returns-in-Polls-clause-goes : goal.returns-in-Polls-clause-goes
returns-in-Polls-clause-goes g c = (
  decides _ _ _ _ _ _ _ _ _ c.requires.agrees _ c.in-Polls.ensures.chooses,
  c.poll.ensures.learns,
)
