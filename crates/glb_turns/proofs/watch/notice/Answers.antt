use Rattle.std.proofs.Common.{◌≡◌, ◌∙◌, ◌<◌, ◌==◌, Bool, true, false, refl, sym, subst, ap, arith}
use Rattle.std.proofs.Common.{length}
use Rattle.std.proofs.Math.Bool.{beq}
use Rattle.glb_rules.specs.Events.{NamesBelow}
use Rattle.glb_rules.proofs.CallerLemmas.{other_below}
use Rattle.glb_core.proofs.CallerLemmas.{get_or-any}
use Rattle.glb_turns.specs.inner.Watches.{Follows, NotesLook}
use Rattle.glb_turns.proofs.WatchFacts.{watches_noticed, watches_forgotten, watches_looked}
use Rattle.glb_turns.proofs.watch.notice.Goals as goal

same_bits : (a b : Bool) → beq a b ≡ true → a ≡ b
same_bits true true e = refl
same_bits true false e = cc
same_bits false true e = cc
same_bits false false e = refl

pub forget-requires-in_default : goal.forget-requires-in_default
forget-requires-in_default g c =
    let below = other_below c.args.world.now.cube.places c.args.event c.requires.named in
    omega (arith, below, c.other_end.ensures, c.requires.many)

pub returns-in_default : goal.returns-in_default
returns-in_default g c = λ old all is_ended is_stop children f.
    let ended =
    ap (λ l. l == 0) (sym c.live.ensures.live)
    ∙ same_bits (c.live.result == 0) c.args.ended c.if-live-ended.true
    ∙ is_ended
    in
    let stop = sym c.stop.ensures.stop ∙ c.if-stop.true ∙ is_stop in
    let here : c.place.result < length c.args.watches.now =
    omega (arith, c.requires.named.0, c.place.ensures, c.requires.many)
    in
    let below = other_below c.args.world.now.cube.places c.args.event c.requires.named in
    let there : c.other_end.result < length c.args.watches.now =
    omega (arith, below, c.other_end.ensures, c.requires.many)
    in
    watches_noticed g.B.Bag.items children old c.args.world.now c.args.event f ended stop
    c.args.watches.now c.forget.new.watches c.forget-in_default.new.watches
    c.place.result c.other_end.result c.requires.many c.place.ensures
    c.other_end.ensures here there c.forget.ensures
    c.forget-in_default.ensures all

pub returns-else-live-ended : goal.returns-else-live-ended
returns-else-live-ended g c = λ old all is_ended is_stop children f.
    watches_forgotten g.B.Bag.items old c.args.world.now c.args.watches.now
    c.forget_all.new.watches f.cube c.forget_all.auto.watches c.forget_all.ensures all

pub returns-in-Look : goal.returns-in-Look
returns-in-Look g c = λ old all is_ended is_stop children f.
    let ended =
    ap (λ l. l == 0) (sym c.live.ensures.live)
    ∙ same_bits (c.live.result == 0) c.args.ended c.if-live-ended.true
    ∙ is_ended
    in
    let stop = sym c.stop.ensures.stop ∙ c.if-stop.true ∙ is_stop in
    let ws = c.args.watches.now in
    let q = c.in-Look.place in
    let new = c.note_look.new.watch in
    let named = subst (NamesBelow c.args.world.now.cube.places) c.in-Look.is c.requires.named in
    let within : q < length ws = omega (arith, named.0, c.requires.many) in
    watches_looked g.B.Bag.items children old c.args.world.now q c.in-Look.thief c.in-Look.kind
    (subst (λ e. Follows g.B.Bag.items children old e c.args.world.now) c.in-Look.is f) ended stop
    named.0 ws new c.requires.many
    (subst (λ z. NotesLook c.in-Look.thief c.in-Look.kind z new)
    (get_or-any ws q c.index-watches-place.result new within)
    c.note_look.ensures) all
