use Rattle.std.proofs.Common.{◌≡◌, ◌≢◌, ◌⊎◌, ⊎_elim, ◌∙◌, ℕ, ap, subst, sym, length, refl}
use Rattle.glb_rules.specs.Events.{name_of}
use Rattle.glb_core.specs.Seen.{sight}
use Rattle.glb_rules.specs.declared.kinds.Kind.{Kind}
use Rattle.glb_rules.specs.declared.kinds.Kind.TheVariants as kind
use Rattle.glb_rules.specs.declared.kinds.Phase.{Phase}
use Rattle.glb_rules.specs.declared.kinds.Phase.TheVariants as phase
use Rattle.glb_rules.specs.declared.local.EdgeName.{EdgeName}
use Rattle.glb_rules.specs.declared.place_state.PlaceState.{PlaceState}
use Rattle.glb_place.specs.declared.record.Record.{Record}
use Rattle.glb_place.specs.Looks.{LooksAt, raised}
use Rattle.glb_place.specs.inner.Polling.{LookedInto, out_names}
use Rattle.glb_place.proofs.Finding.{learns_on}
use Rattle.glb_place.proofs.LookFacts.{looks_around, look_else, index_of, out_named}
use Rattle.glb_place.proofs.ThiefFacts.{waiting_on}
use Rattle.glb_place.proofs.VictimFacts.{other_thief}
use Rattle.glb_place.proofs.poll.poll.Goals as goal

pub returns-in-Waiting-clause-looks : goal.returns-in-Waiting-clause-looks
returns-in-Waiting-clause-looks g c =
    let r = g.F.Fabric.kept c.args.held.now.fabric in
    let A = c.requires.agrees in
    let e = c.poll_ins.ensures in
    let old = g.F.Fabric.looks c.args.held.now.fabric in
    let mid = g.F.Fabric.looks c.poll_ins.new.held.fabric in
    let new = g.F.Fabric.looks c.poll_waited.new.held.fabric in
    let v = c.in-Waiting.victim in
    let k = c.in-Waiting.kind in
    let now : r.local.phase ≡ phase.Waiting v k =
    sym (ap (λ (b : PlaceState). b.phase) e.agrees.is
    ∙ ap (λ (x : Record _). x.local.phase) e.learns.rest) ∙ c.in-Waiting.is
    in
    let at : LooksAt (name_of k r.place v) mid new =
    subst (λ (x : Record _). LooksAt (name_of k x.place v) mid new)
    e.learns.rest c.poll_waited.ensures.looks
    in
    looks_around r old mid new
    (other_thief r (sight c.args.held.now.seen) c.args.held.now.first A.tells A.running)
    e.all e.outs
    (λ n other. look_else (name_of k r.place v) n mid new at
    (λ (h : n ≡ name_of k r.place v). other (ap (λ (m : EdgeName). m.thief) h)))
    (waiting_on (λ u j. new.edge (name_of j r.place u) ≡ raised (mid.edge (name_of j r.place u)))
    r.local.phase v k now
    at.edge)
    (λ u s l h. absurd (let d : phase.Asleep ≡ phase.Waiting v k = sym s ∙ now in cc))

pub returns-in-Asleep-clause-looks : goal.returns-in-Asleep-clause-looks
returns-in-Asleep-clause-looks g c =
    let r = g.F.Fabric.kept c.args.held.now.fabric in
    let A = c.requires.agrees in
    let e = c.poll_ins.ensures in
    let o = c.poll_outs.ensures in
    let old = g.F.Fabric.looks c.args.held.now.fabric in
    let mid = g.F.Fabric.looks c.poll_ins.new.held.fabric in
    let new = g.F.Fabric.looks c.poll_outs.new.held.fabric in
    let now : r.local.phase ≡ phase.Asleep =
    sym (ap (λ (b : PlaceState). b.phase) e.agrees.is
    ∙ ap (λ (x : Record _). x.local.phase) e.learns.rest) ∙ c.in-Asleep.is
    in
    let all : LookedInto (out_names r.lines r.place) (length (out_names r.lines r.place)) mid new =
    subst (λ (x : Record _). LookedInto (out_names x.lines x.place)
    (length (out_names x.lines x.place)) mid new)
    e.learns.rest o.all
    in
    let same : (g.F.Fabric.kept c.poll_ins.new.held.fabric).place ≡ r.place =
    ap (λ (x : Record _). x.place) e.learns.rest in
    looks_around r old mid new
    (other_thief r (sight c.args.held.now.seen) c.args.held.now.first A.tells A.running)
    e.all e.outs
    (λ n other. o.ins n (λ h. other (h ∙ same)))
    (λ v k s. absurd (let d : phase.Asleep ≡ phase.Waiting v k = sym now ∙ s in cc))
    (λ v s l h.
    let n = index_of (out_names r.lines r.place) (name_of kind.Line r.place v)
    (out_named r v A.running.within h) in
    subst (λ m. new.edge m ≡ raised (mid.edge m)) (n.2 (name_of kind.Line r.place v))
    (all.before n.0 (name_of kind.Line r.place v) n.1 n.1))

never_waits : (f h : Phase) → h ≡ f → (h ≡ phase.Working) ⊎ (h ≡ phase.Idle) ⊎ (h ≡ phase.Gone)
    → (f ≢ phase.Asleep) × ((v : ℕ) (k : Kind) → f ≢ phase.Waiting v k)
never_waits f h e d = subst (λ y. (y ≢ phase.Asleep)
    × ((v : ℕ) (k : Kind) → y ≢ phase.Waiting v k)) e (⊎_elim
    (λ w. rw w (λ x. cc, λ v k x. cc))
    (λ y. ⊎_elim (λ w. rw w (λ x. cc, λ v k x. cc)) (λ w. rw w (λ x. cc, λ v k x. cc)) y) d)

pub returns-in-Working : goal.returns-in-Working
returns-in-Working g c =
    let r = g.F.Fabric.kept c.args.held.now.fabric in
    let A = c.requires.agrees in
    let e = c.poll_ins.ensures in
    let old = g.F.Fabric.looks c.args.held.now.fabric in
    let mid = g.F.Fabric.looks c.poll_ins.new.held.fabric in
    let same : c.poll_ins.new.held.state.phase ≡ r.local.phase =
    ap (λ (b : PlaceState). b.phase) e.agrees.is ∙ ap (λ (x : Record _). x.local.phase) e.learns.rest
    in
    let never = never_waits r.local.phase c.poll_ins.new.held.state.phase same c.in-Working.is in
    record {
      holds = e.holds;
      agrees = e.agrees;
      learns = e.learns;
      looks = looks_around r old mid mid
          (other_thief r (sight c.args.held.now.seen) c.args.held.now.first A.tells A.running)
          e.all e.outs
          (λ n other. refl) (λ v k s. absurd (never.1 v k s)) (λ v s l h. absurd (never.0 s));
      home = e.home;
      counts = e.counts;
    }

pub returns-in-Waiting-clause-learns : goal.returns-in-Waiting-clause-learns
returns-in-Waiting-clause-learns g c =
    learns_on _ _ _ c.poll_ins.ensures.learns c.poll_waited.ensures.learns

pub returns-in-Asleep-clause-learns : goal.returns-in-Asleep-clause-learns
returns-in-Asleep-clause-learns g c =
    learns_on _ _ _ c.poll_ins.ensures.learns c.poll_outs.ensures.learns
