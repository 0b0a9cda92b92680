-- What a place's record knows of an event's condition, the world that is shown has.
use Rattle.std.proofs.Common.{◌≡◌, ◌≢◌, ℕ, ◌<◌, ◌⊎◌, Bool, true, false, refl, sym, ap, ◌∙◌, subst, inl, inr, ⊎_elim, arith}
use mathlib.Core.Option.{some}
use lib.ListN.{get_elem?}
use Rattle.glb_rules.specs.World.{World, WorldEdge, Setup, Idle, Asked, Refused, IsArmed, has_edge, has_line}
use Rattle.glb_rules.specs.Events.{actor, IsInRange, IsThere}
use Rattle.glb_rules.specs.Steps.{IsAble, AllClear, IsWanted}
use Rattle.glb_rules.specs.declared.local.Local.{Local}
use Rattle.glb_rules.specs.declared.event.Event.{Event}
use Rattle.glb_rules.specs.declared.event.Event.TheVariants as event
use Rattle.glb_rules.specs.declared.kinds.Kind.{Kind}
use Rattle.glb_rules.specs.declared.kinds.Kind.TheVariants as kind
use Rattle.glb_rules.specs.declared.kinds.Edge.{Edge}
use Rattle.glb_rules.specs.declared.kinds.Edge.TheVariants as seen
use Rattle.glb_place.specs.declared.record.Record.{Record}
use Rattle.glb_place.specs.Records.{known_at, edge_like, world_in, May}
use Rattle.glb_cells.specs.declared.view.View.{View}
use Rattle.glb_cells.specs.Words.{Cell, cell_state, edge_of, Out, In}
use Rattle.glb_cells.specs.Shows.{part_of, plain, Fixed, shown, Apt, Told, Shows, Table}
use Rattle.glb_cells.proofs.StepLemmas.ListFacts.{matched}
use Rattle.glb_cells.proofs.StepLemmas.Shown.{shown_edge}
use Rattle.glb_cells.proofs.StepLemmas.Reading.{is_asked, is_refused, refused_reads, in_held, idle_edge, loot_edge, armed_edge, is_idle_in, is_asked_in, is_refused_in, is_loot_in}

abbrev pub NoShrug : Event → Type 0
NoShrug (event.Shrug q v k) = ⊥
NoShrug _ = Unit {0}

-- the condition as the record sees it, over these lifelines
pub record Mine {I : Type 0} (s : Setup) (r : Record I) (ev : Event) : Type 0 where
  pub by : actor ev ≡ r.place
  pub within : IsInRange s ev
  pub able : IsAble s (world_in r) r.local ev

plain_able : {I : Type 0} (s : Setup) (w : World I) (a : Local I) (ev : Event)
    → IsAble (plain s) w a ev → IsAble s w a ev
unfolding has_line
plain_able s w a (event.Look q t k) o = by k o
  where
    by : (k : Kind) → IsAble (plain s) w a (event.Look q t k) → IsAble s w a (event.Look q t k)
    by kind.Steal o = o
    by kind.Line o = o
plain_able s w a (event.Batch p) o = (o.0, o.1, clear, o.3)
  where
    clear : AllClear s p a
    clear kind.Steal t l there = o.2 kind.Steal t l there
    clear kind.Line t l there = o.2 kind.Line t l there
plain_able s w a (event.Ask p v kind.Steal) o = o
plain_able s w a (event.Ask p v kind.Line) o = o
plain_able s w a (event.Deny q t k) o = o
plain_able s w a (event.Mint q) o = (o.0, o.1, o.2, wanted o.3)
  where
    wanted : IsWanted (plain s) w q → IsWanted s w q
    wanted (kind.Steal, t, l, y, z) = (kind.Steal, t, l, y, z)
    wanted (kind.Line, t, l, y, z) = (kind.Line, t, l, y, z)
plain_able s w a (event.Give q t k) o = o
plain_able s w a (event.Take p v k) o = o
plain_able s w a (event.Burn p) o = o
plain_able s w a (event.Shrug p v k) o = o
plain_able s w a (event.Sleep p) o = o
plain_able s w a (event.Leave p) o = o
plain_able s w a (event.Halt p c) o = o

module _ {B Q I : Type 0} (Γ : Fixed B Q I) where
  pub mine_of : (r : View Q I) → Told Γ r → (ev : Event) → May r.own ev → Mine Γ.lines r.own ev
  mine_of r t ev m = record {
    by = m.0;
    within = subst (λ s. IsInRange s ev) t.lines m.1;
    able = plain_able Γ.lines (world_in r.own) r.own.local ev
        (subst (λ s. IsAble s (world_in r.own) r.own.local ev) t.lines m.2);
  }

module _ {B Q I : Type 0} (Γ : Fixed B Q I) (s : Table Γ) (h : Shows Γ s) (r : View Q I)
    (here : get_elem? h.recs r.own.place ≡ some r) where
  abbrev w : World I
  w = shown Γ h.live h.stop h.cells h.recs

  apt : Apt Γ h.live h.stop h.cells r.own.place r
  apt = h.apt r.own.place r here

  thief_edge : (k : Kind) (q v : ℕ) → q ≡ r.own.place → q < Γ.lines.places → v < Γ.lines.places
      → has_edge Γ.lines k q v ≡ true
      → (c : Cell B) × (w.edge k q v ≡ edge_of Γ.items c)
      × Out k (known_at r.own.known k q v) (cell_state c)
  thief_edge k q v e l m there =
      let i = h.grounded.named.all k q v l m there in
      let c = matched Γ.names h.cells i.0 (record { kind = k; thief = q; victim = v }) (sym h.wide)
      i.1 in (
        c.0,
        shown_edge Γ h.grounded.named.once h.live h.stop h.cells h.recs i.0
            (record { kind = k; thief = q; victim = v }) c.0 i.1 c.1,
        (apt.each i.0 (record { kind = k; thief = q; victim = v }) c.0 i.1 c.1).out e,
      )

  victim_edge : (k : Kind) (t q : ℕ) → q ≡ r.own.place → t < Γ.lines.places → q < Γ.lines.places
      → has_edge Γ.lines k t q ≡ true
      → (c : Cell B) × (w.edge k t q ≡ edge_of Γ.items c)
      × In k (known_at r.own.known k t q) (cell_state c)
  victim_edge k t q e l m there =
      let i = h.grounded.named.all k t q l m there in
      let c = matched Γ.names h.cells i.0 (record { kind = k; thief = t; victim = q }) (sym h.wide)
      i.1 in (
        c.0,
        shown_edge Γ h.grounded.named.once h.live h.stop h.cells h.recs i.0
            (record { kind = k; thief = t; victim = q }) c.0 i.1 c.1,
        (apt.each i.0 (record { kind = k; thief = t; victim = q }) c.0 i.1 c.1).inward e,
      )

  asked_here : (k : Kind) (t q : ℕ) → q ≡ r.own.place → t < Γ.lines.places → q < Γ.lines.places
      → has_edge Γ.lines k t q ≡ true → edge_like {I = I} (known_at r.own.known k t q) ≡ Asked
      → w.edge k t q ≡ Asked
  asked_here k t q e l m there a =
      let x = victim_edge k t q e l m there in
      x.1 ∙ is_asked Γ.items x.0 (subst (λ z. In k z (cell_state x.0))
      (is_asked_in (known_at r.own.known k t q) a) x.2)

  wanted_here : (k : Kind) (t q : ℕ) → q ≡ r.own.place → t < Γ.lines.places → q < Γ.lines.places
      → has_edge Γ.lines k t q ≡ true
      → (edge_like {I = I} (known_at r.own.known k t q) ≡ Asked)
      ⊎ ((k ≡ kind.Line) × (edge_like {I = I} (known_at r.own.known k t q) ≡ Refused))
      → (w.edge k t q ≡ Asked) ⊎ ((k ≡ kind.Line) × (w.edge k t q ≡ Refused))
  wanted_here k t q e l m there a = ⊎_elim
      (λ (y : edge_like {I = I} (known_at r.own.known k t q) ≡ Asked). inl
      (asked_here k t q e l m there y))
      (λ (y : (k ≡ kind.Line) × (edge_like {I = I} (known_at r.own.known k t q) ≡ Refused)). let x =
      victim_edge k t q e l m there in
      inr (
        y.0,
        x.1 ∙ is_refused Γ.items x.0
            (subst (λ (z : Kind × Edge). In z.0 z.1 (cell_state x.0))
            (λ i. (y.0 i, is_refused_in (known_at r.own.known k t q) y.1 i)) x.2),
      ))
      a

  idle_here : (k : Kind) (q v : ℕ) → q ≡ r.own.place → q < Γ.lines.places → v < Γ.lines.places
      → has_edge Γ.lines k q v ≡ true → edge_like {I = I} (known_at r.own.known k q v) ≡ Idle
      → w.edge k q v ≡ Idle
  idle_here k q v e l m there a =
      let x = thief_edge k q v e l m there in
      x.1 ∙ idle_edge Γ.items x.0 (subst (λ z. Out k z (cell_state x.0))
      (is_idle_in (known_at r.own.known k q v) a) x.2)

  -- each event but Shrug, which looks at the word first
  pub owned : (ev : Event) → NoShrug ev → IsThere Γ.lines ev → Mine Γ.lines r.own ev
      → IsAble Γ.lines w (part_of r) ev
  owned (event.Look q t k) d there o = o.able
  owned (event.Batch q) d there o = (
    o.able.0,
    o.able.1,
    o.able.2,
    λ two t l there refused.
        let x = victim_edge kind.Line t q o.by l o.within.0 there in
        let y : known_at r.own.known kind.Line t q ≡ seen.Refused =
        in_held (known_at r.own.known kind.Line t q)
        (subst (λ z. In kind.Line (known_at r.own.known kind.Line t q) z)
        (refused_reads Γ.items x.0 (sym x.1 ∙ refused)) x.2) in
        o.able.3 two t l there (ap (λ z. edge_like {I = I} z) y),
  )
  owned (event.Ask q v kind.Steal) d there o = (
    o.able.0,
    o.able.1,
    o.able.2,
    idle_here kind.Steal q v o.by o.within.0 o.within.2 o.able.2
        o.able.3,
  )
  owned (event.Ask q v kind.Line) d there o = (
    o.able.0,
    o.able.1,
    o.able.2,
    idle_here kind.Line q v
        o.by o.within.0 o.within.2 o.able.2 o.able.3,
  )
  owned (event.Deny q t k) d there o = (
    asked_here k t q o.by o.within.1 o.within.0 there o.able.0,
    o.able.1,
    o.able.2,
  )
  owned (event.Mint q) d there o = (
    o.able.0,
    o.able.1,
    o.able.2,
    (
      o.able.3.0,
      o.able.3.1,
      o.able.3.2,
      o.able.3.3,
      wanted_here o.able.3.0 o.able.3.1 q o.by
          o.able.3.2 o.within.0 o.able.3.3 o.able.3.4,
    ),
  )
  owned (event.Give q t k) d there o = (
    o.able.0,
    o.able.1,
    wanted_here k t q o.by o.within.1
        o.within.0 there o.able.2,
  )
  owned (event.Take q v k) d there o =
      let x = thief_edge k q v o.by o.within.0 o.within.2 there in
      let l = loot_edge Γ.items x.0 (subst (λ z. Out k z (cell_state x.0))
      (is_loot_in (known_at r.own.known k q v) o.able.0.0 o.able.0.1) x.2) in
      ((l.0, x.1 ∙ l.1), o.able.1)
  owned (event.Burn q) d there o = o.able
  owned (event.Shrug q v k) d there o = absurd d
  owned (event.Sleep q) d there o = (
    o.able.0,
    o.able.1,
    λ v l line. let x =
        thief_edge kind.Line q v o.by o.within.0 l line in
        subst (λ (y : WorldEdge I). IsArmed y) (sym x.1)
        (armed_edge Γ.items (known_at r.own.known kind.Line q v) x.0 (o.able.2 v l line) x.2),
  )
  owned (event.Leave q) d there o = (
    o.able.0,
    ⊎_elim
        (λ (e : (world_in r.own).live ≡ 0). inl (apt.numbers.over (is_over r.own.over e)))
        (λ (e : (world_in r.own).stop ≢ 0). inr (λ z. let c = apt.numbers.code in e (omega arith)))
        o.able.1,
  )
    where
      is_over : (b : Bool) → (world_in (record r.own { over = b })).live ≡ 0 → b ≡ true
      is_over true e = refl
      is_over false e = absurd (omega arith)
  owned (event.Halt q c) d there o = o.able

-- what the condition says of the edge as known
module _ {I : Type 0} (s : Setup) (r : Record I) where
  pub known_idle : (k : Kind) (t v : ℕ) → Mine s r (event.Ask t v k)
      → known_at r.known k t v ≡ seen.Idle
  known_idle kind.Steal t v o = is_idle_in {I = I} (known_at r.known kind.Steal t v) o.able.3
  known_idle kind.Line t v o = is_idle_in {I = I} (known_at r.known kind.Line t v) o.able.3

  pub known_asked : (k : Kind) (t q : ℕ) → Mine s r (event.Deny q t k)
      → known_at r.known k t q ≡ seen.Asked
  known_asked k t q o = is_asked_in {I = I} (known_at r.known k t q) o.able.0

  pub known_loot : (k : Kind) (q v : ℕ) → Mine s r (event.Take q v k)
      → known_at r.known k q v ≡ seen.Loot
  known_loot k q v o = is_loot_in {I = I} (known_at r.known k q v) o.able.0.0 o.able.0.1

  pub known_refused : (k : Kind) (t v : ℕ) → Mine s r (event.Shrug t v k)
      → known_at r.known k t v ≡ seen.Refused
  known_refused k t v o = is_refused_in {I = I} (known_at r.known k t v) o.able.1

  -- a request to be served: asked for, or a line that is remembered
  pub known_wanted : (k : Kind) (t q : ℕ) → Mine s r (event.Give q t k)
      → (known_at r.known k t q ≡ seen.Asked) ⊎ ((k ≡ kind.Line)
      × (known_at r.known k t q ≡ seen.Refused))
  known_wanted k t q o = ⊎_elim
      (λ (y : edge_like {I = I} (known_at r.known k t q) ≡ Asked). inl
      (is_asked_in (known_at r.known k t q) y))
      (λ (y : (k ≡ kind.Line) × (edge_like {I = I} (known_at r.known k t q) ≡ Refused)). inr
      (y.0, is_refused_in (known_at r.known k t q) y.1))
      o.able.2
