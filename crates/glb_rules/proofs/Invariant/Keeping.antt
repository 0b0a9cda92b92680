-- A step keeps the invariant if what it changes does.
use Rattle.std.proofs.Common.{◌≡◌, ◌≢◌, ℕ, ◌+◌, ◌<◌, ◌⊎◌, cond, sym, ap, ◌∙◌, inl, inr, ⊎_elim}
use Rattle.std.proofs.Common.{arith}
use Rattle.std.proofs.lemmas.Bool.{cases_eq}
use Rattle.glb_rules.specs.World.{Asked, Refused, Setup, World, WorldEdge, asked_count, busy_count}
use Rattle.glb_rules.specs.World.{has_line, idle_count, loot_count, units, credit_count}
use Rattle.glb_rules.specs.Effects.{Change}
use Rattle.glb_rules.specs.Steps.{Becomes, IsWanted}
use Rattle.glb_rules.specs.Lawful.{CanGive, Counted, Inner, IsLawful, Sums, ThiefSide, VictimSide}
use Rattle.glb_rules.specs.Lawful.{idle_lines_of, sum_of_own_edges}
use Rattle.glb_rules.proofs.Invariant.Frames.{across_change, name_cases, over_change, own_else}
use Rattle.glb_rules.proofs.Invariant.Frames.{own_kept, pick}
use Rattle.glb_rules.specs.declared.kinds.Kind.{Kind}
use Rattle.glb_rules.specs.declared.kinds.Kind.TheVariants as kind
use Rattle.glb_rules.specs.declared.kinds.Phase.TheVariants as phase
use Rattle.glb_rules.specs.declared.local.EdgeName.{EdgeName}

-- what changes in the sums, from part a to part b; k is the kind of the edge
pub record Balanced {I : Type 0} (k : Kind) (a b : Change I) : Type 0 where
  pub live : b.live + credit_count a.place.credit + loot_count a.edge ≡ a.live + credit_count b.place.credit + loot_count b.edge
  pub asks : b.place.count.asks + (a.place.count.denied + a.place.count.given) + pick kind.Steal k
      (asked_count a.edge) ≡ a.place.count.asks + (b.place.count.denied + b.place.count.given) + pick kind.Steal
      k (asked_count b.edge)
  pub given : b.place.count.given + a.place.count.got + pick kind.Steal k (loot_count a.edge) ≡
      a.place.count.given + b.place.count.got + pick kind.Steal k (loot_count b.edge)
  pub line_given : b.place.count.line_given + a.place.count.line_got + pick kind.Line k (loot_count a.edge) ≡
      a.place.count.line_given + b.place.count.line_got + pick kind.Line k (loot_count b.edge)
  pub units : b.place.count.sent_units + a.place.count.got_units + units a.edge ≡ a.place.count.sent_units
      + b.place.count.got_units + units b.edge

abbrev pub Wants : {I : Type 0} → Kind → WorldEdge I → Type 0
Wants k e = (e ≡ Asked) ⊎ ((k ≡ kind.Line) × (e ≡ Refused))

abbrev pub touched_at : {I : Type 0} → World I → ℕ → EdgeName → Change I
touched_at w p c = record
    { place = w.place p; edge = w.edge c.kind c.thief c.victim; live = w.live; stop = w.stop }

-- what an event owes
pub record Local {I : Type 0} (s : Setup) (old new : World I) (p : ℕ) (c : EdgeName) (b : Change I) : Type
    0 where
  pub inner : Inner s p b.place
  pub gone : b.place.phase ≡ phase.Gone → b.stop ≡ 0 → b.live ≡ 0
  pub quiet : b.stop ≡ 0 → (old.stop ≡ 0) × (old.live ≡ 0 → b.live ≡ 0)
  pub thief_else : (k : Kind) (v : ℕ) → v < s.places → (k ≢ c.kind) ⊎ (p ≢ c.thief) ⊎ (v ≢ c.victim)
      → ThiefSide s k p v b.place (old.edge k p v)
  pub thief_named : ThiefSide s c.kind c.thief c.victim (new.place c.thief) b.edge
  pub victim_else : (k : Kind) (t : ℕ) → t < s.places → (k ≢ c.kind) ⊎ (t ≢ c.thief)
      ⊎ (p ≢ c.victim)
      → VictimSide s k t p b.place (old.edge k t p)
  pub victim_named : VictimSide s c.kind c.thief c.victim (new.place c.victim) b.edge
  pub can_give : CanGive s new p
  pub wants : c.victim ≢ p → Wants c.kind (old.edge c.kind c.thief c.victim) → Wants c.kind b.edge
  pub counted : Counted s p b.place (sum_of_own_edges s new kind.Steal p busy_count) (sum_of_own_edges s new kind.Line p busy_count)
      (idle_lines_of s new p)
  pub counted_else : c.thief ≢ p
      → (busy_count b.edge ≡ busy_count (old.edge c.kind c.thief c.victim))
      × (idle_count b.edge ≡ idle_count (old.edge c.kind c.thief c.victim))
  pub balanced : Balanced c.kind (touched_at old p c) b

module _ {I : Type 0} (s : Setup) (old new : World I) (p : ℕ) (c : EdgeName) (b : Change I)
    (h : Becomes old new p c b)
    (pl : p < s.places) (tl : c.thief < s.places) (vl : c.victim < s.places) where
  abbrev free_weight : (q v : ℕ) → WorldEdge I → ℕ
  free_weight q v e = cond (has_line s q v) (idle_count e) 0

  -- q's own sums stay, if q is not the thief of the cell or the cell counts the same
  own_busy : (k : Kind) (q : ℕ) → (c.thief ≢ q)
      ⊎ (busy_count b.edge ≡ busy_count (old.edge c.kind c.thief c.victim))
      → sum_of_own_edges s new k q busy_count ≡ sum_of_own_edges s old k q busy_count
  own_busy k q d = ⊎_elim (λ n. own_else s old new p c b h (λ v. busy_count) k q (inr (λ e. n (sym e))))
      (λ e. own_kept s old new p c b h (λ v. busy_count) k q vl e) d

  own_free : (q : ℕ) → (c.thief ≢ q)
      ⊎ (idle_count b.edge ≡ idle_count (old.edge c.kind c.thief c.victim))
      → idle_lines_of s new q ≡ idle_lines_of s old q
  own_free q d = ⊎_elim
      (λ n. own_else s old new p c b h (free_weight q) kind.Line q (inr (λ e. n (sym e))))
      (λ e. own_kept s old new p c b h (free_weight q) kind.Line q vl
      (ap (λ x. cond (has_line s q c.victim) x 0) e)) d

  -- somebody still wants work of q
  pub wanted_kept : (q : ℕ)
      → ((c.victim ≡ q) → Wants c.kind (old.edge c.kind c.thief c.victim) → Wants c.kind b.edge)
      → IsWanted s old q → IsWanted s new q
  wanted_kept q d w = (
    w.0,
    w.1,
    w.2,
    w.3,
    ⊎_elim
        (λ same.
        let e : new.edge w.0 w.1 q ≡ b.edge = rw (same.0, same.1, same.2) h.edge in
        let o : Wants w.0 (old.edge w.0 w.1 q) = w.4 in
        let o' : Wants c.kind (old.edge c.kind c.thief c.victim) = rw (same.0, same.1, same.2) at o in
        let n : Wants c.kind b.edge = d (sym same.2) o' in
        let n' : Wants w.0 b.edge = rw same.0 n in
        rw e n')
        (λ other. rw (h.other_edges w.0 w.1 q other) w.4)
        (name_cases c w.0 w.1 q),
  )

  -- the two kinds together
  both : (k : Kind) (n : ℕ) → pick kind.Steal k n + pick kind.Line k n ≡ n
  both kind.Steal n = omega arith
  both kind.Line n = omega arith

  sums_kept : Sums s old → Balanced c.kind (touched_at old p c) b → Sums s new
  sums_kept S B =
      let e = old.edge c.kind c.thief c.victim in
      record {
        live =
            let a = across_change s old new p c b h (λ x. credit_count x.credit) pl in
            let o1 = over_change s old new p c b h loot_count kind.Steal tl vl in
            let o2 = over_change s old new p c b h loot_count kind.Line tl vl in
            let l = h.live in
            let s0 = S.live in
            let b0 = B.live in
            omega (arith, both c.kind (loot_count e), both c.kind (loot_count b.edge));
        asks =
            let a1 = across_change s old new p c b h (λ x. x.count.asks) pl in
            let a2 = across_change s old new p c b h (λ x. x.count.denied + x.count.given) pl in
            let o1 = over_change s old new p c b h asked_count kind.Steal tl vl in
            let s0 = S.asks in
            let b0 = B.asks in
            omega arith;
        given =
            let a1 = across_change s old new p c b h (λ x. x.count.given) pl in
            let a2 = across_change s old new p c b h (λ x. x.count.got) pl in
            let o1 = over_change s old new p c b h loot_count kind.Steal tl vl in
            let s0 = S.given in
            let b0 = B.given in
            omega arith;
        line_given =
            let a1 = across_change s old new p c b h (λ x. x.count.line_given) pl in
            let a2 = across_change s old new p c b h (λ x. x.count.line_got) pl in
            let o1 = over_change s old new p c b h loot_count kind.Line tl vl in
            let s0 = S.line_given in
            let b0 = B.line_given in
            omega arith;
        units =
            let a1 = across_change s old new p c b h (λ x. x.count.sent_units) pl in
            let a2 = across_change s old new p c b h (λ x. x.count.got_units) pl in
            let o1 = over_change s old new p c b h units kind.Steal tl vl in
            let o2 = over_change s old new p c b h units kind.Line tl vl in
            let s0 = S.units in
            let b0 = B.units in
            omega (arith, both c.kind (units e), both c.kind (units b.edge));
      }

  pub keeps : IsLawful s old → Local s old new p c b → IsLawful s new
  keeps L l = record {
    inner = λ q m. ⊎_elim (λ (e : q ≡ p). rw (e, h.place) l.inner)
        (λ d. rw (h.other_places q d) (L.inner q m)) (cases_eq q p);
    gone = λ q m. ⊎_elim
        (λ (e : q ≡ p). rw (e, h.place, h.stop, h.live) l.gone)
        (λ d. rw (h.other_places q d, h.stop, h.live) (λ g z. (l.quiet z).1 (L.gone q m g (l.quiet z).0)))
        (cases_eq q p);
    thief = λ k t v m n. ⊎_elim
        (λ same. rw (same.0, same.1, same.2, h.edge) l.thief_named)
        (λ other. ⊎_elim
        (λ (e : t ≡ p). rw (h.other_edges k t v other)
        (rw e (rw h.place (l.thief_else k v n (rw e at other)))))
        (λ d. rw (h.other_places t d, h.other_edges k t v other) (L.thief k t v m n))
        (cases_eq t p))
        (name_cases c k t v);
    victim = λ k t v m n. ⊎_elim
        (λ same. rw (same.0, same.1, same.2, h.edge) l.victim_named)
        (λ other. ⊎_elim
        (λ (e : v ≡ p). rw (h.other_edges k t v other)
        (rw e (rw h.place (l.victim_else k t m (rw e at other)))))
        (λ d. rw (h.other_places v d, h.other_edges k t v other) (L.victim k t v m n))
        (cases_eq v p))
        (name_cases c k t v);
    can_give = λ q m. ⊎_elim
        (λ (e : q ≡ p). rw e l.can_give)
        (λ d. rw (h.other_places q d)
        (λ a g. (
          (L.can_give q m a g).0,
          wanted_kept q (λ e. l.wants (λ x. d (sym e ∙ x))) (L.can_give q m a g).1,
        )))
        (cases_eq q p);
    counted = λ q m. ⊎_elim
        (λ (e : q ≡ p). rw (e, h.place) l.counted)
        (λ d.
        let z : (c.thief ≢ q)
        ⊎ (c.thief ≢ p) = ⊎_elim (λ x. inr (λ y. d (sym x ∙ y))) (λ x. inl x) (cases_eq c.thief q) in
        rw (
          h.other_places q d,
          own_busy kind.Steal q (⊎_elim (λ x. inl x) (λ x. inr (l.counted_else x).0) z),
          own_busy kind.Line q (⊎_elim (λ x. inl x) (λ x. inr (l.counted_else x).0) z),
          own_free q (⊎_elim (λ x. inl x) (λ x. inr (l.counted_else x).1) z),
        ) (L.counted q m))
        (cases_eq q p);
    sums = sums_kept L.sums l.balanced;
  }
