-- Ask, Look and Deny.
use Rattle.std.proofs.Common.{◌≡◌, ℕ, ◌+◌, [], ◌∷◌, map, set, None, Bool, true, false, cond, refl, sym, ap, ◌∙◌, subst}
use Rattle.std.specs.Prelude.{slice_index, ◌&&◌}
use mathlib.Core.Option.{some}
use mathlib.Core.Option as maybe
use lib.ListN.{get_elem?}
use Rattle.atomic_table.specs.Table.{keeps, Allows, step}
use Rattle.atomic_table.proofs.Lists.{set_again}
use Rattle.glb_rules.specs.World.{mark_at}
use Rattle.glb_rules.specs.Effects.{place_after}
use Rattle.glb_rules.specs.Steps.{Step}
use Rattle.glb_rules.specs.Decision.{is_mark}
use Rattle.glb_rules.specs.declared.local.EdgeName.{EdgeName}
use Rattle.glb_rules.specs.declared.event.Event.TheVariants as event
use Rattle.glb_rules.specs.declared.kinds.Edge.TheVariants as seen
use Rattle.glb_rules.specs.declared.kinds.Mark.{Mark}
use Rattle.glb_rules.specs.declared.kinds.Mark.TheVariants as mark
use Rattle.glb_rules.specs.declared.kinds.Phase.{Phase}
use Rattle.glb_rules.specs.declared.kinds.Phase.TheVariants as phase
use Rattle.glb_place.specs.Records.{knows, May}
use Rattle.glb_place.specs.Rows.{known_row}
use Rattle.glb_place.specs.Calls.{is_working}
use Rattle.glb_cells.specs.Follows.{is_event}
use Rattle.glb_cells.specs.declared.view.View.{View}
use Rattle.glb_cells.specs.Words.{Cell, empty, wanted, denied, word_of, slot_of, cell_state, Out, In, read}
use Rattle.glb_cells.specs.Shows.{part_of, Fixed, total, items_of, Apt, AptAt, Shows, Table, world_of}
use Rattle.glb_cells.specs.Plays.{after_step, marked_at, asked_on, denied_on, looked_on, learnt_on, Asks, Denies, Looks, Learns, slots_of}
use Rattle.glb_cells.proofs.StepLemmas.ListFacts.{matched, map_same}
use Rattle.glb_cells.proofs.StepLemmas.Keeps.{Turn, edge_goes, edge_stays}
use Rattle.glb_cells.proofs.StepLemmas.Reading.{word_at, none_some, read_face, state_reads, is_empty, in_asked, in_self, in_finds, out_finds, out_self, out_refused, still, newly, seen_here}
use Rattle.glb_cells.proofs.StepLemmas.Owning.{Mine, mine_of, owned, known_idle, known_asked}
use Rattle.glb_cells.proofs.StepLemmas.Standing.{is_stood}

-- the one or the other
abbrev pub Either : Bool → Type 0 → Type 0 → Type 0
Either true X Y = X
Either false X Y = Y

both_true : (a b : Bool) → (a && b) ≡ true → (a ≡ true) × (b ≡ true)
both_true true b e = (refl, e)
both_true false b e = absurd (cc)

works : (p : Phase) → is_working p ≡ true → p ≡ phase.Working
works phase.Working e = refl
works phase.Idle e = absurd (cc)
works (phase.Waiting v k) e = absurd (cc)
works phase.Asleep e = absurd (cc)
works phase.Gone e = absurd (cc)

unseen : (m : Mark) → is_mark mark.Unseen m ≡ true → m ≡ mark.Unseen
unseen mark.Unseen e = refl
unseen mark.Clear e = absurd (cc)
unseen mark.Pending e = absurd (cc)

module _ {B Q I : Type 0} (Γ : Fixed B Q I) (s : Table Γ) (h : Shows Γ s) (id e : ℕ) (n : EdgeName)
    (r : View Q I)
    (at : get_elem? s.views id ≡ some (r ∷ [])) (name : get_elem? Γ.names e ≡ some n) where
  here : get_elem? h.recs r.own.place ≡ some r
  here = h.seats id (r ∷ []) 0 r at refl

  -- the table after a step of the edge that leaves all slots
  abbrev pub edge_set : ℕ → View Q I → Table Γ
  edge_set k r' = record {
    words = set s.words (e + 3) k;
    homes = s.homes;
    views =
        set s.views id (r' ∷ []);
  }

  -- the event Ask
  pub ask_goes : r.hand ≡ None → May r.own (event.Ask n.thief n.victim n.kind)
      → (slice_index s.words (e + 3) ≡ 0)
      × ((k : Shows Γ (edge_set 1 (asked_on n 0 r)))
      × Step (Γ.children Γ.program) Γ.lines (world_of Γ s h) (event.Ask n.thief n.victim n.kind)
      (world_of Γ (edge_set 1 (asked_on n 0 r)) k))
  ask_goes free may =
      let a : Apt Γ h.live h.stop h.cells r.own.place r = h.apt r.own.place r here in
      let o : Mine Γ.lines r.own (event.Ask n.thief n.victim n.kind) =
      mine_of Γ r a.told (event.Ask n.thief n.victim n.kind) may in
      let m = matched Γ.names h.cells e n (sym h.wide) name in
      let ae : AptAt Γ r.own.place r e n m.0 = a.each e n m.0 name m.1 in
      let is : empty ≡ m.0 = is_empty r.own.place n m.0
      (subst (λ z. Out n.kind z (cell_state m.0))
      (known_idle Γ.lines r.own n.kind n.thief n.victim o) (ae.out o.by))
      (λ x. let y = ae.busy x in none_some r.hand (e, y.0) free y.1) o.by in
      let was : get_elem? h.cells e ≡ some empty = m.1 ∙ ap some (sym is) in
      let k : slice_index s.words (e + 3) ≡ 0 =
      word_at s.words h.live (total items_of h.recs) h.stop h.cells e empty h.words was in
      let r' : View Q I = asked_on n 0 r in
      let T : Turn Γ s h r r' e n empty wanted = record {
        steady = record {
          place = refl;
          told =
              λ t. record { program = t.program; lines = t.lines; limit = t.limit };
          items =
              refl;
          last = refl;
          over = refl;
          code = refl;
          steps = refl;
        };
        name = name;
        was = was;
        fit = tt;
        others = λ q u apart x. record {
          out = λ t. absurd (apart (sym t ∙ o.by));
          inward = λ t. in_asked n.kind (knows u.own n) (x.inward t);
          busy = λ y. absurd y;
          at_it = λ ys y. x.at_it ys y;
        };
        mine = still Γ h.grounded.named.once r.own.place r r' e n seen.Asked name refl refl;
        here = λ x. record {
          out = λ t. subst (λ z. Out n.kind z seen.Asked) (newly Γ r r' n seen.Asked refl)
              (λ z. cc);
          inward = λ t. subst (λ z. In n.kind z seen.Asked) (newly Γ r r' n seen.Asked refl) refl;
          busy = λ y. absurd y;
          at_it = λ ys y. absurd (none_some r.hand (e, ys) free y);
        };
        holds = λ x. λ j ys y. absurd (none_some r.hand (j, ys) free y);
      } in
      let there = (h.grounded.named.there e n name).2 in (
        k,
        edge_goes Γ s h id r r' at e n empty wanted T (event.Ask n.thief n.victim n.kind) refl
            o.by o.within (owned Γ s h r here (event.Ask n.thief n.victim n.kind) tt there o) refl
            refl [] [] tt refl refl
            s.homes (h.homes ∙ sym (map_same slot_of h.cells e empty wanted was refl)),
      )

  -- the event Deny
  pub deny_goes : r.hand ≡ None → May r.own (event.Deny n.victim n.thief n.kind)
      → (slice_index s.words (e + 3) ≡ 1)
      × ((k : Shows Γ (edge_set 2 (denied_on n 1 r)))
      × Step (Γ.children Γ.program) Γ.lines (world_of Γ s h)
      (event.Deny n.victim n.thief n.kind) (world_of Γ (edge_set 2 (denied_on n 1 r)) k))
  deny_goes free may =
      let a : Apt Γ h.live h.stop h.cells r.own.place r = h.apt r.own.place r here in
      let o : Mine Γ.lines r.own (event.Deny n.victim n.thief n.kind) =
      mine_of Γ r a.told (event.Deny n.victim n.thief n.kind) may in
      let m = matched Γ.names h.cells e n (sym h.wide) name in
      let ae : AptAt Γ r.own.place r e n m.0 = a.each e n m.0 name m.1 in
      let is : wanted ≡ m.0 = is_stood B false r.own.place n (knows r.own n) m.0
      (known_asked Γ.lines r.own n.kind n.thief n.victim o) (ae.inward o.by) o.by
      (λ x. let y = ae.busy x in none_some r.hand (e, y.0) free y.1) in
      let was : get_elem? h.cells e ≡ some wanted = m.1 ∙ ap some (sym is) in
      let k : slice_index s.words (e + 3) ≡ 1 =
      word_at s.words h.live (total items_of h.recs) h.stop h.cells e wanted h.words was in
      let r' : View Q I = denied_on n 1 r in
      let T : Turn Γ s h r r' e n wanted denied = record {
        steady = record {
          place = refl;
          told =
              λ t. record { program = t.program; lines = t.lines; limit = t.limit };
          items =
              refl;
          last = refl;
          over = refl;
          code = refl;
          steps = refl;
        };
        name = name;
        was = was;
        fit = tt;
        others = λ q u apart x. record {
          out = λ t. out_refused n.kind (knows u.own n) (x.out t);
          inward = λ t. absurd (apart (sym t ∙ o.by));
          busy = λ y. absurd y;
          at_it = λ ys y. absurd (x.at_it ys y);
        };
        mine = still Γ h.grounded.named.once r.own.place r r' e n seen.Refused name refl refl;
        here = λ x. record {
          out = λ t. subst (λ z. Out n.kind z seen.Refused) (newly Γ r r' n seen.Refused refl)
              (out_self n.kind seen.Refused);
          inward = λ t. subst (λ z. In n.kind z seen.Refused) (newly Γ r r' n seen.Refused refl)
              (in_self n.kind seen.Refused);
          busy = λ y. absurd y;
          at_it = λ ys y. absurd (none_some r.hand (e, ys) free y);
        };
        holds = λ x. λ j ys y. absurd (none_some r.hand (j, ys) free y);
      } in
      let there = (h.grounded.named.there e n name).2 in (
        k,
        edge_goes Γ s h id r r' at e n wanted denied T (event.Deny n.victim n.thief n.kind) refl
            o.by o.within (owned Γ s h r here (event.Deny n.victim n.thief n.kind) tt there o) refl
            refl [] [] tt refl refl
            s.homes (h.homes ∙ sym (map_same slot_of h.cells e wanted denied was refl)),
      )

  -- what a read of the edge finds
  record Read : Type 0 where
    cell : Cell B
    was : get_elem? h.cells e ≡ some cell
    word : slice_index s.words (e + 3) ≡ word_of cell
    same : read (slice_index s.words (e + 3)) ≡ cell_state cell
    apt : AptAt Γ r.own.place r e n cell

  reading : Read
  reading =
      let a : Apt Γ h.live h.stop h.cells r.own.place r = h.apt r.own.place r here in
      let m = matched Γ.names h.cells e n (sym h.wide) name in
      let is : slice_index s.words (e + 3) ≡ word_of m.0 =
      word_at s.words h.live (total items_of h.recs) h.stop h.cells e m.0 h.words m.1 in
      record {
        cell = m.0;
        was = m.1;
        word = is;
        same = ap read is
            ∙ read_face m.0;
        apt = a.each e n m.0 name m.1;
      }

  abbrev k : ℕ
  k = slice_index s.words (e + 3)

  -- a look that is no event
  pub learn_stays : (t : Shows Γ (edge_set (slice_index s.words (e + 3))
      (learnt_on n (slice_index s.words (e + 3)) r)))
      × (world_of Γ (edge_set (slice_index s.words (e + 3))
      (learnt_on n (slice_index s.words (e + 3)) r)) t ≡ world_of Γ s h)
  learn_stays =
      let d = reading in
      let c : Cell B = d.cell in
      let r' : View Q I = learnt_on n k r in
      let T : Turn Γ s h r r' e n c c = record {
        steady = record {
          place = refl;
          told =
              λ t. record { program = t.program; lines = t.lines; limit = t.limit };
          items =
              refl;
          last = refl;
          over = refl;
          code = refl;
          steps = refl;
        };
        name = name;
        was = d.was;
        fit = h.fitting e n c name d.was;
        others = λ q u apart x. x;
        mine = still Γ h.grounded.named.once r.own.place r r' e n (read k) name refl refl;
        here = seen_here Γ r.own.place e n c r r' (read k) d.same refl refl;
        holds = λ x. x;
      } in
      let z = edge_stays Γ s h id r r' at e n c c T refl refl s.homes (h.homes
      ∙ ap (map slot_of) (sym (set_again h.cells e c d.was))) in
      subst (λ (y : ℕ). (t : Shows Γ (edge_set y r'))
      × (world_of Γ (edge_set y r') t ≡ world_of Γ s h)) (sym d.word) z

  -- the event Look
  mark_goes : n.victim ≡ r.own.place → is_event n r.own ≡ true
      → (t : Shows Γ (edge_set k (after_step k (marked_at n (read k) r.own) r)))
      × Step (Γ.children Γ.program) Γ.lines (world_of Γ s h) (event.Look n.victim n.thief n.kind)
      (world_of Γ (edge_set k (after_step k (marked_at n (read k) r.own) r)) t)
  mark_goes victim is =
      let d = reading in
      let c : Cell B = d.cell in
      let r' : View Q I = after_step k (marked_at n (read k) r.own) r in
      let t = h.grounded.named.there e n name in
      let two = both_true (is_working r.own.local.phase)
      (is_mark mark.Unseen (mark_at r.own.local.marks n.kind n.thief)) is in
      let T : Turn Γ s h r r' e n c c = record {
        steady = record {
          place = refl;
          told =
              λ t. record { program = t.program; lines = t.lines; limit = t.limit };
          items =
              refl;
          last = refl;
          over = refl;
          code = refl;
          steps = refl;
        };
        name = name;
        was = d.was;
        fit = h.fitting e n c name d.was;
        others = λ q u apart x. x;
        mine = still Γ h.grounded.named.once r.own.place r r' e n (read k) name refl refl;
        here = seen_here Γ r.own.place e n c r r' (read k) d.same refl refl;
        holds = λ x. x;
      } in
      let z = edge_goes Γ s h id r r' at e n c c T (event.Look n.victim n.thief n.kind) refl victim
      (t.1, t.0, t.1) (
        works r.own.local.phase two.0,
        t.2,
        unseen (mark_at r.own.local.marks n.kind n.thief)
            two.1,
      ) refl refl [] [] tt
      (ap (λ z. place_after Γ.lines.tries (event.Look n.victim n.thief n.kind) [] [] z
      (part_of r)) (d.same ∙ sym (state_reads Γ.items c))) refl
      s.homes (h.homes ∙ ap (map slot_of) (sym (set_again h.cells e c d.was))) in
      subst (λ (y : ℕ). (t : Shows Γ (edge_set y r'))
      × Step (Γ.children Γ.program) Γ.lines (world_of Γ s h)
      (event.Look n.victim n.thief n.kind) (world_of Γ (edge_set y r') t)) (sym d.word) z

  -- a look at an in-edge
  pub look_goes : n.victim ≡ r.own.place
      → (t : Shows Γ (edge_set (slice_index s.words (e + 3))
      (looked_on n (slice_index s.words (e + 3)) r)))
      × Either (is_event n r.own) (Step (Γ.children Γ.program) Γ.lines (world_of Γ s h)
      (event.Look n.victim n.thief n.kind)
      (world_of Γ (edge_set (slice_index s.words (e + 3))
      (looked_on n (slice_index s.words (e + 3)) r)) t))
      (world_of Γ (edge_set (slice_index s.words (e + 3))
      (looked_on n (slice_index s.words (e + 3)) r)) t ≡ world_of Γ s h)
  look_goes victim = by (is_event n r.own) refl
    where
      to : Bool → View Q I
      to b = after_step k (cond b (marked_at n (read k) r.own) (known_row n (read k) r.own)) r

      by : (b : Bool) → is_event n r.own ≡ b → (t : Shows Γ (edge_set k (to b)))
          × Either b (Step (Γ.children Γ.program) Γ.lines (world_of Γ s h)
          (event.Look n.victim n.thief n.kind) (world_of Γ (edge_set k (to b)) t))
          (world_of Γ (edge_set k (to b)) t ≡ world_of Γ s h)
      by true is = mark_goes victim is
      by false is = learn_stays

module _ {B Q I : Type 0} (Γ : Fixed B Q I) where
  pub asks : (slots id e : ℕ) (n : EdgeName) (r : View Q I) → get_elem? Γ.names e ≡ some n
      → r.hand ≡ None → May r.own (event.Ask n.thief n.victim n.kind)
      → Allows (Shows Γ) slots id (r ∷ [], slots_of r) (e + 3) (λ _. 1)
      (Asks n (step slots (e + 3) 1 0 maybe.none) (r ∷ [], slots_of r))
  asks slots id e n r name free may s h len at lt =
      let g = ask_goes Γ s h id e n r at name free may in
      (asked_on n 0 r ∷ [], keeps, tt, g.1.0, (g.0, λ i. (asked_on n (sym g.0 i) r ∷ [], slots_of r)))

  pub denies : (slots id e : ℕ) (n : EdgeName) (r : View Q I) → get_elem? Γ.names e ≡ some n
      → r.hand ≡ None → May r.own (event.Deny n.victim n.thief n.kind)
      → Allows (Shows Γ) slots id (r ∷ [], slots_of r) (e + 3) (λ _. 2)
      (Denies n (step slots (e + 3) 2 0 maybe.none) (r ∷ [], slots_of r))
  denies slots id e n r name free may s h len at lt =
      let g = deny_goes Γ s h id e n r at name free may in
      (denied_on n 1 r ∷ [], keeps, tt, g.1.0, (g.0, λ i. (denied_on n (sym g.0 i) r ∷ [], slots_of r)))

  pub looks : (slots id e : ℕ) (n : EdgeName) (r : View Q I) → get_elem? Γ.names e ≡ some n
      → n.victim ≡ r.own.place
      → Allows (Shows Γ) slots id (r ∷ [], slots_of r) (e + 3) (λ k. k)
      (Looks n (step slots (e + 3) 0 0 maybe.none) (r ∷ [], slots_of r))
  looks slots id e n r name victim s h len at lt =
      let d = reading Γ s h id e n r at name in (
        looked_on n (slice_index s.words (e + 3)) r ∷ [],
        keeps,
        tt,
        (look_goes Γ s h id e n r at name victim).0,
        (
          refl,
          in_finds (mark_at r.own.local.marks n.kind n.thief) n.kind (knows r.own n)
              (read (slice_index s.words (e + 3)))
              (subst (In n.kind (knows r.own n)) (sym d.same) (d.apt.inward victim)),
        ),
      )

  pub learns : (slots id e : ℕ) (n : EdgeName) (r : View Q I) → get_elem? Γ.names e ≡ some n
      → n.thief ≡ r.own.place
      → Allows (Shows Γ) slots id (r ∷ [], slots_of r) (e + 3) (λ k. k)
      (Learns n (step slots (e + 3) 0 0 maybe.none) (r ∷ [], slots_of r))
  learns slots id e n r name thief s h len at lt =
      let d = reading Γ s h id e n r at name in (
        learnt_on n (slice_index s.words (e + 3)) r ∷ [],
        keeps,
        tt,
        (learn_stays Γ s h id e n r at name).0,
        (
          refl,
          out_finds (mark_at r.own.local.marks n.kind n.victim) n.kind (knows r.own n)
              (read (slice_index s.words (e + 3)))
              (subst (Out n.kind (knows r.own n)) (sym d.same) (d.apt.out thief)),
        ),
      )
