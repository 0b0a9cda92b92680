-- Shrug: a refused request to a random victim is given up, one on a line stays.
use Rattle.std.proofs.Common.{◌≡◌, ◌≢◌, ℕ, eqb, ◌+◌, ◌⊎◌, List, [], ◌∷◌, map, set, None, Bool, true, false, cond, refl, sym, ap, ◌∙◌, subst, inl, inr, ⊎_elim, arith, eq-eqb, ne_eqb}
use Rattle.std.specs.Prelude.{slice_index}
use mathlib.Core.Option.{some}
use mathlib.Core.Option as maybe
use lib.ListN.{get_elem?}
use Rattle.atomic_table.specs.Table.{keeps, Allows, step}
use Rattle.atomic_table.proofs.Lists.{set_again}
use Rattle.glb_rules.specs.World.{WorldEdge, Refused, Idle}
use Rattle.glb_rules.specs.Effects.{after_shrug}
use Rattle.glb_rules.specs.Steps.{Step}
use Rattle.glb_rules.specs.declared.local.EdgeName.{EdgeName}
use Rattle.glb_rules.specs.declared.event.Event.TheVariants as event
use Rattle.glb_rules.specs.declared.kinds.Kind.{Kind}
use Rattle.glb_rules.specs.declared.kinds.Kind.TheVariants as kind
use Rattle.glb_rules.specs.declared.kinds.Edge.{Edge}
use Rattle.glb_rules.specs.declared.kinds.Edge.TheVariants as seen
use Rattle.glb_place.specs.Records.{knows, May}
use Rattle.glb_place.specs.Rows.{known_row}
use Rattle.glb_cells.specs.declared.view.View.{View}
use Rattle.glb_cells.specs.Words.{Cell, empty, wanted, denied, wanted_gift, denied_gift, full, emptied, word_of, slot_of, cell_state, edge_of, Fitting, Out, In, read}
use Rattle.glb_cells.specs.Shows.{Fixed, total, items_of, Apt, AptAt, Shows, Table, world_of}
use Rattle.glb_cells.specs.Plays.{after_step, left_at, given_up_on, shrugged_on, GivesUp, Shrugs, slots_of}
use Rattle.glb_cells.proofs.StepLemmas.ListFacts.{matched, map_same}
use Rattle.glb_cells.proofs.StepLemmas.Keeps.{Turn, edge_goes, edge_stays}
use Rattle.glb_cells.proofs.StepLemmas.Shown.{shown_edge}
use Rattle.glb_cells.proofs.StepLemmas.Reading.{word_at, read_face, none_some, in_free, still, newly, seen_here}
use Rattle.glb_cells.proofs.StepLemmas.Owning.{Mine, mine_of, known_refused}

module _ {B Q : Type 0} (fits : B → Q → Type 0) (q : Q) where
  -- a refused request to a random victim
  is_denied : (l : Kind) (c : Cell B) → l ≡ kind.Steal → Out l seen.Refused (cell_state c)
      → Fitting fits q l c → denied ≡ c
  is_denied kind.Line c n o f = absurd (cc)
  is_denied kind.Steal empty n o f = cc
  is_denied kind.Steal wanted n o f = cc
  is_denied kind.Steal denied n o f = refl
  is_denied kind.Steal wanted_gift n o f = cc
  is_denied kind.Steal denied_gift n o f = let t : kind.Steal ≡ kind.Line = f in cc
  is_denied kind.Steal (full b) n o f = cc
  is_denied kind.Steal emptied n o f = cc

module _ {B I : Type 0} (items : B → List I) where
  -- what a thief finds on a line that it knows as Refused
  loot_or_not : (c : Cell B) → Out kind.Line seen.Refused (cell_state c)
      → ((cell_state c ≡ seen.Loot) × (word_of c ≡ 5))
      ⊎ ((cell_state c ≡ seen.Refused) × (edge_of items c ≡ Refused) × (word_of c ≢ 5))
  loot_or_not empty h = ⊎_elim (λ (e : seen.Idle ≡ seen.Refused). cc)
      (λ (e : seen.Idle ≡ seen.Loot). cc) h
  loot_or_not wanted h = ⊎_elim (λ (e : seen.Asked ≡ seen.Refused). cc)
      (λ (e : seen.Asked ≡ seen.Loot). cc) h
  loot_or_not denied h = inr (refl, refl, λ e. absurd (omega arith))
  loot_or_not wanted_gift h = ⊎_elim (λ (e : seen.Asked ≡ seen.Refused). cc)
      (λ (e : seen.Asked ≡ seen.Loot). cc) h
  loot_or_not denied_gift h = inr (refl, refl, λ e. absurd (omega arith))
  loot_or_not (full b) h = inl (refl, refl)
  loot_or_not emptied h = ⊎_elim (λ (e : seen.Idle ≡ seen.Refused). cc)
      (λ (e : seen.Idle ≡ seen.Loot). cc) h

  steal_idles : (l : Kind) → l ≡ kind.Steal → ◌≡◌ {A = WorldEdge I} Idle (after_shrug l Refused)
  steal_idles kind.Steal e = refl
  steal_idles kind.Line e = absurd (cc)

  line_stays : (l : Kind) → l ≡ kind.Line → (x : WorldEdge I) → x ≡ after_shrug l x
  line_stays kind.Line e x = refl
  line_stays kind.Steal e x = absurd (cc)

module _ {B Q I : Type 0} (Γ : Fixed B Q I) (s : Table Γ) (h : Shows Γ s) (id e : ℕ) (n : EdgeName)
    (r : View Q I)
    (at : get_elem? s.views id ≡ some (r ∷ [])) (name : get_elem? Γ.names e ≡ some n) where
  here : get_elem? h.recs r.own.place ≡ some r
  here = h.seats id (r ∷ []) 0 r at refl

  abbrev pub edge_set : ℕ → View Q I → Table Γ
  edge_set k r' = record {
    words = set s.words (e + 3) k;
    homes = s.homes;
    views =
        set s.views id (r' ∷ []);
  }

  -- the event Shrug of a request to a random victim
  pub give_up_goes : n.kind ≡ kind.Steal → r.hand ≡ None
      → May r.own (event.Shrug n.thief n.victim n.kind)
      → (slice_index s.words (e + 3) ≡ 2)
      × ((k : Shows Γ (edge_set 0 (given_up_on n 2 r)))
      × Step (Γ.children Γ.program) Γ.lines (world_of Γ s h)
      (event.Shrug n.thief n.victim n.kind) (world_of Γ (edge_set 0 (given_up_on n 2 r)) k))
  give_up_goes steal free may =
      let a : Apt Γ h.live h.stop h.cells r.own.place r = h.apt r.own.place r here in
      let o : Mine Γ.lines r.own (event.Shrug n.thief n.victim n.kind) =
      mine_of Γ r a.told (event.Shrug n.thief n.victim n.kind) may in
      let m = matched Γ.names h.cells e n (sym h.wide) name in
      let ae : AptAt Γ r.own.place r e n m.0 = a.each e n m.0 name m.1 in
      let is : denied ≡ m.0 = is_denied Γ.fits Γ.program n.kind m.0 steal
      (subst (λ z. Out n.kind z (cell_state m.0))
      (known_refused Γ.lines r.own n.kind n.thief n.victim o) (ae.out o.by))
      (h.fitting e n m.0 name m.1) in
      let was : get_elem? h.cells e ≡ some denied = m.1 ∙ ap some (sym is) in
      let k : slice_index s.words (e + 3) ≡ 2 =
      word_at s.words h.live (total items_of h.recs) h.stop h.cells e denied h.words was in
      let r' : View Q I = given_up_on n 2 r in
      let T : Turn Γ s h r r' e n denied empty = record {
        steady = record {
          place = refl;
          told =
              λ t. record { program = t.program; lines = t.lines; limit = t.limit };
          items =
              refl;
          last = refl;
          over = refl;
          code = refl;
          steps = refl;
        };
        name = name;
        was = was;
        fit = tt;
        others = λ q u apart x. record {
          out = λ t. absurd (apart (sym t ∙ o.by));
          inward = λ t. subst (λ l. In l (knows u.own n) seen.Idle) (sym steal)
              (in_free (knows u.own n) (subst (λ l. In l (knows u.own n) seen.Refused) steal
              (x.inward t)));
          busy = λ y. absurd y;
          at_it = λ ys y. x.at_it ys y;
        };
        mine = still Γ h.grounded.named.once r.own.place r r' e n seen.Idle name refl refl;
        here = λ x. record {
          out = λ t. subst (λ z. Out n.kind z seen.Idle) (newly Γ r r' n seen.Idle refl) refl;
          inward = λ t. subst (λ z. In n.kind z seen.Idle) (newly Γ r r' n seen.Idle refl)
              (inl refl);
          busy = λ y. absurd y;
          at_it = λ ys y. absurd (none_some r.hand (e, ys) free y);
        };
        holds = λ x. λ j ys y. absurd (none_some r.hand (j, ys) free y);
      } in
      let edge = shown_edge Γ h.grounded.named.once h.live h.stop h.cells h.recs e n denied name
      was in (
        k,
        edge_goes Γ s h id r r' at e n denied empty T (event.Shrug n.thief n.victim n.kind) refl
            o.by o.within (o.able.0, edge) refl refl [] [] tt refl (steal_idles Γ.items n.kind steal)
            s.homes (h.homes ∙ sym (map_same slot_of h.cells e denied empty was refl)),
      )

  -- on a line: the event Shrug, or none where a part is there
  pub shrug_goes : n.kind ≡ kind.Line → May r.own (event.Shrug n.thief n.victim n.kind)
      → (k : Shows Γ (edge_set (slice_index s.words (e + 3))
      (shrugged_on n (slice_index s.words (e + 3)) r)))
      × ((slice_index s.words (e + 3) ≢ 5 → Step (Γ.children Γ.program) Γ.lines (world_of Γ s h)
      (event.Shrug n.thief n.victim n.kind)
      (world_of Γ (edge_set (slice_index s.words (e + 3))
      (shrugged_on n (slice_index s.words (e + 3)) r)) k))
      × (slice_index s.words (e + 3) ≡ 5 → world_of Γ
      (edge_set (slice_index s.words (e + 3)) (shrugged_on n (slice_index s.words (e + 3)) r)) k
      ≡ world_of Γ s h))
  shrug_goes line may = by (loot_or_not Γ.items c
      (subst (λ (z : Kind × Edge). Out z.0 z.1 (cell_state c))
      (λ i. (line i, known_refused Γ.lines r.own n.kind n.thief n.victim o i)) (ae.out o.by)))
    where
      a : Apt Γ h.live h.stop h.cells r.own.place r
      a = h.apt r.own.place r here

      o : Mine Γ.lines r.own (event.Shrug n.thief n.victim n.kind)
      o = mine_of Γ r a.told (event.Shrug n.thief n.victim n.kind) may

      m : (c : Cell B) × (get_elem? h.cells e ≡ some c)
      m = matched Γ.names h.cells e n (sym h.wide) name

      c : Cell B
      c = m.0

      ae : AptAt Γ r.own.place r e n c
      ae = a.each e n c name m.1

      k : ℕ
      k = slice_index s.words (e + 3)

      is : k ≡ word_of c
      is = word_at s.words h.live (total items_of h.recs) h.stop h.cells e c h.words m.1

      to : Bool → View Q I
      to b = after_step k (cond b (known_row n seen.Loot r.own) (left_at n r.own)) r

      Told : ℕ → Bool → Type 0
      Told y b = (t : Shows Γ (edge_set y (to b)))
          × ((k ≢ 5 → Step (Γ.children Γ.program) Γ.lines (world_of Γ s h)
          (event.Shrug n.thief n.victim n.kind) (world_of Γ (edge_set y (to b)) t))
          × (k ≡ 5 → world_of Γ (edge_set y (to b)) t ≡ world_of Γ s h))

      same_homes : s.homes ≡ map slot_of (set h.cells e c)
      same_homes = h.homes ∙ ap (map slot_of) (sym (set_again h.cells e c m.1))

      by : ((cell_state c ≡ seen.Loot) × (word_of c ≡ 5))
          ⊎ ((cell_state c ≡ seen.Refused) × (edge_of Γ.items c ≡ Refused) × (word_of c ≢ 5))
          → Told k (eqb k 5)
      by (inl x) =
          let T : Turn Γ s h r (to true) e n c c = record {
            steady = record {
              place = refl;
              told =
                  λ t. record { program = t.program; lines = t.lines; limit = t.limit };
              items =
                  refl;
              last = refl;
              over = refl;
              code = refl;
              steps = refl;
            };
            name = name;
            was = m.1;
            fit = h.fitting e n c name m.1;
            others = λ q u apart x. x;
            mine = still Γ h.grounded.named.once r.own.place r (to true) e n seen.Loot name refl
                refl;
            here = seen_here Γ r.own.place e n c r (to true) seen.Loot (sym x.0) refl refl;
            holds = λ x. x;
          } in
          let z = edge_stays Γ s h id r (to true) at e n c c T refl refl s.homes same_homes in
          let five : k ≡ 5 = is ∙ x.1 in
          subst (λ b. Told k b) (sym (eq-eqb k 5 five))
          (subst (λ y. Told y true) (sym is) (z.0, ((λ ne. absurd (ne five)), (λ _. z.1))))
      by (inr x) =
          let T : Turn Γ s h r (to false) e n c c = record {
            steady = record {
              place = refl;
              told =
                  λ t. record { program = t.program; lines = t.lines; limit = t.limit };
              items =
                  refl;
              last = refl;
              over = refl;
              code = refl;
              steps = refl;
            };
            name = name;
            was = m.1;
            fit = h.fitting e n c name m.1;
            others = λ q u apart x. x;
            mine = λ j m d apart other y. record
                { out = y.out; inward = y.inward; busy = y.busy; at_it = y.at_it };
            here = λ y. record { out = y.out; inward = y.inward; busy = y.busy; at_it = y.at_it };
            holds = λ x. x;
          } in
          let edge = shown_edge Γ h.grounded.named.once h.live h.stop h.cells h.recs e n c name m.1
          ∙ x.1 in
          let z = edge_goes Γ s h id r (to false) at e n c c T (event.Shrug n.thief n.victim n.kind)
          refl o.by o.within (o.able.0, edge) refl refl [] [] tt refl
          (line_stays Γ.items n.kind line (edge_of Γ.items c)) s.homes same_homes in
          let not_five : k ≢ 5 = λ q. x.2 (sym is ∙ q) in
          subst (λ b. Told k b) (sym (ne_eqb k 5 not_five))
          (subst (λ y. Told y false) (sym is) (z.0, ((λ _. z.1), (λ q. absurd (not_five q)))))

  -- the word that is found on a line
  pub shrug_finds : n.kind ≡ kind.Line → May r.own (event.Shrug n.thief n.victim n.kind)
      → (slice_index s.words (e + 3) ≡ 5) ⊎ ((slice_index s.words (e + 3) ≢ 5)
      × (read (slice_index s.words (e + 3)) ≡ seen.Refused))
  shrug_finds line may =
      let a : Apt Γ h.live h.stop h.cells r.own.place r = h.apt r.own.place r here in
      let o : Mine Γ.lines r.own (event.Shrug n.thief n.victim n.kind) =
      mine_of Γ r a.told (event.Shrug n.thief n.victim n.kind) may in
      let m = matched Γ.names h.cells e n (sym h.wide) name in
      let ae : AptAt Γ r.own.place r e n m.0 = a.each e n m.0 name m.1 in
      let is : slice_index s.words (e + 3) ≡ word_of m.0 =
      word_at s.words h.live (total items_of h.recs) h.stop h.cells e m.0 h.words m.1 in
      ⊎_elim
      (λ (x : (cell_state m.0 ≡ seen.Loot) × (word_of m.0 ≡ 5)). inl (is ∙ x.1))
      (λ (x : (cell_state m.0 ≡ seen.Refused) × (edge_of Γ.items m.0 ≡ Refused) × (word_of m.0 ≢ 5)). inr
      ((λ q. x.2 (sym is ∙ q)), ap read is ∙ read_face m.0 ∙ x.0))
      (loot_or_not Γ.items m.0 (subst (λ (z : Kind × Edge). Out z.0 z.1 (cell_state m.0))
      (λ i. (line i, known_refused Γ.lines r.own n.kind n.thief n.victim o i)) (ae.out o.by)))

module _ {B Q I : Type 0} (Γ : Fixed B Q I) where
  pub gives_up : (slots id e : ℕ) (n : EdgeName) (r : View Q I) → get_elem? Γ.names e ≡ some n
      → n.kind ≡ kind.Steal → r.hand ≡ None → May r.own (event.Shrug n.thief n.victim n.kind)
      → Allows (Shows Γ) slots id (r ∷ [], slots_of r) (e + 3) (λ _. 0)
      (GivesUp n (step slots (e + 3) 0 0 maybe.none) (r ∷ [], slots_of r))
  gives_up slots id e n r name steal free may s h len at lt =
      let g = give_up_goes Γ s h id e n r at name steal free may in
      (given_up_on n 2 r ∷ [], keeps, tt, g.1.0, (g.0, λ i. (given_up_on n (sym g.0 i) r ∷ [], slots_of r)))

  pub shrugs : (slots id e : ℕ) (n : EdgeName) (r : View Q I) → get_elem? Γ.names e ≡ some n
      → n.kind ≡ kind.Line → May r.own (event.Shrug n.thief n.victim n.kind)
      → Allows (Shows Γ) slots id (r ∷ [], slots_of r) (e + 3) (λ k. k)
      (Shrugs n (step slots (e + 3) 0 0 maybe.none) (r ∷ [], slots_of r))
  shrugs slots id e n r name line may s h len at lt = (
    shrugged_on n (slice_index s.words (e + 3)) r ∷ [],
    keeps,
    tt,
    (shrug_goes Γ s h id e n r at name line may).0,
    (refl, shrug_finds Γ s h id e n r at name line may),
  )
