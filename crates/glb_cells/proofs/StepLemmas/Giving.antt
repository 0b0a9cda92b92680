-- A gift and its taking, each in two steps.
use Rattle.std.proofs.Common.{◌≡◌, ℕ, ◌+◌, ◌<◌, ◌⊎◌, List, [], ◌∷◌, ◌++◌, map, set, length, Some, None, Bool, true, false, refl, sym, ap, ◌∙◌, subst, inl, ⊎_elim}
use Rattle.std.specs.Prelude.{slice_index, IsPermutation}
use Rattle.std.proofs.lemmas.List.Sorted.{IsPermutation-refl}
use mathlib.Core.Option.{some}
use mathlib.Core.Option as maybe
use lib.ListN.{get_elem?}
use Rattle.atomic_table.proofs.Lists.{at_map}
use Rattle.glb_rules.specs.Steps.{Step}
use Rattle.glb_rules.proofs.EdgeLemmas.Named.{names_apart}
use Rattle.glb_rules.proofs.Finish.Histories.{past_lawful}
use Rattle.glb_rules.specs.declared.local.EdgeName.{EdgeName}
use Rattle.glb_rules.specs.declared.event.Event.TheVariants as event
use Rattle.glb_rules.specs.declared.kinds.Kind.{Kind}
use Rattle.glb_rules.specs.declared.kinds.Kind.TheVariants as kind
use Rattle.glb_rules.specs.declared.kinds.Edge.{Edge}
use Rattle.glb_rules.specs.declared.kinds.Edge.TheVariants as seen
use Rattle.glb_place.specs.Records.{knows, May}
use Rattle.glb_cells.specs.declared.view.View.{View}
use Rattle.glb_cells.specs.Words.{empty, full, emptied, word_of, slot_of, cell_state, Out, In}
use Rattle.glb_cells.specs.Shows.{Fixed, Apt, AptAt, Shows, Table, world_of}
use Rattle.glb_cells.specs.Plays.{gift_word, begun_on, handed_on, took_on, cleared_on}
use Rattle.glb_cells.proofs.StepLemmas.ListFacts.{matched, map_set}
use Rattle.glb_cells.proofs.StepLemmas.Keeps.{Turn, edge_goes, edge_stays}
use Rattle.glb_cells.proofs.StepLemmas.Shown.{shown_edge}
use Rattle.glb_cells.proofs.StepLemmas.Reading.{none_some, is_full, is_emptied, in_idle, newly, elsewhere, no_hand, one_hand, part_of_hand, knows_else}
use Rattle.glb_cells.proofs.StepLemmas.Owning.{Mine, mine_of, owned, known_loot, known_wanted}
use Rattle.glb_cells.proofs.StepLemmas.Standing.{Stands, stood, gift, gift_home, stood_home, gift_reads, gift_edge, gift_fits, with_gift, with_stood, is_stood, is_gift, out_loot}

-- in which of the two ways a request stands
pub stands_as : (k : Kind) (x : Edge) → (x ≡ seen.Asked) ⊎ ((k ≡ kind.Line) × (x ≡ seen.Refused))
    → (b : Bool) × Stands b k x
stands_as k x h = ⊎_elim (λ (y : x ≡ seen.Asked). (false, y))
    (λ (y : (k ≡ kind.Line) × (x ≡ seen.Refused)). (true, y)) h

-- the word that begins a gift
gift_face : (B : Type 0) (b : Bool) (k : Kind) (x : Edge) → Stands b k x
    → gift_word x ≡ word_of (gift {B = B} b)
gift_face B true k x e = ap gift_word e.1
gift_face B false k x e = ap gift_word e

module _ {B Q I : Type 0} (Γ : Fixed B Q I) (s : Table Γ) (h : Shows Γ s) (id e : ℕ) (n : EdgeName)
    (r : View Q I)
    (at : get_elem? s.views id ≡ some (r ∷ [])) (name : get_elem? Γ.names e ≡ some n) where
  here : get_elem? h.recs r.own.place ≡ some r
  here = h.seats id (r ∷ []) 0 r at refl

  abbrev pub slot_set : ℕ → maybe.Option (Rattle.std.specs.Prelude.Option B) → View Q I → Table Γ
  slot_set k x r' = record {
    words = set s.words (e + 3) k;
    homes = set s.homes e x;
    views =
        set s.views id (r' ∷ []);
  }

  -- a part is to be put in: no event
  pub begin_stays : (xs : List I) → r.hand ≡ None → May r.own (event.Give n.victim n.thief n.kind)
      → ((rest : List I) × IsPermutation r.own.local.bag (xs ++ rest))
      → (get_elem? s.homes e ≡ some (some None))
      × ((k : Shows Γ (slot_set (gift_word (knows r.own n)) maybe.none
      (begun_on e xs (slice_index s.words (e + 3)) r)))
      × (world_of Γ (slot_set (gift_word (knows r.own n)) maybe.none
      (begun_on e xs (slice_index s.words (e + 3)) r)) k ≡ world_of Γ s h))
  begin_stays xs free may more =
      let a : Apt Γ h.live h.stop h.cells r.own.place r = h.apt r.own.place r here in
      let o : Mine Γ.lines r.own (event.Give n.victim n.thief n.kind) =
      mine_of Γ r a.told (event.Give n.victim n.thief n.kind) may in
      let m = matched Γ.names h.cells e n (sym h.wide) name in
      let ae : AptAt Γ r.own.place r e n m.0 = a.each e n m.0 name m.1 in
      let sb = stands_as n.kind (knows r.own n)
      (known_wanted Γ.lines r.own n.kind n.thief n.victim o) in
      let b : Bool = sb.0 in
      let is : stood b ≡ m.0 = is_stood B b r.own.place n (knows r.own n) m.0 sb.1 (ae.inward o.by)
      o.by (λ x. let y = ae.busy x in none_some r.hand (e, y.0) free y.1) in
      let was : get_elem? h.cells e ≡ some (stood b) = m.1 ∙ ap some (sym is) in
      let k : ℕ = slice_index s.words (e + 3) in
      let next : gift_word (knows r.own n) ≡ word_of (gift {B = B} b) =
      gift_face B b n.kind (knows r.own n) sb.1 in
      let r' : View Q I = begun_on e xs k r in
      let lies : get_elem? s.homes e ≡ some (some None) = ap (λ hs. get_elem? hs e) h.homes
      ∙ at_map slot_of h.cells e (stood b) was ∙ ap some (stood_home B b) in
      let out : set s.homes e maybe.none ≡ map slot_of (set h.cells e (gift b)) =
      ap (λ hs. set hs e maybe.none) h.homes
      ∙ ap (λ x. set (map slot_of h.cells) e x) (sym (gift_home B b))
      ∙ sym (map_set slot_of h.cells e (gift b)) in
      let T : Turn Γ s h r r' e n (stood b) (gift b) = record {
        steady = record {
          place = refl;
          told =
              λ t. record { program = t.program; lines = t.lines; limit = t.limit };
          items =
              refl;
          last = refl;
          over = refl;
          code = refl;
          steps = refl;
        };
        name = name;
        was = was;
        fit = gift_fits B Γ.fits Γ.program b n.kind (knows r.own n) sb.1;
        others = λ q u apart x. record {
          out = λ t. subst (λ y. Out n.kind (knows u.own n) y) (sym (gift_reads B b)) (x.out t);
          inward = λ t. subst (λ y. In n.kind (knows u.own n) y) (sym (gift_reads B b))
              (x.inward t);
          busy = λ w. let v : n.victim ≡ q = subst (λ X. X) (with_gift B q n b) w in
              absurd (apart (sym v ∙ o.by));
          at_it = λ ys y. absurd (with_stood B q n b (x.at_it ys y));
        };
        mine = elsewhere Γ r.own.place r r' e (λ j m x y. refl) (no_hand Γ r e free)
            (one_hand Γ r' e xs refl);
        here = λ x. record {
          out = λ t. subst (λ y. Out n.kind (knows r.own n) y) (sym (gift_reads B b)) (x.out t);
          inward = λ t. subst (λ y. In n.kind (knows r.own n) y) (sym (gift_reads B b))
              (x.inward t);
          busy = λ w. (xs, refl);
          at_it = λ ys y. subst (λ X. X) (sym (with_gift B r.own.place n b)) o.by;
        };
        holds = λ x. λ j ys y. (
          more.0,
          subst (λ (l : List I). IsPermutation r.own.local.bag
              (l ++ more.0)) (part_of_hand e j xs ys y) more.1,
        );
      } in
      let z = edge_stays Γ s h id r r' at e n (stood b) (gift b) T refl (gift_edge B Γ.items b)
      (set s.homes e maybe.none) out in (
        lies,
        subst (λ (y : ℕ). (k : Shows Γ (slot_set y maybe.none r'))
            × (world_of Γ (slot_set y maybe.none r') k ≡ world_of Γ s h)) (sym next) z,
      )

  -- the event Give, whatever of the part was known when its slot was taken
  pub hand_goes : (held : List I) (part : B) (rest : List I) → r.hand ≡ Some (e, held)
      → May r.own (event.Give n.victim n.thief n.kind) → Γ.fits part r.program
      → 0 < length (Γ.items part) → 0 < length rest
      → IsPermutation r.own.local.bag (Γ.items part ++ rest)
      → (k : Shows Γ (slot_set 5 (some (Some part))
      (handed_on n (slice_index s.words (e + 3)) (Γ.items part) rest r)))
      × Step (Γ.children Γ.program) Γ.lines (world_of Γ s h) (event.Give n.victim n.thief n.kind)
      (world_of Γ (slot_set 5 (some (Some part))
      (handed_on n (slice_index s.words (e + 3)) (Γ.items part) rest r)) k)
  hand_goes held part rest busy may fits some_given some_left all =
      let a : Apt Γ h.live h.stop h.cells r.own.place r = h.apt r.own.place r here in
      let o : Mine Γ.lines r.own (event.Give n.victim n.thief n.kind) =
      mine_of Γ r a.told (event.Give n.victim n.thief n.kind) may in
      let m = matched Γ.names h.cells e n (sym h.wide) name in
      let ae : AptAt Γ r.own.place r e n m.0 = a.each e n m.0 name m.1 in
      let sb = stands_as n.kind (knows r.own n)
      (known_wanted Γ.lines r.own n.kind n.thief n.victim o) in
      let b : Bool = sb.0 in
      let xs : List I = Γ.items part in
      let is : gift b ≡ m.0 = is_gift B b r.own.place n (knows r.own n) m.0 sb.1 (ae.inward o.by)
      (ae.at_it held busy) in
      let was : get_elem? h.cells e ≡ some (gift b) = m.1 ∙ ap some (sym is) in
      let k : ℕ = slice_index s.words (e + 3) in
      let r' : View Q I = handed_on n k xs rest r in
      let T : Turn Γ s h r r' e n (gift b) (full part) = record {
        steady = record {
          place = refl;
          told =
              λ t. record { program = t.program; lines = t.lines; limit = t.limit };
          items =
              refl;
          last = refl;
          over = refl;
          code = refl;
          steps = refl;
        };
        name = name;
        was = was;
        fit = subst (Γ.fits part) a.told.program fits;
        others = λ q u apart x. record {
          out = λ t. out_loot B b n.kind (knows u.own n) (knows r.own n) sb.1 (x.out t);
          inward = λ t. absurd (apart (sym t ∙ o.by));
          busy = λ w. absurd w;
          at_it = λ ys y. let v : n.victim ≡ q =
              subst (λ X. X) (with_gift B q n b) (x.at_it ys y) in absurd (apart (sym v ∙ o.by));
        };
        mine = elsewhere Γ r.own.place r r' e (λ j m apart other. knows_else r.own n seen.Loot m
            (names_apart Γ.names h.grounded.named.once e j n m name other apart))
            (one_hand Γ r e held busy) (no_hand Γ r' e refl);
        here = λ x. record {
          out = λ t. subst (λ y. Out n.kind y seen.Loot) (newly Γ r r' n seen.Loot refl) refl;
          inward = λ t. subst (λ y. In n.kind y seen.Loot) (newly Γ r r' n seen.Loot refl)
              (λ z. cc);
          busy = λ w. absurd w;
          at_it = λ ys y. absurd (none_some None (e, ys) refl y);
        };
        holds = λ x. λ j ys y. absurd (none_some None (j, ys) refl y);
      } in
      let there = (h.grounded.named.there e n name).2 in
      edge_goes Γ s h id r r' at e n (gift b) (full part) T (event.Give n.victim n.thief n.kind)
      refl o.by o.within (owned Γ s h r here (event.Give n.victim n.thief n.kind) tt there o)
      refl refl
      xs rest (some_given, some_left, all) refl refl
      (set s.homes e (some (Some part))) (ap (λ hs. set hs e (some (Some part))) h.homes
      ∙ sym (map_set slot_of h.cells e (full part)))

  -- what a thief finds on an edge that it knows as Loot
  pub record Found : Type 0 where
    pub part : B
    pub at_home : get_elem? s.homes e ≡ some (some (Some part))
    pub fits : Γ.fits part r.program
    pub some : 0 < length (Γ.items part)

  -- the event Take
  pub take_goes : r.hand ≡ None → May r.own (event.Take n.thief n.victim n.kind)
      → (f : Found) × ((k : Shows Γ (slot_set 6 maybe.none
      (took_on n e (slice_index s.words (e + 3)) (Γ.items f.part) r)))
      × Step (Γ.children Γ.program) Γ.lines (world_of Γ s h) (event.Take n.thief n.victim n.kind)
      (world_of Γ (slot_set 6 maybe.none (took_on n e (slice_index s.words (e + 3))
      (Γ.items f.part) r)) k))
  take_goes free may =
      let a : Apt Γ h.live h.stop h.cells r.own.place r = h.apt r.own.place r here in
      let o : Mine Γ.lines r.own (event.Take n.thief n.victim n.kind) =
      mine_of Γ r a.told (event.Take n.thief n.victim n.kind) may in
      let m = matched Γ.names h.cells e n (sym h.wide) name in
      let ae : AptAt Γ r.own.place r e n m.0 = a.each e n m.0 name m.1 in
      let f = is_full m.0 (subst (λ z. Out n.kind z (cell_state m.0))
      (known_loot Γ.lines r.own n.kind n.thief n.victim o) (ae.out o.by)) in
      let b : B = f.0 in
      let was : get_elem? h.cells e ≡ maybe.some (full b) = m.1 ∙ ap maybe.some (sym f.1) in
      let k : ℕ = slice_index s.words (e + 3) in
      let xs : List I = Γ.items b in
      let r' : View Q I = took_on n e k xs r in
      let t = h.grounded.named.there e n name in
      let edge = shown_edge Γ h.grounded.named.once h.live h.stop h.cells h.recs e n (full b) name
      was in
      let L = past_lawful (Γ.children Γ.program) Γ.lines Γ.bags (world_of Γ s h) h.grounded.proper
      h.grounded.awake h.history in
      let lies : get_elem? s.homes e ≡ maybe.some (maybe.some (Some b)) =
      ap (λ hs. get_elem? hs e) h.homes ∙ at_map slot_of h.cells e (full b) was in
      let T : Turn Γ s h r r' e n (full b) emptied = record {
        steady = record {
          place = refl;
          told =
              λ t. record { program = t.program; lines = t.lines; limit = t.limit };
          items =
              refl;
          last = refl;
          over = refl;
          code = refl;
          steps = refl;
        };
        name = name;
        was = was;
        fit = tt;
        others = λ q u apart x. record {
          out = λ t. absurd (apart (sym t ∙ o.by));
          inward = λ t. in_idle n.kind (knows u.own n) (x.inward t);
          busy = λ y. absurd (apart (sym y ∙ o.by));
          at_it = λ ys y. absurd (x.at_it ys y);
        };
        mine = elsewhere Γ r.own.place r r' e (λ j m apart other. knows_else r.own n seen.Idle m
            (names_apart Γ.names h.grounded.named.once e j n m name other apart))
            (no_hand Γ r e free) (one_hand Γ r' e xs refl);
        here = λ x. record {
          out = λ t. subst (λ y. Out n.kind y seen.Idle) (newly Γ r r' n seen.Idle refl) refl;
          inward = λ t. subst (λ y. In n.kind y seen.Idle) (newly Γ r r' n seen.Idle refl)
              (inl refl);
          busy = λ y. (xs, refl);
          at_it = λ ys y. o.by;
        };
        holds = λ x. λ j ys y. (
          r.own.local.bag,
          subst
              (λ (l : List I). IsPermutation (xs ++ r.own.local.bag) (l ++ r.own.local.bag))
              (part_of_hand e j xs ys y) (IsPermutation-refl (xs ++ r.own.local.bag)),
        );
      } in (
        record {
          part = b;
          at_home = lies;
          fits = subst (Γ.fits b) (sym a.told.program) (h.fitting e n (full b) name was);
          some = (L.thief n.kind n.thief n.victim t.0 t.1).loot xs edge;
        },
        edge_goes Γ s h id r r' at e n (full b) emptied T (event.Take n.thief n.victim n.kind) refl
            o.by o.within (owned Γ s h r here (event.Take n.thief n.victim n.kind) tt t.2 o) refl
            refl
            xs (xs ++ r.own.local.bag) (refl, IsPermutation-refl (xs ++ r.own.local.bag)) refl refl
            (set s.homes e maybe.none) (ap (λ hs. set hs e maybe.none) h.homes
            ∙ sym (map_set slot_of h.cells e emptied)),
      )

  -- the part is taken out: no event
  pub clear_stays : (xs : List I) → r.hand ≡ Some (e, xs) → n.thief ≡ r.own.place
      → knows r.own n ≡ seen.Idle
      → (k : Shows Γ (slot_set 0 (some None) (cleared_on (slice_index s.words (e + 3)) r)))
      × (world_of Γ (slot_set 0 (some None) (cleared_on (slice_index s.words (e + 3)) r)) k ≡
      world_of Γ s h)
  clear_stays xs busy thief knew =
      let a : Apt Γ h.live h.stop h.cells r.own.place r = h.apt r.own.place r here in
      let m = matched Γ.names h.cells e n (sym h.wide) name in
      let ae : AptAt Γ r.own.place r e n m.0 = a.each e n m.0 name m.1 in
      let is : emptied ≡ m.0 = is_emptied r.own.place n m.0
      (subst (λ z. Out n.kind z (cell_state m.0)) knew (ae.out thief)) (ae.at_it xs busy) in
      let was : get_elem? h.cells e ≡ maybe.some emptied = m.1 ∙ ap maybe.some (sym is) in
      let k : ℕ = slice_index s.words (e + 3) in
      let r' : View Q I = cleared_on k r in
      let T : Turn Γ s h r r' e n emptied empty = record {
        steady = record {
          place = refl;
          told =
              λ t. record { program = t.program; lines = t.lines; limit = t.limit };
          items =
              refl;
          last = refl;
          over = refl;
          code = refl;
          steps = refl;
        };
        name = name;
        was = was;
        fit = tt;
        others = λ q u apart x. record {
          out = x.out;
          inward = x.inward;
          busy = λ y. absurd y;
          at_it = λ ys y. let t : n.thief ≡ q = x.at_it ys y in absurd (apart (sym t ∙ thief));
        };
        mine = elsewhere Γ r.own.place r r' e (λ j m x y. refl) (one_hand Γ r e xs busy)
            (no_hand Γ r' e refl);
        here = λ x. record {
          out = x.out;
          inward = x.inward;
          busy = λ y. absurd y;
          at_it =
              λ ys y. absurd (none_some None (e, ys) refl y);
        };
        holds = λ x. λ j ys y. absurd (none_some None (j, ys) refl y);
      } in
      edge_stays Γ s h id r r' at e n emptied empty T refl refl
      (set s.homes e (maybe.some None)) (ap (λ hs. set hs e (maybe.some None)) h.homes
      ∙ sym (map_set slot_of h.cells e empty))
