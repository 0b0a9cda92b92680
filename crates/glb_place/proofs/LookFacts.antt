-- Which edges were looked at.
use Rattle.std.proofs.Common.{◌≡◌, ◌≢◌, ℕ, zero, suc, ◌+◌, ◌<◌, ◌⊎◌, inl, inr, ⊎_elim, Bool, true, false, not, ◌&&◌, ◌==◌, List, [], ◌∷◌, length, get_or, map, refl, sym, ap, ◌∙◌, subst, arith}
use Rattle.std.proofs.lemmas.Bool.{cases_eq}
use Rattle.std.proofs.lemmas.List.{get_or-map, length-map}
use Rattle.glb_rules.specs.declared.edges.OutEdge.{OutEdge}
use Rattle.glb_rules.specs.Events.{same_name}
use Rattle.glb_cube.specs.Lines.{Cube, IsCube, outs_of}
use Rattle.glb_laws.specs.Numbers.{has_number}
use Rattle.glb_cube.proofs.GraphFacts.{outs_distinct}
use Rattle.glb_rules.specs.Events.{name_of}
use Rattle.glb_rules.specs.Sight.{IsIn, each_below}
use Rattle.glb_core.specs.Seen.{in_names}
use Rattle.glb_rules.proofs.Sums.Members.{AllApart, distinct_map, in_left, in_right, map_in}
use Rattle.glb_rules.proofs.EdgeLemmas.Made.{apart_of, line_in}
use Rattle.glb_core.proofs.Lifelines.Setups.{line_is, outs_are}
use Rattle.glb_rules.specs.declared.kinds.Kind.TheVariants as kind
use Rattle.glb_rules.specs.declared.kinds.Phase.TheVariants as phase
use Rattle.glb_place.specs.declared.record.Record.{Record}
use Rattle.glb_place.specs.Records.{setup_in}
use Rattle.glb_place.proofs.KnownFacts.{member}
use Rattle.glb_place.proofs.SightLists.{to_each}
use Rattle.glb_rules.proofs.Invariant.Frames.{name_cases}
use Rattle.glb_rules.proofs.EdgeLemmas.Marks.{eq_other, same_kind_false}
use Rattle.glb_rules.specs.declared.kinds.Kind.{Kind}
use Rattle.glb_rules.specs.declared.local.EdgeName.{EdgeName}
use Rattle.glb_place.specs.Looks.{Looks, raised, LooksAt}
use Rattle.glb_place.specs.Turns.{LooksAround, TurnLooks}
use Rattle.glb_place.specs.inner.Polling.{LookedInto, out_names, SameCounts}
use Rattle.glb_place.specs.Rows.{halt_row}
use Rattle.glb_place.specs.declared.turn.Turn.{Turn}
use Rattle.glb_place.specs.declared.turn.Turn.TheVariants.{Went, Polled, Closed}
use Rattle.glb_rules.specs.World.{same_kind, has_edge, has_line}

-- an edge is the one that was looked at, or stands as before
look_cases : (name n : EdgeName) (old new : Looks) → LooksAt name old new
    → ((n ≡ name) ⊎ (new.edge n ≡ old.edge n))
look_cases name n old new L = ⊎_elim
    (λ (h : (n.kind ≡ name.kind) × (n.thief ≡ name.thief) × (n.victim ≡ name.victim)).
    inl (λ i. record { kind = h.0 i; thief = h.1 i; victim = h.2 i }))
    (λ (d : (n.kind ≢ name.kind) ⊎ (n.thief ≢ name.thief) ⊎ (n.victim ≢ name.victim)).
    inr (L.others n (differs d)))
    (name_cases name n.kind n.thief n.victim)
  where
    and_false : (b : Bool) → (b && false) ≡ false
    and_false true = refl
    and_false false = refl

    differs : (n.kind ≢ name.kind) ⊎ (n.thief ≢ name.thief) ⊎ (n.victim ≢ name.victim)
        → same_name name n.kind n.thief n.victim ≡ false
    differs d = ⊎_elim
        (λ a. ap (λ b. b && ((name.thief == n.thief) && (name.victim == n.victim)))
        (same_kind_false name.kind n.kind (λ e. a (sym e))))
        (λ e. ⊎_elim
        (λ a. ap (λ b. same_kind name.kind n.kind && (b && (name.victim == n.victim)))
        (eq_other name.thief n.thief (λ e. a (sym e))) ∙ and_false (same_kind name.kind n.kind))
        (λ a. ap (λ b. same_kind name.kind n.kind && ((name.thief == n.thief) && b))
        (eq_other name.victim n.victim (λ e. a (sym e)))
        ∙ ap (λ b. same_kind name.kind n.kind && b) (and_false (name.thief == n.thief))
        ∙ and_false (same_kind name.kind n.kind))
        e) d

-- another edge than the one that was looked at stands as before
pub look_else : (name n : EdgeName) (old new : Looks) → LooksAt name old new → n ≢ name
    → new.edge n ≡ old.edge n
look_else name n old new L d = ⊎_elim (λ e. absurd (d e)) (λ e. e) (look_cases name n old new L)

-- two members of a list without repetition differ
apart_at : {A : Type 0} (xs : List A) (i j : ℕ) (d e : A) → AllApart xs → i < length xs → j
    < length xs
    → i ≢ j → get_or xs i d ≢ get_or xs j e
apart_at [] i j d e a l m n = absurd (omega arith)
apart_at (x ∷ xs) zero zero d e a l m n = absurd (n refl)
apart_at (x ∷ xs) zero (suc j) d e a l m n =
    λ h. a.0 (subst (λ y. IsIn y xs) (sym h) (member xs j e (omega arith)))
apart_at (x ∷ xs) (suc i) zero d e a l m n =
    λ h. a.0 (subst (λ y. IsIn y xs) h (member xs i d (omega arith)))
apart_at (x ∷ xs) (suc i) (suc j) d e a l m n =
    apart_at xs i j d e a.1 (omega arith) (omega arith) (λ h. n (ap suc h))

-- none of the edges was looked at
pub looked_none : (names : List EdgeName) (old : Looks) → LookedInto names 0 old old
looked_none names old = record
    { before = λ i d less short. absurd (omega arith); after = λ i d more short. refl }

-- one more was
pub looked_further : (names : List EdgeName) (at : ℕ) (first old new : Looks) → AllApart names
    → at < length names → LookedInto names at first old
    → ((d : EdgeName) → LooksAt (get_or names at d) old new) → LookedInto names (at + 1) first new
looked_further names at first old new apart within K L = record {
  before = λ i d less short. ⊎_elim
      (λ (e : i ≡ at). subst (λ j. new.edge (get_or names j d)
      ≡ raised (first.edge (get_or names j d))) (sym e)
      ((L d).edge ∙ ap raised (K.after at d (omega arith) within)))
      (λ (e : i ≢ at). stays i d short e ∙ K.before i d (omega arith) short)
      (cases_eq i at);
  after = λ i d more short. stays i d short (omega arith) ∙ K.after i d (omega arith) short;
}
  where
    stays : (i : ℕ) (d : EdgeName) → i < length names → i ≢ at
        → new.edge (get_or names i d) ≡ old.edge (get_or names i d)
    stays i d short e = look_else (get_or names at d) (get_or names i d) old new (L d)
        (apart_at names i at d d apart short within e)

-- each member stands somewhere
pub index_of : {A : Type 0} (xs : List A) (x : A) → IsIn x xs
    → (i : ℕ) × (i < length xs) × ((d : A) → get_or xs i d ≡ x)
index_of [] x h = absurd h
index_of (y ∷ ys) x h = ⊎_elim (λ (e : x ≡ y). (0, omega arith, λ d. sym e))
    (λ g. let n = index_of ys x g in (suc n.0, (let l = n.1 in omega arith), n.2)) h

-- a look at an edge is none at live or stop
pub counts_kept : (name : EdgeName) (old new : Looks) → LooksAt name old new → SameCounts old new
counts_kept name old new L = record { live = L.live; stop = L.stop }

-- the name of each in-edge that is there stands in the list
module _ {I : Type 0} (r : Record I) where
  -- the name of an in-edge that is there is among the names
  pub in_named : (k : Kind) (t : ℕ) → t < r.lines.places → has_edge (setup_in r) k t r.place ≡ true
      → IsIn (name_of k t r.place) (in_names r.lines r.place)
  in_named kind.Steal t l h =
      in_left (each_below r.lines.places (λ u. not (u == r.place))
      (λ u. name_of kind.Steal u r.place))
      (each_below r.lines.places (λ u. has_number r.place (outs_of r.lines u))
      (λ u. name_of kind.Line u r.place))
      (name_of kind.Steal t r.place)
      (to_each r.lines.places (λ u. not (u == r.place)) (λ u. name_of kind.Steal u r.place) t l h)
  in_named kind.Line t l h =
      in_right (each_below r.lines.places (λ u. not (u == r.place))
      (λ u. name_of kind.Steal u r.place))
      (each_below r.lines.places (λ u. has_number r.place (outs_of r.lines u))
      (λ u. name_of kind.Line u r.place))
      (name_of kind.Line t r.place)
      (to_each r.lines.places (λ u. has_number r.place (outs_of r.lines u))
      (λ u. name_of kind.Line u r.place) t l
      (sym (line_is r.lines r.params (λ p. false) t r.place l) ∙ h))

  -- the looks at the in-edges and then at the own edges are those of a poll
  pub looks_around : (old mid new : Looks)
      → ((k : Kind) (t : ℕ) → has_edge (setup_in r) k t r.place ≡ true → t ≢ r.place)
      → LookedInto (in_names r.lines r.place) (length (in_names r.lines r.place)) old mid
      → ((n : EdgeName) → n.thief ≡ r.place → mid.edge n ≡ old.edge n)
      → ((n : EdgeName) → n.thief ≢ r.place → new.edge n ≡ mid.edge n)
      → ((v : ℕ) (k : Kind) → r.local.phase ≡ phase.Waiting v k
      → new.edge (name_of k r.place v) ≡ raised (mid.edge (name_of k r.place v)))
      → ((v : ℕ) → r.local.phase ≡ phase.Asleep → v < r.lines.places
      → has_line (setup_in r) r.place v ≡ true
      → new.edge (name_of kind.Line r.place v) ≡ raised (mid.edge (name_of kind.Line r.place v)))
      → LooksAround r old new
  looks_around old mid new other all own ins waited outs = record {
    ins = λ k t l h.
        let n = index_of (in_names r.lines r.place) (name_of k t r.place) (in_named k t l h) in
        ins (name_of k t r.place) (other k t h)
        ∙ subst (λ m. mid.edge m ≡ raised (old.edge m)) (n.2 (name_of k t r.place))
        (all.before n.0 (name_of k t r.place) n.1 n.1);
    waited = λ v k e. waited v k e ∙ ap raised (own (name_of k r.place v) refl);
    outs = λ v e l h. outs v e l h ∙ ap raised (own (name_of kind.Line r.place v) refl);
  }

  -- each line stands in the list of lines
  pub line_named : (v : ℕ) → r.place < r.lines.places → has_line (setup_in r) r.place v ≡ true
      → IsIn v (outs_of r.lines r.place)
  line_named v within h =
      subst (IsIn v) (outs_are r.lines r.params (λ p. false) r.place within)
      (line_in (setup_in r) r.place v h)

  -- and so does its name
  pub out_named : (v : ℕ) → r.place < r.lines.places → has_line (setup_in r) r.place v ≡ true
      → IsIn (name_of kind.Line r.place v) (out_names r.lines r.place)
  out_named v within h = map_in (name_of kind.Line r.place) (outs_of r.lines r.place) v
      (line_named v within h)

-- the name of the line at an index
pub out_name_at : (c : Cube) (p : ℕ) (ys : List OutEdge) (at : ℕ) (d : OutEdge) (e : EdgeName)
    → map (λ (y : OutEdge). y.victim) ys ≡ outs_of c p → at < length ys
    → name_of kind.Line p (get_or ys at d).victim ≡ get_or (out_names c p) at e
out_name_at c p ys at d e same l =
    ap (name_of kind.Line p) (sym (get_or-map (λ (y : OutEdge). y.victim) ys at d d.victim l)
    ∙ ap (λ vs. get_or vs at d.victim) same)
    ∙ sym (get_or-map (name_of kind.Line p) (outs_of c p) at d.victim e
    (let m = ap length same in omega (arith, length-map ys (λ (y : OutEdge). y.victim))))

-- no line of a place stands twice
pub out_names_apart : (c : Cube) (p : ℕ) → IsCube c → p < c.places → AllApart (out_names c p)
out_names_apart c p i l = distinct_map (name_of kind.Line p)
    (λ a b e. ap (λ (n : EdgeName). n.victim) e) (outs_of c p)
    (apart_of (outs_of c p) (outs_distinct c i p l))

-- what a turn looked at, after it read stop and live
pub turn_looks : {I : Type 0} (t : Turn) (r : Record I) (old mid new : Looks)
    → ((n : EdgeName) → mid.edge n ≡ old.edge n) → TurnLooks t (halt_row 0 r) mid new
    → TurnLooks t r old new
turn_looks Went r old mid new same h = tt
turn_looks Polled r old mid new same h = record {
  ins = λ k t l e. h.ins k t l e ∙ ap raised (same (name_of k t r.place));
  waited = λ v k e. h.waited v k e ∙ ap raised (same (name_of k r.place v));
  outs = λ v e l f. h.outs v e l f ∙ ap raised (same (name_of kind.Line r.place v));
}
turn_looks (Closed e) r old mid new same h = tt
