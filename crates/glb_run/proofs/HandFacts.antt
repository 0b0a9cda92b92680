-- What a place of two that is played by hand may do, and what it keeps.
use Rattle.std.specs.Prelude.{Option, Some, None, IfSome, is_some, min, ◌^◌, nat_lt, true, false, cond, ◌&&◌, not}
use Rattle.std.proofs.Common.{◌≡◌, ◌≢◌, ℕ, zero, suc, ◌-◌, ◌<◌, ◌⊎◌, inl, inr, Bool, List, [], ◌∷◌, ◌++◌, length, length-append, refl, sym, ap, ◌∙◌, subst, arith}
use Rattle.std.specs.List.Sorted.{IsPermutation}
use Rattle.std.proofs.lemmas.List.Sorted.{IsPermutation-refl, IsPermutation-sym, IsPermutation-trans, IsPermutation-append_right, IsPermutation-append_comm, length_permutation}
use Rattle.std.proofs.lemmas.Bool.Decides.{nat_tests}
use Rattle.glb_laws.specs.Expansion.{Expands, Moves}
use Rattle.glb_laws.proofs.Expansions.{moves_before}
use Rattle.glb_laws.proofs.Cancelling.{cancels}
use Rattle.glb_cube.specs.Lines.{Cube, IsDimension, cube_of}
use Rattle.glb_cube.specs.Digits.{targets, first_below}
use Rattle.glb_rules.specs.World.{IsArmed, has_edge, has_line, mark_at, put_mark, state_of}
use Rattle.glb_rules.specs.Setups.{tries_of}
use Rattle.glb_rules.specs.Events.{name_of}
use Rattle.glb_rules.specs.Effects.{credit_after_take, mark_after_look, phase_after_batch}
use Rattle.glb_rules.specs.History.{first_line}
use Rattle.glb_rules.specs.Decision.{is_mark}
use Rattle.glb_rules.specs.declared.kinds.Credit.{Credit}
use Rattle.glb_rules.specs.declared.kinds.Credit.TheVariants as credit
use Rattle.glb_rules.specs.declared.kinds.Edge.{Edge}
use Rattle.glb_rules.specs.declared.kinds.Edge.TheVariants as seen
use Rattle.glb_rules.specs.declared.kinds.Kind.{Kind}
use Rattle.glb_rules.specs.declared.kinds.Kind.TheVariants as kind
use Rattle.glb_rules.specs.declared.kinds.Mark.{Mark}
use Rattle.glb_rules.specs.declared.kinds.Mark.TheVariants as mark
use Rattle.glb_rules.specs.declared.kinds.Phase.{Phase}
use Rattle.glb_rules.specs.declared.kinds.Phase.TheVariants as phase
use Rattle.glb_rules.specs.declared.kinds.Side.TheVariants as side
use Rattle.glb_rules.specs.declared.local.Local.{Local}
use Rattle.glb_rules.specs.declared.local.MarkOn.{MarkOn}
use Rattle.glb_rules.specs.declared.params.Params.{Params}
use Rattle.glb_rules.specs.declared.event.Event.TheVariants as event
use Rattle.glb_rules.proofs.EdgeLemmas.Marks.{eq_self, eq_other}
use Rattle.glb_core.specs.Lifelines.{setup_of}
use Rattle.glb_place.specs.declared.record.KnownEdge.{KnownEdge}
use Rattle.glb_place.specs.declared.record.Record.{Record}
use Rattle.glb_place.specs.Records.{IsFirst, May, edge_like, known_at, setup_in}
use Rattle.glb_place.specs.Rows.{ask_row, batch_row, deny_row, give_row, known_row, mark_row, mint_row, shrug_row, sleep_row, take_row}
use Rattle.glb_place.specs.Calls.{IsOwn, is_working, look_row}
use Rattle.glb_place.specs.Places.{spare_items}
use Rattle.glb_run.specs.inner.Hands.{Carries, Follows, two_params, two_places}

-- the lines of two places lead from each to the other
pub two_lines : (c : Cube) → c.places ≡ 2 → c.base ≡ 2 → IsDimension 2 2 c.dimension
    → c ≡ two_places
two_lines c p b d =
    let one : c.dimension ≡ 1 =
    omega (arith, d.positive, d.least 1 (omega arith) (omega arith))
    in
    (λ i. cube_of (p i) (b i) (one i))

-- there is a line from a place to the other one
line_there : (q : Params) (p : ℕ) → p < 2
    → has_line (setup_of two_places q (λ n. false)) p (1 - p) ≡ true
unfolding has_line targets first_below
line_there q zero l = refl
line_there q (suc zero) l = refl
line_there q (suc (suc p)) l = absurd (omega arith)

-- and back
line_back : (q : Params) (p : ℕ) → p < 2
    → has_line (setup_of two_places q (λ n. false)) (1 - p) p ≡ true
unfolding has_line targets first_below
line_back q zero l = refl
line_back q (suc zero) l = refl
line_back q (suc (suc p)) l = absurd (omega arith)

-- a place whose marks on the edges from the other one are Clear has only such marks
all_clear : (q : Params) (ms : List MarkOn) (p : ℕ) → p < 2
    → mark_at ms kind.Steal (1 - p) ≡ mark.Clear → mark_at ms kind.Line (1 - p) ≡ mark.Clear
    → (k : Kind) (t : ℕ) → t < 2 → has_edge (setup_of two_places q (λ n. false)) k t p ≡ true
    → mark_at ms k t ≡ mark.Clear
unfolding has_line targets first_below
all_clear q ms zero l s m kind.Steal zero lt h = absurd (cc)
all_clear q ms zero l s m kind.Steal (suc zero) lt h = s
all_clear q ms zero l s m kind.Line zero lt h = absurd (cc)
all_clear q ms zero l s m kind.Line (suc zero) lt h = m
all_clear q ms (suc zero) l s m kind.Steal zero lt h = s
all_clear q ms (suc zero) l s m kind.Steal (suc zero) lt h = absurd (cc)
all_clear q ms (suc zero) l s m kind.Line zero lt h = m
all_clear q ms (suc zero) l s m kind.Line (suc zero) lt h = absurd (cc)
all_clear q ms p l s m k (suc (suc t)) lt h = absurd (omega arith)
all_clear q ms (suc (suc p)) l s m k t lt h = absurd (omega arith)

-- all lines of a place are armed where the one to the other place is Refused
all_armed : (I : Type 0) (q : Params) (ks : List KnownEdge) (p : ℕ) → p < 2
    → known_at ks kind.Line p (1 - p) ≡ seen.Refused
    → (v : ℕ) → v < 2 → has_line (setup_of two_places q (λ n. false)) p v ≡ true
    → IsArmed (edge_like {I = I} (known_at ks kind.Line p v))
unfolding has_line targets first_below
all_armed I q ks zero l x zero lt h = absurd (cc)
all_armed I q ks zero l x (suc zero) lt h =
    subst (λ e. IsArmed (edge_like {I = I} e)) (sym x) tt
all_armed I q ks (suc zero) l x zero lt h =
    subst (λ e. IsArmed (edge_like {I = I} e)) (sym x) tt
all_armed I q ks (suc zero) l x (suc zero) lt h = absurd (cc)
all_armed I q ks p l x (suc (suc v)) lt h = absurd (omega arith)
all_armed I q ks (suc (suc p)) l x v lt h = absurd (omega arith)

-- the state that was put on an edge is known of it
known_here : (ks : List KnownEdge) (x : Edge) (t v : ℕ)
    → known_at (record { name = name_of kind.Line t v; edge = x } ∷ ks) kind.Line t v ≡ x
known_here ks x t v = rw (eq_self t, eq_self v) refl

-- and of an edge of another thief what was known before
known_else : (ks : List KnownEdge) (x : Edge) (t v u w : ℕ) → t ≢ u
    → known_at (record { name = name_of kind.Line t v; edge = x } ∷ ks) kind.Line u w
    ≡ known_at ks kind.Line u w
known_else ks x t v u w n = rw (eq_other t u n) refl

-- the mark that was put on an edge
steal_mark_here : (ms : List MarkOn) (x : Mark) (t : ℕ)
    → mark_at (put_mark ms kind.Steal t x) kind.Steal t ≡ x
steal_mark_here ms x t = rw (eq_self t) refl

line_mark_here : (ms : List MarkOn) (x : Mark) (t : ℕ)
    → mark_at (put_mark ms kind.Line t x) kind.Line t ≡ x
line_mark_here ms x t = rw (eq_self t) refl

-- a value that is not there
pub none_of : {A : Type 0} (o : Option A) → is_some o ≡ false → o ≡ None
none_of None e = refl
none_of (Some x) e = absurd (cc)

-- what holds of a value that is there
if_some : {A : Type 0} (o : Option A) (P Q : A → Type 0) → ((x : A) → P x → Q x) → IfSome o P
    → IfSome o Q
if_some None P Q h s = tt
if_some (Some x) P Q h s = h x s

-- a look leaves the items
pub look_bag : {I : Type 0} (r : Record I) (v : ℕ) (k : Kind) (x : Edge)
    → (look_row v k side.Inward x r).local.bag ≡ r.local.bag
look_bag r v k x =
    by_mark (is_working r.local.phase && is_mark mark.Unseen (mark_at r.local.marks k v))
  where
    by_mark : (b : Bool)
        → (cond b (mark_row v k x r) (known_row (name_of k v r.place) x r)).local.bag ≡ r.local.bag
    by_mark true = refl
    by_mark false = refl

-- a test of few items
pub below_two : (n : ℕ) → nat_lt n 2 ≡ true → n < 2
below_two n e = grind (arith, nat_tests)

-- a place that works has not left
pub works_here : {I : Type 0} (r : Record I) → r.local.phase ≡ phase.Working
    → r.local.phase ≢ phase.Gone
works_here r e h = let d : phase.Working ≡ phase.Gone = sym e ∙ h in cc

-- no move leaves the items
pub nothing_moved : {X V : Type 0} (children : X → List X) (value : X → V) (combine : V → V → V)
    (before : List X) (start : V) (count : ℕ) (after : List X) (gain : V)
    → Expands children value combine before start count after gain → count ≡ 0
    → IsPermutation before after
nothing_moved {X = X} children value combine before start count after gain x e =
    by_taken x.taken (x.number ∙ e) x.moves
  where
    by_taken : (taken : List X) → length taken ≡ 0 → Moves children before taken after
        → IsPermutation before after
    by_taken [] n m = m
    by_taken (y ∷ ys) n m = absurd (omega arith)

-- a place at the start with items
pub follows_first : {I : Type 0} (r : Record I) (p : ℕ) (bag : List I) → p < 2
    → IsFirst two_places two_params p bag r → 0 < length bag
    → Follows r p phase.Working credit.One mark.Unseen mark.Unseen None seen.Idle 0
follows_first r p [] l F some = absurd (omega arith)
follows_first {I = I} r p (x ∷ xs) l F some = record {
  near = omega (arith, F.place);
  place_is = sym F.place;
  lines_are = F.lines_are;
  params_are = F.params_are;
  tries = ap (λ a. a.tries) F.local;
  phase_is = ap (λ a. a.phase) F.local;
  credit_is = ap (λ a. a.credit) F.local;
  steal_marked = ap (λ a. mark_at a.marks kind.Steal (1 - r.place)) F.local;
  line_marked = ap (λ a. mark_at a.marks kind.Line (1 - r.place)) F.local;
  in_is = tt;
  out_is = ap (λ x. known_at r.known kind.Line x (1 - x)) F.place
      ∙ F.known kind.Line p (1 - p) l (omega arith) (inl refl)
      ∙ ap
      (λ a. state_of {I = I}
      (first_line a (has_line (setup_of two_places two_params F.awake) p (1 - p))))
      F.own_awake;
  total_is = F.last;
}

module _ {I : Type 0} (r : Record I) (p : ℕ) (f : Phase) (c : Credit) (sm lm : Mark)
    (li : Option Edge) (lo : Edge) (n : ℕ) (H : Follows r p f c sm lm li lo n) where
  -- the place is one of two
  pub near_place : p < 2
  near_place = omega (arith, H.near, H.place_is)

  many : r.lines.places ≡ 2
  many = ap (λ (c : Cube). c.places) H.lines_are

module _ {I : Type 0} (r : Record I) (p : ℕ) (f : Phase) (c : Credit) (sm lm : Mark)
    (li : Option Edge) (lo : Edge) (n : ℕ) (H : Follows r p f c sm lm li lo n) (v : ℕ)
    (other : v ≡ 1 - p) where
  -- the other place
  at : v ≡ 1 - r.place
  at = other ∙ ap (λ x. 1 - x) H.place_is

  apart : v ≢ r.place
  apart e = let l = H.near in let a = at in omega arith

  within : v < r.lines.places
  within = let l = H.near in let a = at in let m = ap (λ (c : Cube). c.places) H.lines_are in
      omega arith

  inside : r.place < r.lines.places
  inside = let l = H.near in let m = ap (λ (c : Cube). c.places) H.lines_are in omega arith

  there_out : has_line (setup_in r) r.place v ≡ true
  there_out =
      subst (λ x. has_line (setup_in r) r.place x ≡ true) (sym at)
      (subst (λ c. has_line (setup_of c r.params (λ m. false)) r.place (1 - r.place) ≡ true)
      (sym H.lines_are) (line_there r.params r.place H.near))

  there_in : has_line (setup_in r) v r.place ≡ true
  there_in =
      subst (λ x. has_line (setup_in r) x r.place ≡ true) (sym at)
      (subst (λ c. has_line (setup_of c r.params (λ m. false)) (1 - r.place) r.place ≡ true)
      (sym H.lines_are) (line_back r.params r.place H.near))

  -- the edges at which it looks are its own
  pub own_steal : IsOwn r v kind.Steal side.Inward
  own_steal = (within, ap not (eq_other v r.place apart))

  pub own_in : IsOwn r v kind.Line side.Inward
  own_in = (within, there_in)

  pub own_out : IsOwn r v kind.Line side.Outward
  own_out = (within, there_out)

  -- a line that leads to it and is known is in this state
  known_in : (x : Edge) → li ≡ Some x → known_at r.known kind.Line v r.place ≡ x
  known_in x e =
      ap (λ u. known_at r.known kind.Line u r.place) at
      ∙ subst (λ o. IfSome o (λ y. known_at r.known kind.Line (1 - r.place) r.place ≡ y)) e H.in_is

  known_out : known_at r.known kind.Line r.place v ≡ lo
  known_out = ap (λ x. known_at r.known kind.Line r.place x) at ∙ H.out_is

  -- what it may do
  pub may_ask : f ≡ phase.Idle → lo ≡ seen.Idle → May r (event.Ask r.place v kind.Line)
  may_ask e g = (
    refl,
    (inside, inside, within),
    (H.phase_is ∙ e, H.tries, there_out, ap edge_like (known_out ∙ g)),
  )

  pub may_deny : li ≡ Some seen.Asked → r.local.phase ≢ phase.Gone
      → (r.local.phase ≢ phase.Working) ⊎ (length r.local.bag < 2)
      → May r (event.Deny r.place v kind.Line)
  may_deny e here none = (
    refl,
    (inside, within, inside),
    (ap edge_like (known_in seen.Asked e), here, none),
  )

  pub may_mint : f ≡ phase.Working → c ≡ credit.One → li ≡ Some seen.Refused
      → 1 < length r.local.bag → May r (event.Mint r.place)
  may_mint e g s some = (
    refl,
    (inside, inside, inside),
    (
      H.phase_is ∙ e,
      H.credit_is ∙ g,
      some,
      (kind.Line, v, within, there_in, inr (refl, ap edge_like (known_in seen.Refused s))),
    ),
  )

  pub may_give : f ≡ phase.Working → c ≡ credit.Minted → li ≡ Some seen.Refused
      → May r (event.Give r.place v kind.Line)
  may_give e g s = (
    refl,
    (inside, within, inside),
    (
      H.phase_is ∙ e,
      H.credit_is ∙ g,
      inr (refl, ap edge_like (known_in seen.Refused s)),
    ),
  )

  pub may_take : f ≡ phase.Asleep → lo ≡ seen.Loot → May r (event.Take r.place v kind.Line)
  may_take e g = (
    refl,
    (inside, inside, within),
    (([], ap edge_like (known_out ∙ g)), inr (refl, inl (H.phase_is ∙ e))),
  )

  pub may_shrug : f ≡ phase.Waiting v kind.Line → lo ≡ seen.Refused
      → May r (event.Shrug r.place v kind.Line)
  may_shrug e g = (
    refl,
    (inside, inside, within),
    (H.phase_is ∙ e, ap edge_like (known_out ∙ g)),
  )

  pub may_sleep : f ≡ phase.Idle → lo ≡ seen.Refused → May r (event.Sleep r.place)
  may_sleep e g = (
    refl,
    (inside, inside, inside),
    (
      H.phase_is ∙ e,
      H.tries,
      (λ u l h.
          all_armed I r.params r.known r.place H.near (H.out_is ∙ g) u
          (omega (arith, ap (λ (c : Cube). c.places) H.lines_are))
          (subst (λ c. has_line (setup_of c r.params (λ m. false)) r.place u ≡ true) H.lines_are h)),
    ),
  )

  pub may_batch : f ≡ phase.Working → c ≡ credit.One → sm ≡ mark.Clear → lm ≡ mark.Clear
      → length r.local.bag < 2
      → May r (event.Batch r.place)
  may_batch e g s m few = (
    refl,
    (inside, inside, inside),
    (
      H.phase_is ∙ e,
      H.credit_is ∙ g,
      (λ k t l h.
          all_clear r.params r.local.marks r.place H.near (H.steal_marked ∙ s) (H.line_marked ∙ m) k t
          (omega (arith, ap (λ (c : Cube). c.places) H.lines_are))
          (subst (λ c. has_edge (setup_of c r.params (λ m. false)) k t r.place ≡ true) H.lines_are
          h)),
      (λ some t l h. absurd (omega arith)),
    ),
  )

  -- what is known of the two lines after the one that leads to the other place changed
  out_put : (x : Edge)
      → known_at (record { name = name_of kind.Line r.place v; edge = x } ∷ r.known) kind.Line
      r.place (1 - r.place)
      ≡ x
  out_put x =
      subst
      (λ u. known_at (record { name = name_of kind.Line r.place v; edge = x } ∷ r.known) kind.Line
      r.place u
      ≡ x)
      at (known_here r.known x r.place v)

  in_kept : (x : Edge)
      → IfSome li (λ y. known_at (record { name = name_of kind.Line r.place v; edge = x } ∷ r.known)
      kind.Line (1 - r.place) r.place
      ≡ y)
  in_kept x =
      if_some li _ _
      (λ y k. known_else r.known x r.place v (1 - r.place) r.place
      (λ e. apart (at ∙ sym e)) ∙ k)
      H.in_is

  -- and after the one that leads here did
  in_put : (x : Edge)
      → known_at (record { name = name_of kind.Line v r.place; edge = x } ∷ r.known) kind.Line
      (1 - r.place) r.place
      ≡ x
  in_put x =
      subst
      (λ u. known_at (record { name = name_of kind.Line v r.place; edge = x } ∷ r.known) kind.Line
      u r.place
      ≡ x)
      at (known_here r.known x v r.place)

  out_kept : (x : Edge)
      → known_at (record { name = name_of kind.Line v r.place; edge = x } ∷ r.known) kind.Line
      r.place (1 - r.place)
      ≡ lo
  out_kept x =
      known_else r.known x v r.place r.place (1 - r.place) apart ∙ H.out_is

  steal_put : (x : Mark) → mark_at (put_mark r.local.marks kind.Steal v x) kind.Steal (1 - r.place)
      ≡ x
  steal_put x =
      subst (λ u. mark_at (put_mark r.local.marks kind.Steal v x) kind.Steal u ≡ x) at
      (steal_mark_here r.local.marks x v)

  line_put : (x : Mark) → mark_at (put_mark r.local.marks kind.Line v x) kind.Line (1 - r.place)
      ≡ x
  line_put x =
      subst (λ u. mark_at (put_mark r.local.marks kind.Line v x) kind.Line u ≡ x) at
      (line_mark_here r.local.marks x v)

  -- what it keeps where its local state, what is known of its lines or the total changed
  follow : (a : Local I) (ks : List KnownEdge) (t : ℕ) (g : Phase) (d : Credit) (sn ln : Mark)
      (mi : Option Edge) (mo : Edge)
      → a.tries ≡ 0 → a.phase ≡ g → a.credit ≡ d → mark_at a.marks kind.Steal (1 - r.place) ≡ sn
      → mark_at a.marks kind.Line (1 - r.place) ≡ ln
      → IfSome mi (λ e. known_at ks kind.Line (1 - r.place) r.place ≡ e)
      → known_at ks kind.Line r.place (1 - r.place) ≡ mo
      → Follows (record r { local = a; known = ks; last = t }) p g d sn ln mi mo t
  follow a ks t g d sn ln mi mo tries works credits steals lines ins outs = record {
    near = H.near;
    place_is = H.place_is;
    lines_are = H.lines_are;
    params_are = H.params_are;
    tries = tries;
    phase_is = works;
    credit_is = credits;
    steal_marked = steals;
    line_marked = lines;
    in_is = ins;
    out_is = outs;
    total_is = refl;
  }

  -- the same of a record that has the total
  follows_at : (x : Record I) (t : ℕ) (g : Phase) (d : Credit) (sn ln : Mark) (mi : Option Edge)
      (mo : Edge) → t ≡ n → Follows x p g d sn ln mi mo t → Follows x p g d sn ln mi mo n
  follows_at x t g d sn ln mi mo e h = subst (Follows x p g d sn ln mi mo) e h

  -- what it keeps after each of its events
  module _ (new : Record I) where
    pub after_ask : new ≡ ask_row v kind.Line r
        → Follows new p (phase.Waiting v kind.Line) c sm lm li seen.Asked n
    after_ask e =
        subst (λ x. Follows x p (phase.Waiting v kind.Line) c sm lm li seen.Asked n) (sym e)
        (follows_at _ _ _ _ _ _ _ _ H.total_is
        (follow _ _ _ _ _ _ _ _ _ H.tries refl H.credit_is H.steal_marked H.line_marked
        (in_kept seen.Asked) (out_put seen.Asked)))

    pub after_deny : new ≡ deny_row v kind.Line r
        → Follows new p f c sm mark.Clear (Some seen.Refused) lo n
    after_deny e =
        subst (λ x. Follows x p f c sm mark.Clear (Some seen.Refused) lo n) (sym e)
        (follows_at _ _ _ _ _ _ _ _ H.total_is
        (follow _ _ _ _ _ _ _ _ _ H.tries H.phase_is H.credit_is H.steal_marked
        (line_put mark.Clear) (in_put seen.Refused) (out_kept seen.Refused)))

    pub after_mint : new ≡ mint_row r → Follows new p f credit.Minted sm lm li lo n
    after_mint e =
        subst (λ x. Follows x p f credit.Minted sm lm li lo n) (sym e)
        (follows_at _ _ _ _ _ _ _ _ H.total_is
        (follow _ _ _ _ _ _ _ _ _ H.tries H.phase_is refl H.steal_marked H.line_marked H.in_is
        H.out_is))

    pub after_give : (part rest : List I) → new ≡ give_row v kind.Line part rest r
        → Follows new p f credit.One sm mark.Clear (Some seen.Loot) lo n
    after_give part rest e =
        subst (λ x. Follows x p f credit.One sm mark.Clear (Some seen.Loot) lo n) (sym e)
        (follows_at _ _ _ _ _ _ _ _ H.total_is
        (follow _ _ _ _ _ _ _ _ _ H.tries H.phase_is refl H.steal_marked (line_put mark.Clear)
        (in_put seen.Loot) (out_kept seen.Loot)))

    pub after_take : (part rest : List I) (d : Credit) → new ≡ take_row v kind.Line part rest r
        → d ≡ credit_after_take c
        → Follows new p phase.Working d sm lm li seen.Idle n
    after_take part rest d e is =
        subst (λ x. Follows x p phase.Working d sm lm li seen.Idle n) (sym e)
        (follows_at _ _ _ _ _ _ _ _ H.total_is
        (follow _ _ _ _ _ _ _ _ _ H.tries refl (ap credit_after_take H.credit_is ∙ sym is)
        H.steal_marked H.line_marked (in_kept seen.Idle) (out_put seen.Idle)))

    pub after_shrug : new ≡ shrug_row v kind.Line r
        → Follows new p phase.Idle c sm lm li lo n
    after_shrug e =
        subst (λ x. Follows x p phase.Idle c sm lm li lo n) (sym e)
        (follows_at _ _ _ _ _ _ _ _ H.total_is
        (follow _ _ _ _ _ _ _ _ _ H.tries refl H.credit_is H.steal_marked H.line_marked H.in_is
        H.out_is))

    pub after_sleep : new ≡ sleep_row r → Follows new p phase.Asleep credit.Zero sm lm li lo n
    after_sleep e =
        subst (λ x. Follows x p phase.Asleep credit.Zero sm lm li lo n) (sym e)
        (follows_at _ _ _ _ _ _ _ _ H.total_is
        (follow _ _ _ _ _ _ _ _ _ H.tries refl refl H.steal_marked H.line_marked H.in_is
        H.out_is))

    -- a look at its own line, which may tell of a part or not
    pub after_look_out : (x : Edge) → new ≡ known_row (name_of kind.Line r.place v) x r
        → Follows new p f c sm lm li x n
    after_look_out x e =
        subst (λ y. Follows y p f c sm lm li x n) (sym e)
        (follows_at _ _ _ _ _ _ _ _ H.total_is
        (follow _ _ _ _ _ _ _ _ _ H.tries H.phase_is H.credit_is H.steal_marked H.line_marked
        (in_kept x) (out_put x)))

    pub after_look_in : (x : Edge) → new ≡ look_row v kind.Line side.Inward x r → (m : Mark)
        → m ≡ cond (is_working f && is_mark mark.Unseen lm) (mark_after_look x) lm
        → Follows new p f c sm m (Some x) lo n
    after_look_in x e m is =
        subst (λ y. Follows y p f c sm m (Some x) lo n) (sym e)
        (subst (λ z. Follows (look_row v kind.Line side.Inward x r) p f c sm z (Some x) lo n)
        (sym is)
        (subst
        (λ b. Follows
        (cond b (mark_row v kind.Line x r) (known_row (name_of kind.Line v r.place) x r)) p f c sm
        (cond (is_working f && is_mark mark.Unseen lm) (mark_after_look x) lm) (Some x) lo n)
        (sym (λ i. is_working (H.phase_is i)
        && is_mark mark.Unseen
        ((ap (mark_at r.local.marks kind.Line) at ∙ H.line_marked) i)))
        (by_mark (is_working f && is_mark mark.Unseen lm))))
      where
        by_mark : (b : Bool)
            → Follows
            (cond b (mark_row v kind.Line x r) (known_row (name_of kind.Line v r.place) x r)) p f c
            sm (cond b (mark_after_look x) lm) (Some x) lo n
        by_mark true =
            follows_at _ _ _ _ _ _ _ _ H.total_is
            (follow _ _ _ _ _ _ _ _ _ H.tries H.phase_is H.credit_is H.steal_marked
            (line_put (mark_after_look x)) (in_put x) (out_kept x))
        by_mark false =
            follows_at _ _ _ _ _ _ _ _ H.total_is
            (follow _ _ _ _ _ _ _ _ _ H.tries H.phase_is H.credit_is H.steal_marked H.line_marked
            (in_put x) (out_kept x))

    pub after_look_steal : (x : Edge) → new ≡ look_row v kind.Steal side.Inward x r → (m : Mark)
        → m ≡ cond (is_working f && is_mark mark.Unseen sm) (mark_after_look x) sm
        → Follows new p f c m lm li lo n
    after_look_steal x e m is =
        subst (λ y. Follows y p f c m lm li lo n) (sym e)
        (subst (λ z. Follows (look_row v kind.Steal side.Inward x r) p f c z lm li lo n) (sym is)
        (subst
        (λ b. Follows
        (cond b (mark_row v kind.Steal x r) (known_row (name_of kind.Steal v r.place) x r)) p f c
        (cond (is_working f && is_mark mark.Unseen sm) (mark_after_look x) sm) lm li lo n)
        (sym (λ i. is_working (H.phase_is i)
        && is_mark mark.Unseen
        ((ap (mark_at r.local.marks kind.Steal) at ∙ H.steal_marked) i)))
        (by_mark (is_working f && is_mark mark.Unseen sm))))
      where
        by_mark : (b : Bool)
            → Follows
            (cond b (mark_row v kind.Steal x r) (known_row (name_of kind.Steal v r.place) x r)) p f
            c (cond b (mark_after_look x) sm) lm li lo n
        by_mark true =
            follows_at _ _ _ _ _ _ _ _ H.total_is
            (follow _ _ _ _ _ _ _ _ _ H.tries H.phase_is H.credit_is
            (steal_put (mark_after_look x)) H.line_marked H.in_is H.out_is)
        by_mark false =
            follows_at _ _ _ _ _ _ _ _ H.total_is
            (follow _ _ _ _ _ _ _ _ _ H.tries H.phase_is H.credit_is H.steal_marked H.line_marked
            H.in_is H.out_is)

    pub after_batch : (total : ℕ) (taken rest : List I) → new ≡ batch_row total taken rest r
        → Follows new p (phase_after_batch rest) c mark.Unseen mark.Unseen li lo total
    after_batch total taken [] e =
        subst (λ x. Follows x p phase.Idle c mark.Unseen mark.Unseen li lo total) (sym e)
        (follow _ _ _ _ _ _ _ _ _ (ap tries_of H.params_are) refl H.credit_is refl refl H.in_is
        H.out_is)
    after_batch total taken (x ∷ xs) e =
        subst (λ y. Follows y p phase.Working c mark.Unseen mark.Unseen li lo total) (sym e)
        (follow _ _ _ _ _ _ _ _ _ H.tries refl H.credit_is refl refl H.in_is H.out_is)

module _ {B I Q : Type 0} (items : B → List I) (fits : B → Q → Type 0) (q : Q) (r : Record I)
    (bag : B) (part : Option B) (H : Carries items fits q r bag part) (x : Q) (stays : x ≡ q)
    (new : Record I) where
  -- the items stay
  pub carries_as : new.local.bag ≡ r.local.bag → Carries items fits x new bag part
  carries_as same =
      subst (λ y. Carries items fits y new bag part) (sym stays)
      (record {
        carried = subst (λ xs. IsPermutation xs (spare_items items part ++ items bag)) (sym same)
            H.carried;
        bag_fits = H.bag_fits;
        part_fits = H.part_fits;
      })

  -- with nothing beside it the bag has the record's items
  whole : part ≡ None → IsPermutation r.local.bag (items bag)
  whole e = subst (λ o. IsPermutation r.local.bag (spare_items items o ++ items bag)) e H.carried

  pub long : part ≡ None → length r.local.bag ≡ length (items bag)
  long e = sym (length_permutation _ _ (whole e))

  -- the bag is another, with the same items
  pub carries_again : (left : B) → part ≡ None → IsPermutation (items bag) (items left)
      → fits left q → new.local.bag ≡ r.local.bag
      → Carries items fits x new left part
  carries_again left e s g same =
      subst (λ o. Carries items fits x new left o) (sym e)
      (subst (λ y. Carries items fits y new left None) (sym stays)
      (record {
        carried = subst (λ xs. IsPermutation xs (items left)) (sym same)
            (IsPermutation-trans _ _ _ (whole e) s);
        bag_fits = g;
        part_fits = tt;
      }))

  -- a bag that was split in two had two items
  pub had_two : (off left : List I) → part ≡ None → IsPermutation (items bag) (off ++ left)
      → 0 < length off → 0 < length left
      → 1 < length r.local.bag
  had_two off left e s a b =
      let m = length_permutation _ _ s in
      let n = long e in
      omega (arith, length-append off left)

  -- a bag of one item is all that the record has
  pub has_few : (n : ℕ) → part ≡ None → n ≡ min (length (items bag)) (2 ^ 64 - 1) → n < 2
      → length r.local.bag < 2
  has_few n e is few = let m = long e in omega arith

  -- a part was split off
  pub carries_split : (off left : B) → part ≡ None
      → IsPermutation (items bag) (items off ++ items left) → fits left q → fits off q
      → new.local.bag ≡ r.local.bag
      → Carries items fits x new left (Some off)
  carries_split off left e s g h same =
      subst (λ y. Carries items fits y new left (Some off)) (sym stays)
      (record {
        carried = subst (λ xs. IsPermutation xs (items off ++ items left)) (sym same)
            (IsPermutation-trans _ _ _ (whole e) s);
        bag_fits = g;
        part_fits = h;
      })

  -- the part was given
  pub carries_given : (off : B) (rest : List I) → part ≡ Some off
      → IsPermutation r.local.bag (items off ++ rest) → new.local.bag ≡ rest
      → Carries items fits x new bag None
  carries_given off rest e s same =
      subst (λ y. Carries items fits y new bag None) (sym stays)
      (record {
        carried = subst (λ xs. IsPermutation xs (items bag)) (sym same)
            (cancels (items off) rest (items bag)
            (IsPermutation-trans _ _ _ (IsPermutation-sym _ _ s)
            (subst (λ o. IsPermutation r.local.bag (spare_items items o ++ items bag)) e
            H.carried)));
        bag_fits = H.bag_fits;
        part_fits = tt;
      })

  -- a part was taken in
  pub carries_taken : (more : List I) (both : B) → part ≡ None
      → IsPermutation (items bag ++ more) (items both) → fits both q
      → new.local.bag ≡ more ++ r.local.bag
      → Carries items fits x new both part
  carries_taken more both e s g same =
      subst (λ o. Carries items fits x new both o) (sym e)
      (subst (λ y. Carries items fits y new both None) (sym stays)
      (record {
        carried = subst (λ xs. IsPermutation xs (items both)) (sym same)
            (IsPermutation-trans _ _ _ (IsPermutation-append_right more _ _ (whole e))
            (IsPermutation-trans _ _ _ (IsPermutation-append_comm more (items bag)) s));
        bag_fits = g;
        part_fits = tt;
      }))

  -- or could not be, and is kept beside the bag
  pub carries_beside : (more both : B) → part ≡ None → items both ≡ items bag → fits both q
      → fits more q → new.local.bag ≡ items more ++ r.local.bag
      → Carries items fits x new both (Some more)
  carries_beside more both e s g h same =
      subst (λ y. Carries items fits y new both (Some more)) (sym stays)
      (record {
        carried = subst (λ xs. IsPermutation xs (items more ++ items both)) (sym same)
            (subst (λ ys. IsPermutation (items more ++ r.local.bag) (items more ++ ys)) (sym s)
            (IsPermutation-append_right (items more) _ _ (whole e)));
        bag_fits = g;
        part_fits = h;
      })

  -- what was expanded from the bag was expanded from the record's items
  pub batch_moves : {V : Type 0} → part ≡ None → (children : I → List I) (value : I → V)
      (combine : V → V → V) (start gain : V) (k : ℕ) (left : List I)
      → Expands children value combine (items bag) start k left gain
      → Expands children value combine r.local.bag start k left gain
  batch_moves e children value combine start gain k left y = record {
    taken = y.taken;
    number = y.number;
    moves = moves_before children r.local.bag (items bag) y.taken left (whole e) y.moves;
    value_is = y.value_is;
  }

  -- the items are those that a batch left
  pub carries_settled : (left : B) → part ≡ None → fits left q → new.local.bag ≡ items left
      → Carries items fits x new left part
  carries_settled left e g same =
      subst (λ o. Carries items fits x new left o) (sym e)
      (subst (λ y. Carries items fits y new left None) (sym stays)
      (record {
        carried = subst (λ xs. IsPermutation xs (items left)) (sym same)
            (IsPermutation-refl (items left));
        bag_fits = g;
        part_fits = tt;
      }))
