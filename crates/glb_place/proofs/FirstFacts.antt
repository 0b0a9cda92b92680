-- What a place knows at the start.
use Rattle.std.specs.Prelude.{None}
use Rattle.std.proofs.Common.{◌≡◌, ◌≢◌, ℕ, ◌+◌, ◌-◌, ◌^◌, ◌<◌, inl, inr, ⊎_elim, Bool, true, false, not, ◌==◌, List, [], ◌∷◌, length, map, min, refl, sym, ap, ◌∙◌, subst, arith}
use Rattle.std.specs.List.Sorted.{IsPermutation}
use Rattle.std.proofs.lemmas.List.Sorted.{IsPermutation-refl}
use Rattle.rand_pcg.specs.Lcg.{Lcg, advance, started, increment_of}
use Rattle.rand_pcg.specs.Pcg.{multiplier_64}
use Rattle.glb_cube.specs.Lines.{IsCube, outs_of}
use Rattle.glb_laws.specs.Numbers.{has_number}
use Rattle.glb_rules.specs.World.{Asked, has_line, mark_at, state_of}
use Rattle.glb_rules.specs.History.{first_phase, first_credit, first_line}
use Rattle.glb_rules.specs.Draws.{drawn}
use Rattle.glb_rules.specs.Lawful.{PhaseFits}
use Rattle.glb_rules.specs.Setups.{IsWithinLimits, tries_of, has_items}
use Rattle.glb_core.specs.Lifelines.{setup_of}
use Rattle.glb_rules.specs.Sight.{Sight, IsIn, each_below, state_at}
use Rattle.glb_core.specs.Seen.{first_sight, first_steal_in, first_line_in, first_line_out}
use Rattle.glb_rules.proofs.Sums.Members.{in_append, in_map}
use Rattle.glb_rules.proofs.EdgeLemmas.Made.{in_line}
use Rattle.glb_core.proofs.Lifelines.Seen.{first_made}
use Rattle.glb_core.proofs.Lifelines.Setups.{proper, line_is, outs_are}
use Rattle.glb_rules.specs.declared.kinds.Kind.{Kind}
use Rattle.glb_rules.specs.declared.kinds.Kind.TheVariants as kind
use Rattle.glb_rules.specs.declared.kinds.Edge.{Edge}
use Rattle.glb_rules.specs.declared.kinds.Edge.TheVariants as seen
use Rattle.glb_rules.specs.declared.kinds.Mark.TheVariants as mark
use Rattle.glb_rules.specs.declared.kinds.Phase.TheVariants as phase
use Rattle.glb_rules.specs.declared.kinds.Credit.TheVariants as credit
use Rattle.glb_rules.specs.declared.local.Local.{Local}
use Rattle.glb_rules.specs.declared.params.Params.{Params}
use Rattle.glb_rules.specs.declared.edges.InEdge.{InEdge}
use Rattle.glb_rules.specs.declared.edges.OutEdge.{OutEdge}
use Rattle.glb_place.specs.declared.record.Record.{Record}
use Rattle.glb_place.specs.Records.{known_at, edge_like, setup_in, world_in, IsFirst}
use Rattle.glb_place.specs.inner.Seeing.{with_state, first_known}
use Rattle.glb_place.specs.inner.Standing.{TellsIn, TellsOuts, Tells, IsRunning, Agrees, Holds}
use Rattle.glb_laws.specs.Expansion.{combined}
use Rattle.glb_rules.specs.History.{no_counts}
use Rattle.glb_core.specs.Counters.{counters_of}
use Rattle.glb_stats.specs.declared.counters.Counters.{Counters}
use Rattle.glb_place.proofs.KnownFacts.{map_kept}
use Rattle.glb_place.proofs.SightLists.{in_each}

-- the record is the first one of its own place
pub first_own : {I : Type 0} (lines : _) (params : Params) (p : ℕ) (xs : List I) (r : Record I)
    → IsFirst lines params p xs r → IsFirst r.lines r.params r.place xs r
first_own lines params p xs r F =
    subst (λ q. IsFirst r.lines r.params q xs r) (sym F.place)
    (subst (λ q. IsFirst r.lines q p xs r) (sym F.params_are)
    (subst (λ c. IsFirst c params p xs r) (sym F.lines_are) F))

-- a place is not gone at the start
phase_here : (b : Bool) → first_phase b ≢ phase.Gone
phase_here true e = cc
phase_here false e = cc

-- nor does it wait
phase_not_waiting : (b : Bool) (v : ℕ) (k : Kind) → first_phase b ≢ phase.Waiting v k
phase_not_waiting true v k e = cc
phase_not_waiting false v k e = cc

-- nor has it a credit for a part
credit_not_minted : (b : Bool) → first_credit b ≢ credit.Minted
credit_not_minted true e = cc
credit_not_minted false e = cc

-- phase, credit and bag go together
fits_first : {I : Type 0} (xs : List I)
    → PhaseFits (first_phase (has_items xs)) (first_credit (has_items xs)) (length xs)
fits_first [] = (refl, refl)
fits_first (x ∷ xs) = (omega arith, λ (e : credit.One ≡ credit.Zero). cc)

-- no line is Asked
line_not_asked : (I : Type 0) (a b : Bool) → state_of {I = I} (first_line a b) ≢ seen.Asked
line_not_asked I true b e = cc
line_not_asked I false true e = cc
line_not_asked I false false e = cc

-- an edge made of a state is Asked only where the state is
like_asked : {I : Type 0} (e : Edge) → edge_like {I = I} e ≡ Asked → e ≡ seen.Asked
like_asked seen.Idle e = absurd (cc)
like_asked seen.Asked e = refl
like_asked seen.Refused e = absurd (cc)
like_asked seen.Loot e = absurd (cc)

-- the lines of a place begin Idle where it is awake, and else Refused
own_line : (I : Type 0) (a b : Bool) → a ≡ b → state_of {I = I} (first_line a true) ≡ first_known b
own_line I true true e = refl
own_line I true false e = cc
own_line I false true e = cc
own_line I false false e = refl

module _ {I : Type 0} (r : Record I) (xs : List I) (F : IsFirst r.lines r.params r.place xs r)
    (cube : IsCube r.lines) (limits : IsWithinLimits r.params)
    (same : r.params.places ≡ r.lines.places)
    (within : r.place < r.lines.places) where
  -- the place has items
  abbrev awake : Bool
  awake = has_items xs

  -- what the place sees first, with the states of its own lines
  abbrev first_view : Sight
  first_view = record (first_sight r.lines r.place) {
    outs = map (with_state (first_known awake)) (first_sight r.lines r.place).outs;
  }

  -- the record has no credit for a part
  minted_not : r.local.credit ≢ credit.Minted
  minted_not e = credit_not_minted awake (sym (ap (λ (a : Local I). a.credit) F.local) ∙ e)

  -- the record waits on nothing
  waits_not : (v : ℕ) (k : Kind) → r.local.phase ≢ phase.Waiting v k
  waits_not v k e = phase_not_waiting awake v k (sym (ap (λ (a : Local I). a.phase) F.local) ∙ e)

  -- the record has no marks
  unseen : (k : Kind) (t : ℕ) → mark_at r.local.marks k t ≡ mark.Unseen
  unseen k t = ap (λ (a : Local I). mark_at a.marks k t) F.local

  -- the record is one of a run
  first_runs : IsRunning r
  first_runs = record {
    here = λ e. phase_here awake (sym (ap (λ (a : Local I). a.phase) F.local) ∙ e);
    within = within;
    places = same;
    cube = cube;
    limits = limits;
    tries = let t = ap (λ (a : Local I). a.tries) F.local in omega (arith, t);
    goes_on = F.over;
    not_halted = F.code;
    last = let l = F.last in omega arith;
  }

  -- a line that leads to the place is taken for Refused until it is looked at
  early : (t : ℕ) (x : InEdge) → x ≡ first_line_in t → (b : Bool)
      → known_at r.known kind.Line t r.place ≡ state_of {I = I} (first_line b true) → TellsIn r x
  early t x e true k = subst (TellsIn r) (sym e) (record {
    mark = unseen kind.Line t;
    edge = inr (record { not_minted = minted_not; mark = refl; taken_for = refl; known = k });
  })
  early t x e false k = subst (TellsIn r) (sym e)
      (record { mark = unseen kind.Line t; edge = inl k })

  -- the in-edges seen agree with the record
  first_ins : (x : InEdge) → IsIn x (first_sight r.lines r.place).ins → TellsIn r x
  first_ins x i = ⊎_elim
      (λ h.
      let y = in_each r.lines.places (λ t. not (t == r.place)) first_steal_in x h in
      subst (TellsIn r) (sym y.3)
      (record {
        mark = unseen kind.Steal y.0;
        edge =
            inl (F.known kind.Steal y.0 r.place y.1 within (inr refl));
      }))
      (λ h.
      let y = in_each r.lines.places (λ t. has_number r.place (outs_of r.lines t))
      first_line_in x h in
      let there : has_line (setup_of r.lines r.params F.awake) y.0 r.place ≡ true =
      line_is r.lines r.params F.awake y.0 r.place y.1 ∙ y.2 in
      early y.0 x y.3 (F.awake y.0)
      (F.known kind.Line y.0 r.place y.1 within (inr refl)
      ∙ ap (λ b. state_of {I = I} (first_line (F.awake y.0) b)) there))
      (in_append (each_below r.lines.places (λ t. not (t == r.place)) first_steal_in)
      (each_below r.lines.places (λ t. has_number r.place (outs_of r.lines t)) first_line_in) x i)

  -- so do the lines
  first_outs : TellsOuts r first_view.outs
  first_outs y i =
      let n = in_map (with_state (first_known awake))
      (map first_line_out (outs_of r.lines r.place)) y i in
      let m = in_map first_line_out (outs_of r.lines r.place) n.0 n.1 in
      let v = m.0 in
      let in_outs : IsIn v ((setup_of r.lines r.params F.awake).outs r.place) =
      subst (IsIn v) (sym (outs_are r.lines r.params F.awake r.place within)) m.1 in
      let there = in_line (setup_of r.lines r.params F.awake) r.place v in_outs in
      let batch : 0 < r.params.batch = let b = limits.batch.0 in omega arith in
      let near = (proper r.lines r.params F.awake cube same batch).near r.place v there in
      let k = F.known kind.Line r.place v within near (inl refl)
      ∙ ap (λ b. state_of {I = I} (first_line (F.awake r.place) b)) there
      ∙ own_line I (F.awake r.place) awake F.own_awake in
      let e : y ≡ with_state (first_known awake) (first_line_out v) =
      n.2 ∙ ap (with_state (first_known awake)) m.2 in
      subst (λ (w : OutEdge). known_at r.known kind.Line r.place w.victim ≡ w.edge) (sym e) k

  -- so does all that is seen
  first_tells : Tells r first_view 0
  first_tells = record {
    own = record {
      fits = subst (λ (a : Local I). PhaseFits a.phase a.credit (length a.bag)) (sym F.local)
          (fits_first xs);
      near = λ v k e. absurd (waits_not v k e);
      pending = λ k t l e. let d : mark.Unseen ≡ mark.Pending = sym (unseen k t) ∙ e in absurd (cc);
      steal = λ v l e. ap (edge_like {I = I}) (F.known kind.Steal r.place v within l (inl refl));
      line = λ v l e. absurd (line_not_asked I (F.awake r.place)
          (has_line (setup_of r.lines r.params F.awake) r.place v)
          (sym (F.known kind.Line r.place v within l (inl refl))
          ∙ like_asked {I = I} (known_at r.known kind.Line r.place v) e));
    };
    made = record {
      ins = (first_made r.lines r.place).ins;
      outs = map_kept (with_state (first_known awake)) (λ (y : OutEdge). y.victim)
          (first_sight r.lines r.place).outs (λ y. refl)
          ∙ (first_made r.lines r.place).outs;
    };
    ins = first_ins;
    outs = first_outs;
    waited = λ v k e. absurd (waits_not v k e);
    goes_on = refl;
    not_halted = refl;
    looked_until = λ i d l. absurd (omega arith);
    wanted = λ e. absurd (minted_not e);
  }

  -- the place agrees with its record at the start
  pub first_agrees : {B : Type 0} (items : B → List I) (params : Params) (bag : B) (victim : ℕ)
      (words : Lcg)
      → params ≡ r.params
      → victim ≡ drawn r.params.seed r.lines.places r.place 0
      → (1 < r.lines.places → words ≡ advance 64 multiplier_64 1
      (started 64 multiplier_64 r.params.seed (increment_of 64 r.place)))
      → Agrees items r params bag None
      (record {
        place = r.place;
        phase = first_phase awake;
        credit = first_credit awake;
        tries = tries_of r.params;
        victim = victim;
        size = min (length xs) (2 ^ 64 - 1);
      })
      first_view 0 words
  first_agrees items params bag victim words params_same chose drew = record {
    running = first_runs;
    tells = first_tells;
    is =
        let e = F.local in
        (λ i. record {
          place = r.place;
          phase = first_phase awake;
          credit = first_credit awake;
          tries = tries_of r.params;
          victim = chose i;
          size = min (length xs) (2 ^ 64 - 1);
        })
        ∙ (λ i. state_at r.params.seed (setup_in r) (record (world_in r) { place = λ q. sym e i })
        r.place);
    draws = λ l. drew l ∙ ap (λ (a : Local I). advance 64 multiplier_64 (a.count.asks + 1)
        (started 64 multiplier_64 r.params.seed (increment_of 64 r.place))) (sym F.local);
    params_are = params_same;
    split = λ e. absurd (minted_not e);
    whole = λ n. refl;
  }

-- what a place sees at the start, where `awake` says whether it has items
abbrev pub view_of : {I : Type 0} → Record I → ℕ → Bool → Sight
view_of r p awake = record (first_sight r.lines p) {
  outs = map (with_state (first_known awake)) (first_sight r.lines p).outs;
}

module _ {B I : Type 0} (items : B → List I) (r : Record I) (bag : B) (victim : ℕ) (words : Lcg)
    (cube : IsCube r.lines) where
  -- the same for a place and parameters that the record names
  abbrev KnowsFirst : ℕ → Params → Type 0
  KnowsFirst p params =
      IsWithinLimits params → params.places ≡ r.lines.places → p < params.places
      → victim ≡ drawn params.seed params.places p 0
      → (1 < params.places → words ≡ advance 64 multiplier_64 1
      (started 64 multiplier_64 params.seed (increment_of 64 p)))
      → Agrees items r params bag None
      (record {
        place = p;
        phase = first_phase (has_items (items bag));
        credit = first_credit (has_items (items bag));
        tries = tries_of params;
        victim = victim;
        size = min (length (items bag)) (2 ^ 64 - 1);
      })
      (view_of r p (has_items (items bag))) 0 words

  -- of the place and the parameters in the record it holds
  knows_own : IsFirst r.lines r.params r.place (items bag) r → KnowsFirst r.place r.params
  knows_own F limits same within chose drew =
      first_agrees r (items bag) F cube limits same (omega (arith, same))
      items r.params bag victim words refl
      (chose ∙ ap (λ n. drawn r.params.seed n r.place 0) same) (λ l. drew (omega (arith, same)))

  -- and of those that are equal to them
  pub knows_first : (p : ℕ) (params : Params) → IsFirst r.lines params p (items bag) r
      → KnowsFirst p params
  knows_first p params F =
      subst (λ q. KnowsFirst q params) F.place
      (subst (λ q. KnowsFirst r.place q) F.params_are
      (knows_own (first_own r.lines params p (items bag) r F)))

  -- what a place holds at the start
  pub first_holds : {V Q : Type 0} (fits : B → Q → Type 0) (value : Q → I → V) (unit : V)
      (combine : V → V → V)
      (q : Q) (sum : V) (counters : Counters) (p : ℕ) (params : Params)
      → IsFirst r.lines params p (items bag) r
      → sum ≡ unit → counters ≡ counters_of no_counts → fits bag q
      → Holds items fits value unit combine q r bag None sum counters
  first_holds fits value unit combine q sum counters p params F s e f = record {
    carried = subst (λ (a : Local I). IsPermutation a.bag (items bag)) (sym F.local)
        (IsPermutation-refl (items bag));
    folded = s ∙ ap (λ (a : Local I). combined (value q) combine unit a.done) (sym F.local);
    counted = ap (λ (a : Local I). a.count.items) F.local
        ∙ ap (λ (a : Local I). length a.done) (sym F.local);
    counters_are = e ∙ ap (λ (a : Local I). counters_of a.count) (sym F.local);
    bag_fits = f;
    spare_fits = tt;
  }
