-- What a place knows still agrees with its record after each action.
use Rattle.std.specs.Prelude.{Some, None, Option}
use Rattle.std.proofs.Common.{◌≡◌, ◌≢◌, ℕ, ◌+◌, ◌-◌, ◌^◌, ◌<◌, ◌≤◌, true, false, List, [], ◌∷◌, ◌++◌, length, get_or, set, map, min, refl, sym, ap, ◌∙◌, arith}
use Rattle.rand_pcg.specs.Lcg.{Lcg, next, advance, started, increment_of}
use Rattle.rand_pcg.specs.Pcg.{multiplier_64, output_xsh_rr}
use Rattle.glb_rules.specs.World.{has_edge}
use Rattle.glb_rules.specs.Events.{name_of}
use Rattle.glb_rules.specs.Draws.{drawn, victim_of}
use Rattle.glb_rules.specs.Effects.{mark_after_look, credit_after_take, phase_after_batch, tries_after}
use Rattle.glb_rules.specs.Setups.{tries_of}
use Rattle.glb_rules.specs.Sight.{Sight, IsIn, state_at}
use Rattle.glb_rules.specs.Decision.{is_unseen, is_wanted}
use Rattle.glb_core.proofs.Tables.PlaceRows.{advance_next, word_is, drawn_is}
use Rattle.glb_rules.specs.declared.kinds.Kind.{Kind}
use Rattle.glb_rules.specs.declared.kinds.Kind.TheVariants as kind
use Rattle.glb_rules.specs.declared.kinds.Edge.{Edge}
use Rattle.glb_rules.specs.declared.kinds.Edge.TheVariants as seen
use Rattle.glb_rules.specs.declared.kinds.Mark.TheVariants as mark
use Rattle.glb_rules.specs.declared.kinds.Phase.{Phase}
use Rattle.glb_rules.specs.declared.kinds.Phase.TheVariants as phase
use Rattle.glb_rules.specs.declared.kinds.Credit.{Credit}
use Rattle.glb_rules.specs.declared.kinds.Credit.TheVariants as credit
use Rattle.glb_rules.specs.declared.kinds.Side.TheVariants as side
use Rattle.glb_rules.specs.declared.local.Local.{Local}
use Rattle.glb_rules.specs.declared.params.Params.{Params}
use Rattle.glb_rules.specs.declared.place_state.PlaceState.{PlaceState}
use Rattle.glb_rules.specs.declared.edges.InEdge.{InEdge}
use Rattle.glb_rules.specs.declared.event.Event.TheVariants as event
use Rattle.glb_place.specs.declared.record.KnownEdge.{KnownEdge}
use Rattle.glb_place.specs.declared.record.Record.{Record}
use Rattle.glb_place.specs.Records.{setup_in, world_in, May}
use Rattle.glb_place.specs.Rows.{mark_row, deny_row, give_row, mint_row, burn_row, sleep_row, ask_row, take_row, shrug_row, known_row, batch_row}
use Rattle.glb_place.specs.Calls.{MayFind, look_row, is_working}
use Rattle.glb_place.specs.inner.Seeing.{with_mark, with_line, unmarked}
use Rattle.glb_place.specs.inner.Standing.{Tells, IsRunning, Agrees}
use Rattle.glb_place.proofs.ThiefFacts.{tells_asked, tells_took, tells_shrugged, tells_arrived, tells_waited, tells_watched, tells_slept, lines_with}
use Rattle.glb_place.proofs.VictimFacts.{tells_marked, tells_denied, tells_gave, tells_polled, tells_minted, tells_burnt, tells_settled, seen_first, at_first, other_victim, in_there}
use Rattle.glb_place.proofs.KnownFacts.{member}

module _ {B I : Type 0} (items : B → List I) (r : Record I) (params : Params) (bag : B)
    (spare : Option B)
    (a : PlaceState) (z : Sight) (first : ℕ) (words : Lcg)
    (A : Agrees items r params bag spare a z first words) where
  -- what is seen agrees with the record
  abbrev T : Tells r z first
  T = A.tells

  -- the record is one of a run
  abbrev R : IsRunning r
  R = A.running

  -- the record stays one of a run where the place is not gone and has no more tries
  runs : (known : List KnownEdge) (b : Local I) → b.phase ≢ phase.Gone → b.tries ≤ tries_of r.params
      → IsRunning (record r { known = known; local = b })
  runs known b here tries = record {
    here = here;
    within = R.within;
    places = R.places;
    cube = R.cube;
    limits = R.limits;
    tries = tries;
    goes_on = R.goes_on;
    not_halted = R.not_halted;
    last = R.last;
  }

  -- the place holds the same, and knows the same of itself
  same_self : (new : Record I) (y : Sight) (later : ℕ) → IsRunning new → Tells new y later
      → (a ≡ state_at new.params.seed (setup_in new) (world_in new) new.place)
      → (1 < new.lines.places → words ≡ advance 64 multiplier_64 (new.local.count.asks + 1)
      (started 64 multiplier_64 new.params.seed (increment_of 64 new.place)))
      → params ≡ new.params → new.local.credit ≡ r.local.credit
      → Agrees items new params bag spare a y later words
  same_self new y later running tells is draws same credits = record {
    running = running;
    tells = tells;
    is = is;
    draws = draws;
    params_are = same;
    split = λ e. A.split (sym credits ∙ e);
    whole = λ n. A.whole (λ e. n (credits ∙ e));
  }

  -- the place looked at the first in-edge at which it had not
  pub agrees_marked : (d : InEdge) (x : Edge) → first < length z.ins
      → May r (event.Look r.place (at_first r z first T R d).thief (at_first r z first T R d).kind)
      → r.local.credit ≢ credit.Minted
      → Agrees items (mark_row (at_first r z first T R d).thief
      (at_first r z first T R d).kind x r) params bag spare a
      (record z { ins = seen_first r z first T R d (mark_after_look x) x }) (first + 1) words
  agrees_marked d x l m free = same_self _ _ (first + 1) (runs _ _ R.here R.tries)
      (tells_marked r z first T R d x l m free) A.is A.draws A.params_are refl

  -- a request was refused
  pub agrees_denied : (k : Kind) (t : ℕ) → has_edge (setup_in r) k t r.place ≡ true
      → r.local.credit ≢ credit.Minted
      → Agrees items (deny_row t k r) params bag spare a
      (record z { ins = map (with_mark k t mark.Clear seen.Refused) z.ins }) first words
  agrees_denied k t h free = same_self _ _ first (runs _ _ R.here R.tries)
      (tells_denied r z first T R k t h free) A.is A.draws A.params_are refl

  -- the part was given
  pub agrees_gave : (k : Kind) (t : ℕ) (part rest : List I) (size : ℕ)
      → has_edge (setup_in r) k t r.place ≡ true
      → May r (event.Give r.place t k) → 0 < length rest → size ≡ min (length rest) (2 ^ 64 - 1)
      → Agrees items (give_row t k part rest r) params bag None
      (record a { credit = credit.One; size = size })
      (record z { ins = map (with_mark k t mark.Clear seen.Loot) z.ins }) first words
  agrees_gave k t part rest size h m some long = record {
    running = runs _ _ R.here R.tries;
    tells = tells_gave r z first T R k t part rest h m some;
    is = let e = A.is in λ i. record (e i) { credit = credit.One; size = long i };
    draws = A.draws;
    params_are = A.params_are;
    split = λ (e : credit.One ≡ credit.Minted). absurd (cc);
    whole = λ n. refl;
  }

  -- the bag was split, and a credit taken for the part
  pub agrees_minted : (part left : B) → May r (event.Mint r.place)
      → ((x : InEdge) → IsIn x z.ins → is_unseen x ≡ false)
      → ((x : InEdge) × IsIn x z.ins × (is_wanted x ≡ true))
      → (0 < length (items part)) × (0 < length (items left))
      → Agrees items (mint_row r) params left (Some part) (record a { credit = credit.Minted })
      z first words
  agrees_minted part left m none wanted halves = record {
    running = runs r.known _ R.here R.tries;
    tells = tells_minted r z first T R m none wanted;
    is = ap (λ (b : PlaceState). record b { credit = credit.Minted }) A.is;
    draws = A.draws;
    params_are = A.params_are;
    split = λ e. halves;
    whole = λ n. absurd (n refl);
  }

  -- one credit was given back
  pub agrees_burnt : May r (event.Burn r.place)
      → Agrees items (burn_row r) params bag spare (record a { credit = credit.One }) z first words
  agrees_burnt m = record {
    running = runs r.known _ R.here R.tries;
    tells = tells_burnt r z first T R m;
    is = ap (λ (b : PlaceState). record b { credit = credit.One }) A.is;
    draws = A.draws;
    params_are = A.params_are;
    split = λ (e : credit.One ≡ credit.Minted). absurd (cc);
    whole = λ n. A.whole (λ (e : r.local.credit ≡ credit.Minted).
        let t = m.2 in let d : credit.Taken ≡ credit.Minted = sym t ∙ e in cc);
  }

  -- the place fell asleep
  pub agrees_slept : May r (event.Sleep r.place) → r.local.credit ≢ credit.Minted
      → Agrees items (sleep_row r) params bag spare
      (record a { phase = phase.Asleep; credit = credit.Zero }) z first words
  agrees_slept m free = record {
    running = runs r.known _ (λ (e : phase.Asleep ≡ phase.Gone). cc) R.tries;
    tells = tells_slept r z first T m;
    is = ap (λ (b : PlaceState). record b { phase = phase.Asleep; credit = credit.Zero }) A.is;
    draws = A.draws;
    params_are = A.params_are;
    split = λ (e : credit.Zero ≡ credit.Minted). absurd (cc);
    whole = λ n. A.whole free;
  }

  -- with another place there are two
  two_places : (v : ℕ) → v < r.lines.places → v ≢ r.place → 1 < r.lines.places
  two_places v l n = let w = R.within in omega arith

  -- the next random victim, from the next word
  pub agrees_asked : (v w : ℕ) (more : Lcg) → May r (event.Ask r.place v kind.Steal)
      → has_edge (setup_in r) kind.Steal r.place v ≡ true → r.local.credit ≢ credit.Minted
      → more ≡ next 64 multiplier_64 words → w
      ≡ victim_of (output_xsh_rr words.state) params.places a.place
      → Agrees items (ask_row v kind.Steal r) params bag spare
      (record a { phase = phase.Waiting v kind.Steal; tries = a.tries - 1; victim = w })
      (record z { waited = seen.Asked }) first more
  agrees_asked v w more m there free drew chose =
      let other = other_victim r z first T R kind.Steal v there in
      let two = two_places v m.1.2 other in
      let now = A.draws two in
      let many : params.places ≡ r.lines.places = ap (λ (q : Params). q.places) A.params_are
      ∙ R.places in
      let here : a.place ≡ r.place = ap (λ (b : PlaceState). b.place) A.is in
      record {
        running = runs _ _ (λ (e : phase.Waiting v kind.Steal ≡ phase.Gone). cc)
            (let t = R.tries in omega arith);
        tells = tells_asked r z first T v kind.Steal m there other free;
        is =
            let e = A.is in
            let c : w ≡ drawn r.params.seed r.lines.places r.place (r.local.count.asks + 1) =
            chose ∙ (λ i. victim_of (output_xsh_rr words.state) (many i) (here i))
            ∙ drawn_is r.params.seed r.lines.places r.place (r.local.count.asks + 1)
            (output_xsh_rr words.state) two
            (word_is r.params.seed r.place (r.local.count.asks + 1) words now) in
            λ i. record (e i) {
              phase = phase.Waiting v kind.Steal;
              tries = (e i).tries - 1;
              victim = c i;
            };
        draws = λ _. drew ∙ advance_next 64 multiplier_64 (r.local.count.asks + 1) _ words now;
        params_are = A.params_are;
        split = λ e. absurd (free e);
        whole = A.whole;
      }

  -- a request over a lifeline is none to a random victim
  no_more : r.local.count.asks ≡ r.local.count.asks + 0
  no_more = omega arith

  -- a request was made over a lifeline
  pub agrees_line_asked : (v : ℕ) → May r (event.Ask r.place v kind.Line)
      → has_edge (setup_in r) kind.Line r.place v ≡ true → r.local.credit ≢ credit.Minted
      → Agrees items (ask_row v kind.Line r) params bag spare
      (record a { phase = phase.Waiting v kind.Line })
      (record z { outs = map (with_line v seen.Asked) z.outs; waited = seen.Asked }) first words
  agrees_line_asked v m there free = record {
    running = runs _ _ (λ (e : phase.Waiting v kind.Line ≡ phase.Gone). cc) R.tries;
    tells = tells_asked r z first T v kind.Line m there
        (other_victim r z first T R kind.Line v there) free;
    is = ap (λ (b : PlaceState). record b { phase = phase.Waiting v kind.Line }) A.is
        ∙ ap (λ n. record (state_at r.params.seed (setup_in r) (world_in r) r.place) {
          phase = phase.Waiting v kind.Line;
          victim = drawn r.params.seed r.lines.places r.place n;
        }) no_more;
    draws = λ l. A.draws l
        ∙ ap (λ n. advance 64 multiplier_64 (n + 1)
        (started 64 multiplier_64 r.params.seed (increment_of 64 r.place))) no_more;
    params_are = A.params_are;
    split = λ e. absurd (free e);
    whole = A.whole;
  }

  -- a part was taken and merged
  pub agrees_took : (v : ℕ) (k : Kind) (part : List I) (both : B) (size : ℕ)
      → May r (event.Take r.place v k)
      → has_edge (setup_in r) k r.place v ≡ true → 0 < length part → r.local.credit ≢ credit.Minted
      → size ≡ min (length (part ++ r.local.bag)) (2 ^ 64 - 1)
      → Agrees items (take_row v k part (part ++ r.local.bag) r) params both spare
      (record a { phase = phase.Working; credit = credit_after_take a.credit; size = size })
      (record z { outs = lines_with r z first T k v seen.Idle }) first words
  agrees_took v k part both size m there some free long = record {
    running = runs _ _ (λ (e : phase.Working ≡ phase.Gone). cc) R.tries;
    tells = tells_took r z first T v k part m some (other_victim r z first T R k v there) free;
    is = let e = A.is in λ i. record (e i)
        { phase = phase.Working; credit = credit_after_take (e i).credit; size = long i };
    draws = A.draws;
    params_are = A.params_are;
    split = λ e. absurd (never r.local.credit free e);
    whole = λ n. A.whole free;
  }
    where
      never : (c : Credit) → c ≢ credit.Minted → credit_after_take c ≢ credit.Minted
      never credit.Zero n e = cc
      never credit.One n e = cc
      never credit.Minted n e = n refl
      never credit.Taken n e = cc

  -- a refused request was given up
  pub agrees_shrugged : (v : ℕ) (k : Kind) → May r (event.Shrug r.place v k)
      → has_edge (setup_in r) k r.place v ≡ true → r.local.credit ≢ credit.Minted
      → Agrees items (shrug_row v k r) params bag spare (record a { phase = phase.Idle })
      z first words
  agrees_shrugged v kind.Steal m there free = record {
    running = runs _ _ (λ (e : phase.Idle ≡ phase.Gone). cc) R.tries;
    tells = tells_shrugged r z first T v kind.Steal m
        (other_victim r z first T R kind.Steal v there) free;
    is = ap (λ (b : PlaceState). record b { phase = phase.Idle }) A.is;
    draws = A.draws;
    params_are = A.params_are;
    split = λ e. absurd (free e);
    whole = A.whole;
  }
  agrees_shrugged v kind.Line m there free = record {
    running = runs r.known _ (λ (e : phase.Idle ≡ phase.Gone). cc) R.tries;
    tells = tells_shrugged r z first T v kind.Line m (other_victim r z first T R kind.Line v there)
        free;
    is = ap (λ (b : PlaceState). record b { phase = phase.Idle }) A.is;
    draws = A.draws;
    params_are = A.params_are;
    split = λ e. absurd (free e);
    whole = A.whole;
  }

  -- a part was there on the line that the place waits on
  pub agrees_arrived : (v : ℕ) → r.local.phase ≡ phase.Waiting v kind.Line
      → has_edge (setup_in r) kind.Line r.place v ≡ true → r.local.credit ≢ credit.Minted
      → Agrees items (known_row (name_of kind.Line r.place v) seen.Loot r) params bag spare a
      (record z { outs = map (with_line v seen.Loot) z.outs; waited = seen.Loot }) first words
  agrees_arrived v waits there free = same_self _ _ first (runs _ r.local R.here R.tries)
      (tells_arrived r z first T v waits (other_victim r z first T R kind.Line v there) free)
      A.is A.draws A.params_are refl

  -- the same, where the edge given up is a line
  pub agrees_arrived_at : (v : ℕ) (k : Kind) → k ≡ kind.Line → May r (event.Shrug r.place v k)
      → has_edge (setup_in r) k r.place v ≡ true → r.local.credit ≢ credit.Minted
      → Agrees items (known_row (name_of k r.place v) seen.Loot r) params bag spare a
      (record z { outs = map (with_line v seen.Loot) z.outs; waited = seen.Loot }) first words
  agrees_arrived_at v kind.Steal e m there free = absurd (cc)
  agrees_arrived_at v kind.Line e m there free = agrees_arrived v m.2.0 there free

  -- the place looked at the edge that it waits on
  pub agrees_waited : (v : ℕ) (k : Kind) (x : Edge) → r.local.phase ≡ phase.Waiting v k
      → has_edge (setup_in r) k r.place v ≡ true → r.local.credit ≢ credit.Minted
      → Agrees items (known_row (name_of k r.place v) x r) params bag spare a
      (record z { outs = lines_with r z first T k v x; waited = x }) first words
  agrees_waited v k x waits there free = same_self _ _ first (runs _ r.local R.here R.tries)
      (tells_waited r z first T v k x waits (other_victim r z first T R k v there) free)
      A.is A.draws A.params_are refl

  -- a sleeper looked at one of its lines
  pub agrees_watched : (v : ℕ) (x : Edge) → r.local.phase ≡ phase.Asleep → v < r.lines.places
      → has_edge (setup_in r) kind.Line r.place v ≡ true → r.local.credit ≢ credit.Minted
      → MayFind r v kind.Line side.Outward x
      → Agrees items (known_row (name_of kind.Line r.place v) x r) params bag spare a
      (record z { outs = map (with_line v x) z.outs }) first words
  agrees_watched v x sleeps l there free can = same_self _ _ first (runs _ r.local R.here R.tries)
      (tells_watched r z first T v x sleeps (other_victim r z first T R kind.Line v there)
      l free can)
      A.is A.draws A.params_are refl

  -- a place that does not work looked at an in-edge
  pub agrees_polled : (at : ℕ) (d : InEdge) (x : Edge) → at < length z.ins
      → r.local.credit ≢ credit.Minted
      → MayFind r (get_or z.ins at d).thief (get_or z.ins at d).kind side.Inward x
      → Agrees items (known_row (name_of (get_or z.ins at d).kind
      (get_or z.ins at d).thief r.place) x r) params bag
      spare a
      (record z {
        ins = set z.ins at
            (record (get_or z.ins at d) { mark = (get_or z.ins at d).mark; edge = x });
      })
      0 words
  agrees_polled at d x l free can =
      let i = member z.ins at d l in
      let h = in_there r z first T R (get_or z.ins at d) i in
      same_self _ _ 0 (runs _ r.local R.here R.tries)
      (tells_polled r z first T R at d x l h.1 h.0 (T.ins (get_or z.ins at d) i).mark free can)
      A.is A.draws A.params_are refl

  -- a batch was settled, and the total is within the limit
  pub agrees_settled : (total : ℕ) (taken rest : List I) (left : B) → May r (event.Batch r.place)
      → total ≤ r.params.limit
      → Agrees items (batch_row total taken rest r) params left spare
      (record a {
        phase = phase_after_batch rest;
        tries = tries_after (tries_of r.params) a.tries rest;
        size = min (length rest) (2 ^ 64 - 1);
      })
      (record z { ins = map unmarked z.ins }) 0 words
  agrees_settled total taken rest left m low = record {
    running = record {
      here = rests_here rest;
      within = R.within;
      places = R.places;
      cube = R.cube;
      limits = R.limits;
      tries = tries_most rest;
      goes_on = R.goes_on;
      not_halted = R.not_halted;
      last = low;
    };
    tells = tells_settled r z first T R total taken rest m;
    is = ap (λ (b : PlaceState). record b {
      phase = phase_after_batch rest;
      tries = tries_after (tries_of r.params) b.tries rest;
      size = min (length rest) (2 ^ 64 - 1);
    }) A.is;
    draws = A.draws;
    params_are = A.params_are;
    split = λ e. absurd (let o = m.2.1 in let d : credit.One ≡ credit.Minted = sym o ∙ e in cc);
    whole = A.whole;
  }
    where
      rests_here : (xs : List I) → phase_after_batch xs ≢ phase.Gone
      rests_here [] e = cc
      rests_here (x ∷ xs) e = cc

      tries_most : (xs : List I) → tries_after (tries_of r.params) r.local.tries xs
          ≤ tries_of r.params
      tries_most [] = omega arith
      tries_most (x ∷ xs) = R.tries

-- a look at an in-edge that is Unseen, by a Working place, moves the mark
pub looked_marks : {I : Type 0} (r : Record I) (t : ℕ) (k : Kind) (x : Edge)
    → May r (event.Look r.place t k)
    → look_row t k side.Inward x r ≡ mark_row t k x r
looked_marks r t k x m = rw (m.2.0, m.2.2) refl

-- a phase other than Working is told from it
not_working : (f : Phase) → f ≢ phase.Working → is_working f ≡ false
not_working phase.Working n = absurd (n refl)
not_working phase.Idle n = refl
not_working (phase.Waiting v k) n = refl
not_working phase.Asleep n = refl
not_working phase.Gone n = refl

-- a look by a place that does not work moves no mark
pub looked_learns : {I : Type 0} (r : Record I) (t : ℕ) (k : Kind) (x : Edge)
    → r.local.phase ≢ phase.Working
    → look_row t k side.Inward x r ≡ known_row (name_of k t r.place) x r
looked_learns r t k x n = rw (not_working r.local.phase n) refl
