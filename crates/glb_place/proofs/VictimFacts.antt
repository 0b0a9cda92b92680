-- What a place sees agrees with its record after it did something as a victim, or with its own bag.
use Rattle.std.proofs.Common.{◌≡◌, ◌≢◌, ℕ, ◌+◌, ◌<◌, inl, ⊎_elim, true, false, cond, ◌&&◌, ◌==◌, List, [], ◌∷◌, length, get_or, set, map, get_or-set_same, get_or-set_other, refl, sym, ap, ◌∙◌, subst, arith}
use Rattle.std.proofs.lemmas.Bool.{cases_eq}
use Rattle.glb_rules.specs.World.{Asked, has_edge, has_line, mark_at, same_kind, waits_on}
use Rattle.glb_rules.specs.Events.{name_of}
use Rattle.glb_rules.specs.Effects.{mark_after_look, place_after, phase_after_batch}
use Rattle.glb_rules.specs.Lawful.{PhaseFits}
use Rattle.glb_rules.specs.Setups.{tries_of}
use Rattle.glb_rules.specs.Sight.{Sight, IsIn}
use Rattle.glb_rules.specs.Decision.{is_unseen, is_mark, is_wanted}
use Rattle.glb_rules.proofs.EdgeLemmas.Marks.{apart}
use Rattle.glb_rules.proofs.Sums.Members.{in_map, map_in}
use Rattle.glb_core.proofs.Lifelines.Setups.{line_is, outs_are}
use Rattle.glb_rules.proofs.EdgeLemmas.Made.{in_line}
use Rattle.glb_rules.specs.declared.kinds.Kind.{Kind}
use Rattle.glb_rules.specs.declared.kinds.Kind.TheVariants as kind
use Rattle.glb_rules.specs.declared.kinds.Edge.{Edge}
use Rattle.glb_rules.specs.declared.kinds.Edge.TheVariants as seen
use Rattle.glb_rules.specs.declared.kinds.Mark.{Mark}
use Rattle.glb_rules.specs.declared.kinds.Mark.TheVariants as mark
use Rattle.glb_rules.specs.declared.kinds.Phase.{Phase}
use Rattle.glb_rules.specs.declared.kinds.Phase.TheVariants as phase
use Rattle.glb_rules.specs.declared.kinds.Credit.TheVariants as credit
use Rattle.glb_rules.specs.declared.kinds.Side.TheVariants as side
use Rattle.glb_rules.specs.declared.edges.InEdge.{InEdge}
use Rattle.glb_rules.specs.declared.edges.OutEdge.{OutEdge}
use Rattle.glb_cube.specs.Lines.{outs_of}
use Rattle.glb_rules.specs.declared.event.Event.TheVariants as event
use Rattle.glb_place.specs.declared.record.Record.{Record}
use Rattle.glb_place.specs.Records.{known_at, edge_like, setup_in, May}
use Rattle.glb_place.specs.Rows.{mark_row, deny_row, give_row, mint_row, burn_row, batch_row, known_row}
use Rattle.glb_place.specs.Calls.{CanFind, MayFind}
use Rattle.glb_place.specs.inner.Seeing.{with_mark, unmarked, LookedBefore}
use Rattle.glb_place.specs.inner.Standing.{IsEarly, TellsIn, Tells, IsRunning}
use Rattle.glb_place.proofs.KnownFacts.{name_in, set_marks}
use Rattle.glb_place.proofs.TellsFacts.{told_in, told_by, looked_map, marked_not_unseen, mark_same}
use Rattle.glb_place.proofs.SightLists.{ins_apart, ins_there}
use Rattle.glb_place.proofs.DecisionFacts.{is_proper}

-- a look leaves Pending only on an edge that is Asked
looked_pending : (x : Edge) → mark_after_look x ≡ mark.Pending → x ≡ seen.Asked
looked_pending seen.Idle e = absurd (cc)
looked_pending seen.Asked e = refl
looked_pending seen.Refused e = absurd (cc)
looked_pending seen.Loot e = absurd (cc)

-- a look leaves no edge Unseen
looked_seen : (x : Edge) → is_mark mark.Unseen (mark_after_look x) ≡ false
looked_seen seen.Idle = refl
looked_seen seen.Asked = refl
looked_seen seen.Refused = refl
looked_seen seen.Loot = refl

-- the in-edges up to the one that was looked at are looked at
looked_more : (xs : List InEdge) (at : ℕ) (m : Mark) (x : Edge) → is_mark mark.Unseen m ≡ false
    → at < length xs → LookedBefore xs at → (d : InEdge)
    → LookedBefore (set xs at (record (get_or xs at d) { mark = m; edge = x })) (at + 1)
looked_more xs at m x n l before d i e less = ⊎_elim
    (λ (o : i ≡ at). ap (λ j. is_unseen
    (get_or (set xs at (record (get_or xs at d) { mark = m; edge = x })) j e)) o
    ∙ ap is_unseen (get_or-set_same xs at (record (get_or xs at d) { mark = m; edge = x }) e l) ∙ n)
    (λ (o : i ≢ at). ap is_unseen (get_or-set_other xs at i
    (record (get_or xs at d) { mark = m; edge = x }) e o)
    ∙ before i e (omega arith))
    (cases_eq i at)

-- an Asked edge that is looked at from its victim is still Asked
still_asked : (m : Mark) (k : Kind) (y x : Edge) → CanFind m k side.Inward y x → y ≡ seen.Asked → x
    ≡ seen.Asked
still_asked m k y seen.Asked c e = refl
still_asked m kind.Steal seen.Idle seen.Idle c e = absurd (cc)
still_asked m kind.Line seen.Idle seen.Idle c e = absurd (cc)
still_asked m kind.Steal seen.Asked seen.Idle c e = absurd c
still_asked m kind.Line seen.Asked seen.Idle c e = absurd c
still_asked m kind.Steal seen.Refused seen.Idle c e = absurd (cc)
still_asked m kind.Line seen.Refused seen.Idle c e = absurd (cc)
still_asked m kind.Steal seen.Loot seen.Idle c e = absurd (cc)
still_asked m kind.Line seen.Loot seen.Idle c e = absurd (cc)
still_asked m kind.Steal seen.Idle seen.Refused c e = absurd (cc)
still_asked m kind.Line seen.Idle seen.Refused c e = absurd (cc)
still_asked m kind.Steal seen.Asked seen.Refused c e = absurd c
still_asked m kind.Line seen.Asked seen.Refused c e = absurd c
still_asked m kind.Steal seen.Refused seen.Refused c e = absurd (cc)
still_asked m kind.Line seen.Refused seen.Refused c e = absurd (cc)
still_asked m kind.Steal seen.Loot seen.Refused c e = absurd (cc)
still_asked m kind.Line seen.Loot seen.Refused c e = absurd (cc)
still_asked m kind.Steal seen.Idle seen.Loot c e = absurd (cc)
still_asked m kind.Line seen.Idle seen.Loot c e = absurd (cc)
still_asked m kind.Steal seen.Asked seen.Loot c e = absurd c
still_asked m kind.Line seen.Asked seen.Loot c e = absurd c
still_asked m kind.Steal seen.Refused seen.Loot c e = absurd (cc)
still_asked m kind.Line seen.Refused seen.Loot c e = absurd (cc)
still_asked m kind.Steal seen.Loot seen.Loot c e = absurd (cc)
still_asked m kind.Line seen.Loot seen.Loot c e = absurd (cc)

-- an edge made of a state is Asked only where the state is
asked_like : {I : Type 0} (e : Edge) → edge_like {I = I} e ≡ Asked → e ≡ seen.Asked
asked_like seen.Idle e = absurd (cc)
asked_like seen.Asked e = refl
asked_like seen.Refused e = absurd (cc)
asked_like seen.Loot e = absurd (cc)

module _ {I : Type 0} (r : Record I) (z : Sight) (first : ℕ) (T : Tells r z first)
    (R : IsRunning r) where
  -- the thief of an in-edge is another place
  pub other_thief : (k : Kind) (t : ℕ) → has_edge (setup_in r) k t r.place ≡ true → t ≢ r.place
  other_thief k t h = apart (setup_in r) (is_proper r z first T R) k t r.place h

  -- and so is the victim of an edge of the place
  pub other_victim : (k : Kind) (v : ℕ) → has_edge (setup_in r) k r.place v ≡ true → v ≢ r.place
  other_victim k v h e = apart (setup_in r) (is_proper r z first T R) k r.place v h (sym e)

  -- each in-edge that is seen is there
  pub in_there : (x : InEdge) → IsIn x z.ins
      → (x.thief < r.lines.places) × (has_edge (setup_in r) x.kind x.thief r.place ≡ true)
  in_there = ins_there (setup_in r) r.lines r.place z T.made refl
      (λ t l h. line_is r.lines r.params (λ p. false) t r.place l ∙ h)

  -- and each line
  pub out_there : (y : OutEdge) → IsIn y z.outs
      → (y.victim < r.lines.places) × (has_line (setup_in r) r.place y.victim ≡ true)
  out_there y i =
      let n : IsIn y.victim (outs_of r.lines r.place) =
      subst (IsIn y.victim) T.made.outs (map_in (λ (x : OutEdge). x.victim) z.outs y i) in
      let m : IsIn y.victim ((setup_in r).outs r.place) =
      subst (IsIn y.victim) (sym (outs_are r.lines r.params (λ p. false) r.place R.within)) n in
      let h = in_line (setup_in r) r.place y.victim m in
      ((is_proper r z first T R).near r.place y.victim h, h)

  -- the first in-edge at which the place has not looked
  abbrev pub at_first : InEdge → InEdge
  at_first d = get_or z.ins first d

  -- the in-edges seen, with another mark and state of that one
  abbrev pub seen_first : InEdge → Mark → Edge → List InEdge
  seen_first d m x = set z.ins first (record (at_first d) { mark = m; edge = x })

  -- the place looked at it
  pub tells_marked : (d : InEdge) (x : Edge) → first < length z.ins
      → May r (event.Look r.place (at_first d).thief (at_first d).kind)
      → r.local.credit ≢ credit.Minted
      → Tells (mark_row (at_first d).thief (at_first d).kind x r)
      (record z { ins = seen_first d (mark_after_look x) x }) (first + 1)
  tells_marked d x l m free =
      let k = (at_first d).kind in
      let t = (at_first d).thief in
      let a = place_after (tries_of r.params) (event.Look r.place t k) [] [] x r.local in
      let same = set_marks r.place (mark_after_look x) x z.ins first d (ins_apart r.lines r.place z T.made)
      l in
      subst (λ ins. Tells (mark_row t k x r) (record z { ins = ins }) (first + 1)) (sym same)
      (told_in r a k t (mark_after_look x) x z first (first + 1) T (other_thief k t m.2.1) (λ j u. refl)
      refl T.own.fits
      (looked_pending x) free
      (subst (λ ins. LookedBefore ins (first + 1)) same
      (looked_more z.ins first (mark_after_look x) x (looked_seen x) l T.looked_until d)))

  -- a request was refused
  pub tells_denied : (k : Kind) (t : ℕ) → has_edge (setup_in r) k t r.place ≡ true
      → r.local.credit ≢ credit.Minted
      → Tells (deny_row t k r) (record z
      { ins = map (with_mark k t mark.Clear seen.Refused) z.ins }) first
  tells_denied k t h free =
      let a = place_after (tries_of r.params) (event.Deny r.place t k) [] [] seen.Asked r.local in
      told_in r a k t mark.Clear seen.Refused z first first T (other_thief k t h) (λ j u. refl)
      refl T.own.fits
      (λ (e : mark.Clear ≡ mark.Pending). absurd (cc)) free
      (looked_map (with_mark k t mark.Clear seen.Refused)
      (marked_not_unseen k t mark.Clear seen.Refused refl) z.ins first T.looked_until)

  -- the part was given
  pub tells_gave : (k : Kind) (t : ℕ) (part rest : List I) → has_edge (setup_in r) k t r.place
      ≡ true
      → May r (event.Give r.place t k) → 0 < length rest
      → Tells (give_row t k part rest r)
      (record z { ins = map (with_mark k t mark.Clear seen.Loot) z.ins }) first
  tells_gave k t part rest h m some =
      let a = place_after (tries_of r.params) (event.Give r.place t k)
      part rest seen.Asked r.local in
      told_in r a k t mark.Clear seen.Loot z first first T (other_thief k t h) (λ j u. refl) refl
      (subst (λ f. PhaseFits f credit.One (length rest)) (sym m.2.0)
      (some, λ (e : credit.One ≡ credit.Zero). cc))
      (λ (e : mark.Clear ≡ mark.Pending). absurd (cc)) (λ (e : credit.One ≡ credit.Minted). cc)
      (looked_map (with_mark k t mark.Clear seen.Loot)
      (marked_not_unseen k t mark.Clear seen.Loot refl) z.ins first T.looked_until)

  -- a place that does not work looked at an in-edge
  pub tells_polled : (at : ℕ) (d : InEdge) (x : Edge) → at < length z.ins
      → has_edge (setup_in r) (get_or z.ins at d).kind (get_or z.ins at d).thief r.place ≡ true
      → (get_or z.ins at d).thief < r.lines.places
      → mark_at r.local.marks (get_or z.ins at d).kind (get_or z.ins at d).thief
      ≡ (get_or z.ins at d).mark
      → r.local.credit ≢ credit.Minted
      → MayFind r (get_or z.ins at d).thief (get_or z.ins at d).kind side.Inward x
      → Tells (known_row (name_of (get_or z.ins at d).kind (get_or z.ins at d).thief r.place) x r)
      (record z {
        ins = set z.ins at
            (record (get_or z.ins at d) { mark = (get_or z.ins at d).mark; edge = x });
      }) 0
  tells_polled at d x l h near same free can =
      let k = (get_or z.ins at d).kind in
      let t = (get_or z.ins at d).thief in
      let m = (get_or z.ins at d).mark in
      let put = set_marks r.place m x z.ins at d (ins_apart r.lines r.place z T.made) l in
      subst (λ ins. Tells (known_row (name_of k t r.place) x r) (record z { ins = ins }) 0)
      (sym put)
      (told_in r r.local k t m x z first 0 T (other_thief k t h)
      (λ j u. subst (λ n. mark_at r.local.marks j u
      ≡ cond (same_kind k j && (t == u)) n (mark_at r.local.marks j u))
      same (mark_same r.local.marks k t j u)) refl T.own.fits
      (λ e. still_asked (mark_at r.local.marks k t) k (known_at r.known k t r.place) x can
      (asked_like {I = I} (known_at r.known k t r.place) (T.own.pending k t near (same ∙ e)))) free
      (λ i e less. absurd (omega arith)))

  -- a credit was taken for a part
  pub tells_minted : May r (event.Mint r.place)
      → ((x : InEdge) → IsIn x z.ins → is_unseen x ≡ false)
      → ((x : InEdge) × IsIn x z.ins × (is_wanted x ≡ true))
      → Tells (mint_row r) z first
  tells_minted m none wanted =
      let a = place_after (tries_of r.params) (event.Mint r.place) [] [] seen.Idle r.local in
      told_by r a r.known z first z.outs z.waited T (λ j u. refl) refl
      (λ x i (e : IsEarly r x). absurd
      (let b : is_mark mark.Unseen mark.Unseen ≡ false = ap (is_mark mark.Unseen) (sym e.mark)
      ∙ none x i in cc))
      (record {
        fits = subst (λ f. PhaseFits f credit.Minted (length r.local.bag)) (sym m.2.0)
            ((let b = m.2.2 in omega arith), λ (e : credit.Minted ≡ credit.Zero). cc);
        near = T.own.near;
        pending = T.own.pending;
        steal = T.own.steal;
        line = T.own.line;
      })
      refl T.outs T.waited (λ c. wanted)

  -- one credit was given back
  pub tells_burnt : May r (event.Burn r.place) → Tells (burn_row r) z first
  tells_burnt m =
      let a = place_after (tries_of r.params) (event.Burn r.place) [] [] seen.Idle r.local in
      told_by r a r.known z first z.outs z.waited T (λ j u. refl) refl
      (λ x i e (c : credit.One ≡ credit.Minted). cc)
      (record {
        fits = one r.local.phase R.here
            (subst (λ c. PhaseFits r.local.phase c (length r.local.bag)) m.2 T.own.fits);
        near = T.own.near;
        pending = T.own.pending;
        steal = T.own.steal;
        line = T.own.line;
      })
      refl T.outs T.waited (λ (c : credit.One ≡ credit.Minted). absurd (cc))
    where
      one : (f : Phase) → f ≢ phase.Gone → PhaseFits f credit.Taken (length r.local.bag)
          → PhaseFits f credit.One (length r.local.bag)
      one phase.Working n b = (b.0, λ (d : credit.One ≡ credit.Zero). cc)
      one phase.Idle n b = (b.0, refl)
      one (phase.Waiting v k) n b = (b.0, refl)
      one phase.Asleep n b = absurd (let c = b.1 in cc)
      one phase.Gone n b = absurd (n refl)

  -- a batch was settled, and all marks are gone
  pub tells_settled : (total : ℕ) (taken rest : List I) → May r (event.Batch r.place)
      → Tells (batch_row total taken rest r) (record z { ins = map unmarked z.ins }) 0
  tells_settled total taken rest m = record {
    own = record {
      fits = fits_after rest;
      near = near_after rest;
      pending = λ k t h (e : mark.Unseen ≡ mark.Pending). absurd (cc);
      steal = λ v h e. T.own.steal v h (ap (waits_on kind.Steal v) m.2.0);
      line = λ v h e. absurd (let w = T.own.line v h e in
          let d : false ≡ true = sym (ap (waits_on kind.Line v) m.2.0) ∙ w in cc);
    };
    made = record { ins = names_stay z.ins ∙ T.made.ins; outs = T.made.outs };
    ins = λ y i.
        let n = in_map unmarked z.ins y i in
        subst (TellsIn (batch_row total taken rest r)) (sym n.2)
        (record { mark = refl; edge = inl (exact n.0 n.1) });
    outs = T.outs;
    waited = waits_after rest;
    goes_on = T.goes_on;
    not_halted = T.not_halted;
    looked_until = λ i d less. absurd (omega arith);
    wanted = λ c. let o = m.2.1 in let d : credit.One ≡ credit.Minted = sym o ∙ c in absurd (cc);
  }
    where
      fits_after : (xs : List I) → PhaseFits (phase_after_batch xs) r.local.credit (length xs)
      fits_after [] = (refl, m.2.1)
      fits_after (x ∷ xs) = (
        omega arith,
        λ (e : r.local.credit ≡ credit.Zero). let o = m.2.1 in
            let d : credit.One ≡ credit.Zero = sym o ∙ e in cc,
      )

      near_after : (xs : List I) (v : ℕ) (k : Kind) → phase_after_batch xs ≡ phase.Waiting v k
          → (v < r.lines.places) × (has_edge (setup_in r) k r.place v ≡ true)
      near_after [] v k e = absurd (cc)
      near_after (x ∷ xs) v k e = absurd (cc)

      waits_after : (xs : List I) (v : ℕ) (k : Kind) → phase_after_batch xs ≡ phase.Waiting v k
          → z.waited ≡ known_at r.known k r.place v
      waits_after [] v k e = absurd (cc)
      waits_after (x ∷ xs) v k e = absurd (cc)

      names_stay : (xs : List InEdge) → map (name_in r.place) (map unmarked xs)
          ≡ map (name_in r.place) xs
      names_stay [] = refl
      names_stay (x ∷ xs) = ap (λ ys. name_in r.place x ∷ ys) (names_stay xs)

      exact : (x : InEdge) → IsIn x z.ins → known_at r.known x.kind x.thief r.place ≡ x.edge
      exact x i = ⊎_elim (λ e. e)
          (λ (e : IsEarly r x).
          let h = in_there x i in
          let c = m.2.2 x.kind x.thief h.0 h.1 in
          let d : mark.Clear ≡ mark.Unseen = sym c ∙ (T.ins x i).mark ∙ e.mark in absurd (cc))
          (T.ins x i).edge
