-- What a place sees agrees with its record after it did something as a thief.
use Rattle.std.proofs.Common.{◌≡◌, ◌≢◌, ℕ, ◌<◌, ⊎_elim, true, false, cond, ◌&&◌, ◌==◌, List, [], ◌++◌, length, length-append, map, refl, sym, ap, ◌∙◌, subst, arith}
use Rattle.glb_rules.specs.World.{WorldEdge, Asked, Refused, has_edge, mark_at, same_kind, waits_on}
use Rattle.glb_rules.specs.Events.{name_of}
use Rattle.glb_rules.specs.Effects.{place_after, credit_after_take}
use Rattle.glb_rules.specs.Lawful.{PhaseFits}
use Rattle.glb_rules.specs.Setups.{tries_of}
use Rattle.glb_rules.specs.Sight.{Sight}
use Rattle.glb_rules.specs.inner.OwnSide.{OwnSide}
use Rattle.glb_rules.proofs.EdgeLemmas.Marks.{eq_self, same_kind_true}
use Rattle.glb_rules.specs.declared.kinds.Kind.{Kind}
use Rattle.glb_rules.specs.declared.kinds.Kind.TheVariants as kind
use Rattle.glb_rules.specs.declared.kinds.Edge.{Edge}
use Rattle.glb_rules.specs.declared.kinds.Edge.TheVariants as seen
use Rattle.glb_rules.specs.declared.kinds.Mark.{Mark}
use Rattle.glb_rules.specs.declared.kinds.Phase.{Phase}
use Rattle.glb_rules.specs.declared.kinds.Phase.TheVariants as phase
use Rattle.glb_rules.specs.declared.kinds.Credit.{Credit}
use Rattle.glb_rules.specs.declared.kinds.Credit.TheVariants as credit
use Rattle.glb_rules.specs.declared.kinds.Side.TheVariants as side
use Rattle.glb_rules.specs.declared.local.Local.{Local}
use Rattle.glb_rules.specs.declared.edges.OutEdge.{OutEdge}
use Rattle.glb_rules.specs.declared.event.Event.TheVariants as event
use Rattle.glb_place.specs.declared.record.KnownEdge.{KnownEdge}
use Rattle.glb_place.specs.declared.record.Record.{Record}
use Rattle.glb_place.specs.Records.{known_at, edge_like, setup_in, world_in, May}
use Rattle.glb_place.specs.Rows.{ask_row, take_row, shrug_row, known_row, sleep_row}
use Rattle.glb_place.specs.Calls.{CanFind, MayFind}
use Rattle.glb_place.specs.inner.Seeing.{with_line, lines_noted}
use Rattle.glb_place.specs.inner.Standing.{TellsOuts, Tells}
use Rattle.glb_place.proofs.KnownFacts.{with_known, out_known, out_known_in, victims_kept}
use Rattle.glb_place.proofs.TellsFacts.{told_by, outs_told, outs_same, names_cases}
use Rattle.glb_place.proofs.OwnFacts.{own_out, waits_self, waits_else, Near}

-- what holds of the edge that a place waits on holds of each edge that it waits on
abbrev At : (ℕ → Kind → Type 0) → Phase → Type 0
At P phase.Working = Unit {0}
At P phase.Idle = Unit {0}
At P (phase.Waiting v k) = P v k
At P phase.Asleep = Unit {0}
At P phase.Gone = Unit {0}

-- what holds of the edge waited on holds of each edge waited on
pub waiting_on : (P : ℕ → Kind → Type 0) (f : Phase) (v : ℕ) (k : Kind) → f ≡ phase.Waiting v k
    → P v k
    → (u : ℕ) (j : Kind) → f ≡ phase.Waiting u j → P u j
waiting_on P f v k e h u j d = subst (At P) (sym e ∙ d) h

-- the edge waited on is there
near_from : {I : Type 0} (r : Record I) (f : Phase)
    → ((v : ℕ) (k : Kind) → f ≡ phase.Waiting v k → (v < r.lines.places)
    × (has_edge (setup_in r) k r.place v ≡ true))
    → Near r f
near_from r phase.Working h = tt
near_from r phase.Idle h = tt
near_from r (phase.Waiting v k) h = h v k refl
near_from r phase.Asleep h = tt
near_from r phase.Gone h = tt

-- an edge is not Refused and Asked
refused_asked : {I : Type 0} (e : WorldEdge I) → e ≡ Refused → e ≡ Asked → ⊥
refused_asked e a b = let d = sym a ∙ b in cc

-- the edge that is learnt
known_here : (k : Kind) (v p : ℕ) (x : Edge) (known : List KnownEdge)
    → known_at (with_known (name_of k p v) x known) k p v ≡ x
known_here k v p x known = out_known k v p x known k v
    ∙ (λ i. cond (same_kind_true k k refl i && (v == v)) x (known_at known k p v))
    ∙ (λ i. cond (eq_self v i) x (known_at known k p v))

-- an edge is asked over by an Idle place
pub ask_idle : {I : Type 0} (r : Record I) (v : ℕ) (k : Kind) → May r (event.Ask r.place v k)
    → r.local.phase ≡ phase.Idle
ask_idle r v kind.Steal m = m.2.0
ask_idle r v kind.Line m = m.2.0

module _ {I : Type 0} (r : Record I) (z : Sight) (first : ℕ) (T : Tells r z first) where
  -- the lines that are seen, after an edge of the place is known to be in another state
  abbrev pub lines_with : Kind → ℕ → Edge → List OutEdge
  lines_with k v x = lines_noted k v x z.outs

  -- the lines seen have the same victims
  lines_made : (k : Kind) (v : ℕ) (x : Edge)
      → map (λ (y : OutEdge). y.victim) (lines_with k v x) ≡ map (λ (y : OutEdge). y.victim) z.outs
  lines_made kind.Steal v x = refl
  lines_made kind.Line v x = victims_kept v x z.outs

  -- they agree with the record afterwards
  lines_told : (a : Local I) (k : Kind) (v : ℕ) (x : Edge)
      → TellsOuts (record r { known = with_known (name_of k r.place v) x r.known; local = a })
      (lines_with k v x)
  lines_told a kind.Steal v x = outs_same r a v x z.outs T.outs
  lines_told a kind.Line v x = outs_told r a v x z.outs T.outs

  -- the place learns of one of its edges, and may move
  learns : (a : Local I) (k : Kind) (v : ℕ) (x waited : Edge) → v ≢ r.place → a.marks ≡ r.local.marks
      → a.credit ≢ credit.Minted
      → OwnSide (setup_in r)
      (world_in (record r { known = with_known (name_of k r.place v) x r.known; local = a })) r.place
      → ((u : ℕ) (j : Kind) → a.phase ≡ phase.Waiting u j
      → waited ≡ known_at (with_known (name_of k r.place v) x r.known) j r.place u)
      → Tells (record r { known = with_known (name_of k r.place v) x r.known; local = a })
      (record z { outs = lines_with k v x; waited = waited }) first
  learns a k v x waited other marks free own waits =
      told_by r a (with_known (name_of k r.place v) x r.known) z first (lines_with k v x) waited T
      (λ j u. out_known_in k v r.place x r.known other j u) marks (λ y i e. free) own
      (lines_made k v x)
      (lines_told a k v x) waits (λ c. absurd (free c))

  -- a request was made
  pub tells_asked : (v : ℕ) (k : Kind) → May r (event.Ask r.place v k)
      → has_edge (setup_in r) k r.place v ≡ true
      → v ≢ r.place → r.local.credit ≢ credit.Minted
      → Tells (ask_row v k r) (record z { outs = lines_with k v seen.Asked; waited = seen.Asked })
      first
  tells_asked v k m there other free =
      let idle = ask_idle r v k m in
      let a = place_after (tries_of r.params) (event.Ask r.place v k) [] [] seen.Idle r.local in
      learns a k v seen.Asked seen.Asked other refl free
      (own_out r a k v seen.Asked other T.own refl
      (subst (λ f. PhaseFits f r.local.credit (length r.local.bag)) idle T.own.fits)
      (m.1.2, there)
      (λ e w. let d : true ≡ false = sym (waits_self k v)
      ∙ ap (λ j. waits_on j v (phase.Waiting v k)) e ∙ w in cc)
      (λ u q e. ap (waits_on kind.Steal u) idle)
      (λ e d. ap (λ j. waits_on j v (phase.Waiting v k)) (sym e) ∙ waits_self k v)
      (λ u q h. let d : false ≡ true = sym (ap (waits_on kind.Line u) idle) ∙ h in cc))
      (waiting_on (λ u j. seen.Asked
      ≡ known_at (with_known (name_of k r.place v) seen.Asked r.known) j r.place u)
      (phase.Waiting v k) v k refl (sym (known_here k v r.place seen.Asked r.known)))

  -- who takes a part over one edge waits on no other
  taker_waits : (v : ℕ) (k : Kind) → May r (event.Take r.place v k) → (j : Kind) (u : ℕ)
      → (same_kind k j && (v == u)) ≡ false → waits_on j u r.local.phase ≡ false
  taker_waits v k m j u q = ⊎_elim
      (λ w. ap (waits_on j u) w.0 ∙ waits_else k j v u q)
      (λ y. ⊎_elim (λ e. ap (waits_on j u) e)
      (λ x. ⊎_elim (λ e. ap (waits_on j u) e) (λ e. ap (waits_on j u) e.0) x) y.1)
      m.2.1

  -- who took a part has a credit
  took_not_zero : (c : Credit) → credit_after_take c ≢ credit.Zero
  took_not_zero credit.Zero e = cc
  took_not_zero credit.One e = cc
  took_not_zero credit.Minted e = cc
  took_not_zero credit.Taken e = cc

  -- and none for a part to give, if it had none
  took_not_minted : (c : Credit) → c ≢ credit.Minted → credit_after_take c ≢ credit.Minted
  took_not_minted credit.Zero n e = cc
  took_not_minted credit.One n e = cc
  took_not_minted credit.Minted n e = n refl
  took_not_minted credit.Taken n e = cc

  -- a part was taken
  pub tells_took : (v : ℕ) (k : Kind) (part : List I) → May r (event.Take r.place v k) → 0
      < length part
      → v ≢ r.place → r.local.credit ≢ credit.Minted
      → Tells (take_row v k part (part ++ r.local.bag) r)
      (record z { outs = lines_with k v seen.Idle }) first
  tells_took v k part m some other free =
      let a = place_after (tries_of r.params) (event.Take r.place v k) part (part ++ r.local.bag)
      seen.Loot r.local in
      learns a k v seen.Idle z.waited other refl (took_not_minted r.local.credit free)
      (own_out r a k v seen.Idle other T.own refl
      (let l = length-append part r.local.bag in omega arith, took_not_zero r.local.credit)
      tt
      (λ e w. refl)
      (λ u q e. taker_waits v k m kind.Steal u q)
      (λ e d. absurd (let c : seen.Idle ≡ seen.Asked = d in cc))
      (λ u q h. let d : false ≡ true = sym (taker_waits v k m kind.Line u q) ∙ h in cc))
      (λ u j (e : phase.Working ≡ phase.Waiting u j). absurd (cc))

  -- a refused request was given up
  pub tells_shrugged : (v : ℕ) (k : Kind) → May r (event.Shrug r.place v k) → v ≢ r.place
      → r.local.credit ≢ credit.Minted
      → Tells (shrug_row v k r) z first
  tells_shrugged v kind.Steal m other free =
      let a = place_after (tries_of r.params) (event.Shrug r.place v kind.Steal)
      [] [] seen.Refused r.local in
      learns a kind.Steal v seen.Idle z.waited other refl free
      (own_out r a kind.Steal v seen.Idle other T.own refl
      (subst (λ f. PhaseFits f r.local.credit (length r.local.bag)) m.2.0 T.own.fits)
      tt
      (λ e w. refl)
      (λ u q e. ap (waits_on kind.Steal u) m.2.0 ∙ waits_else kind.Steal kind.Steal v u q)
      (λ e d. absurd (let c : seen.Idle ≡ seen.Asked = d in cc))
      (λ u q h. let d : false ≡ true =
      sym (ap (waits_on kind.Line u) m.2.0 ∙ waits_else kind.Steal kind.Line v u q) ∙ h in cc))
      (λ u j (e : phase.Idle ≡ phase.Waiting u j). absurd (cc))
  tells_shrugged v kind.Line m other free =
      let a = place_after (tries_of r.params) (event.Shrug r.place v kind.Line)
      [] [] seen.Refused r.local in
      told_by r a r.known z first z.outs z.waited T (λ j u. refl) refl (λ y i e. free)
      (record {
        fits = subst (λ f. PhaseFits f r.local.credit (length r.local.bag)) m.2.0 T.own.fits;
        near = λ u j (e : phase.Idle ≡ phase.Waiting u j). absurd (cc);
        pending = T.own.pending;
        steal = λ u l e. T.own.steal u l (ap (waits_on kind.Steal u) m.2.0);
        line = λ u l e. ⊎_elim
            (λ (h : (kind.Line ≡ kind.Line) × (v ≡ u)).
            let n : edge_like {I = I} (known_at r.known kind.Line r.place v) ≡ Asked =
            ap (λ w. edge_like {I = I} (known_at r.known kind.Line r.place w)) h.1 ∙ e in
            absurd (refused_asked (edge_like (known_at r.known kind.Line r.place v)) m.2.1 n))
            (λ q. let w = T.own.line u l e in
            let d : false ≡ true = sym (ap (waits_on kind.Line u) m.2.0
            ∙ waits_else kind.Line kind.Line v u q) ∙ w in
            absurd (cc))
            (names_cases kind.Line kind.Line v u);
      })
      refl T.outs (λ u j (e : phase.Idle ≡ phase.Waiting u j). absurd (cc)) (λ c. absurd (free c))

  -- a part is there on the line that was refused
  pub tells_arrived : (v : ℕ) → r.local.phase ≡ phase.Waiting v kind.Line → v ≢ r.place
      → r.local.credit ≢ credit.Minted
      → Tells (known_row (name_of kind.Line r.place v) seen.Loot r)
      (record z { outs = map (with_line v seen.Loot) z.outs; waited = seen.Loot }) first
  tells_arrived v waits other free =
      learns r.local kind.Line v seen.Loot seen.Loot other refl free
      (own_out r r.local kind.Line v seen.Loot other T.own refl T.own.fits
      (near_from r r.local.phase T.own.near)
      (λ e w. absurd (let c : kind.Line ≡ kind.Steal = e in cc))
      (λ u q e. e)
      (λ e d. absurd (let c : seen.Loot ≡ seen.Asked = d in cc))
      (λ u q h. h))
      (waiting_on (λ u j. seen.Loot ≡ known_at
      (with_known (name_of kind.Line r.place v) seen.Loot r.known) j r.place u)
      r.local.phase v kind.Line waits (sym (known_here kind.Line v r.place seen.Loot r.known)))

  -- a place that waits looked at the edge
  pub tells_waited : (v : ℕ) (k : Kind) (x : Edge) → r.local.phase ≡ phase.Waiting v k → v ≢ r.place
      → r.local.credit ≢ credit.Minted
      → Tells (known_row (name_of k r.place v) x r)
      (record z { outs = lines_with k v x; waited = x }) first
  tells_waited v k x waits other free =
      learns r.local k v x x other refl free
      (own_out r r.local k v x other T.own refl T.own.fits (near_from r r.local.phase T.own.near)
      (λ e w. let d : true ≡ false =
      sym (waits_self k v) ∙ (λ i. waits_on (e i) v (sym waits i)) ∙ w in cc)
      (λ u q e. e)
      (λ e d. (λ i. waits_on (sym e i) v (waits i)) ∙ waits_self k v)
      (λ u q h. h))
      (waiting_on (λ u j. x ≡ known_at (with_known (name_of k r.place v) x r.known) j r.place u)
      r.local.phase v k waits (sym (known_here k v r.place x r.known)))

  -- a sleeper looked at a line
  not_asked : (m : Mark) (y x : Edge) → CanFind m kind.Line side.Outward y x → y ≢ seen.Asked
      → x ≢ seen.Asked
  not_asked m seen.Idle seen.Idle c n e = cc
  not_asked m seen.Idle seen.Asked c n e = c
  not_asked m seen.Idle seen.Refused c n e = cc
  not_asked m seen.Idle seen.Loot c n e = cc
  not_asked m seen.Asked x c n e = n refl
  not_asked m seen.Refused seen.Idle c n e = cc
  not_asked m seen.Refused seen.Asked c n e = c
  not_asked m seen.Refused seen.Refused c n e = cc
  not_asked m seen.Refused seen.Loot c n e = cc
  not_asked m seen.Loot seen.Idle c n e = cc
  not_asked m seen.Loot seen.Asked c n e = c
  not_asked m seen.Loot seen.Refused c n e = cc
  not_asked m seen.Loot seen.Loot c n e = cc

  -- the line was not Asked, and is not now
  pub tells_watched : (v : ℕ) (x : Edge) → r.local.phase ≡ phase.Asleep → v ≢ r.place → v
      < r.lines.places
      → r.local.credit ≢ credit.Minted
      → MayFind r v kind.Line side.Outward x
      → Tells (known_row (name_of kind.Line r.place v) x r)
      (record z { outs = map (with_line v x) z.outs }) first
  tells_watched v x sleeps other l free can =
      learns r.local kind.Line v x z.waited other refl free
      (own_out r r.local kind.Line v x other T.own refl T.own.fits
      (near_from r r.local.phase T.own.near)
      (λ e w. absurd (let c : kind.Line ≡ kind.Steal = e in cc))
      (λ u q e. e)
      (λ e d. absurd (not_asked (mark_at r.local.marks kind.Line v)
      (known_at r.known kind.Line r.place v) x can
      (λ y. let w = T.own.line v l (ap (edge_like {I = I}) y) in
      let f : false ≡ true = sym (ap (waits_on kind.Line v) sleeps) ∙ w in cc) d))
      (λ u q h. h))
      (λ u j e. absurd (let c : phase.Asleep ≡ phase.Waiting u j = sym sleeps ∙ e in cc))

  -- the place fell asleep
  pub tells_slept : May r (event.Sleep r.place) → Tells (sleep_row r) z first
  tells_slept m =
      let a = place_after (tries_of r.params) (event.Sleep r.place) [] [] seen.Idle r.local in
      told_by r a r.known z first z.outs z.waited T (λ j u. refl) refl
      (λ y i e (c : credit.Zero ≡ credit.Minted). cc)
      (record {
        fits = (
          (subst (λ f. PhaseFits f r.local.credit (length r.local.bag)) m.2.0 T.own.fits).0,
          refl,
        );
        near = λ v k (e : phase.Asleep ≡ phase.Waiting v k). absurd (cc);
        pending = T.own.pending;
        steal = λ v h e. T.own.steal v h (ap (waits_on kind.Steal v) m.2.0);
        line = λ v h e. absurd (let w = T.own.line v h e in
            let d : false ≡ true = sym (ap (waits_on kind.Line v) m.2.0) ∙ w in cc);
      })
      refl T.outs (λ v k (e : phase.Asleep ≡ phase.Waiting v k). absurd (cc))
      (λ (c : credit.Zero ≡ credit.Minted). absurd (cc))
