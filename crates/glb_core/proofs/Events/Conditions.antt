-- What the code tests of an event is the event's condition.
use Rattle.std.proofs.Common.{◌≡◌, ◌≢◌, ℕ, ◌<◌, ◌⊎◌, inl, inr, List, [], ◌∷◌, length, get_or, refl}
use Rattle.std.proofs.Common.{sym, ap, ◌∙◌, subst, ⊎_elim, arith, Bool, true, not, cond, ltb, ◌==◌}
use Rattle.std.proofs.Common.{suc}
use Rattle.std.proofs.lemmas.Bool.{cases_eq, true≢false, lt-ltb, cond-true, cond-false, ne_eqb}
use Rattle.glb_laws.specs.Numbers.{has_number}
use Rattle.glb_cube.specs.Lines.{outs_of, ins_of}
use Rattle.std.specs.Prelude.{All}
use Rattle.glb_cube.proofs.GraphFacts.{in_of_line, line_of_in, outs_below, All-has_number}
use Rattle.glb_rules.specs.World.{Setup, World, Idle, Asked, Refused, Loot, IsArmed, has_edge}
use Rattle.glb_rules.specs.World.{has_line}
use Rattle.glb_rules.specs.Steps.{IsEnabled, IsWanted, AllClear}
use Rattle.glb_rules.proofs.EdgeLemmas.Marks.{eq_self, eq_other}
use Rattle.glb_rules.specs.declared.kinds.Kind.{Kind}
use Rattle.glb_rules.specs.declared.kinds.Kind.TheVariants as kind
use Rattle.glb_rules.specs.declared.kinds.Phase.TheVariants as phase
use Rattle.glb_rules.specs.declared.kinds.Credit.TheVariants as credit
use Rattle.glb_rules.specs.declared.kinds.Mark.TheVariants as mark
use Rattle.glb_rules.specs.declared.event.Event.{Event}
use Rattle.glb_rules.specs.declared.event.Event.TheVariants as event
use Rattle.glb_core.specs.declared.world.rows.PlaceRow.{PlaceRow}
use Rattle.glb_core.specs.declared.world.rows.EdgeRow.{EdgeRow}
use Rattle.glb_core.specs.declared.world.rows.EdgeRow.TheVariants as edge_row
use Rattle.glb_core.specs.Tables.{WorldView, ShowsLocal, edge_index, mark_index, edge_in}
use Rattle.glb_core.specs.Standing.{Represents}
use Rattle.glb_core.specs.inner.Conditions.{HasCaseExactly}
use Rattle.glb_core.specs.inner.Conditions.{HoldsPart, IsWantedRow, IsArmedRow, EachIn, AllOthers}
use Rattle.glb_core.specs.inner.Conditions.{IsWantedIn}
use Rattle.glb_core.proofs.Tables.PlaceRows.{size_of}
use Rattle.glb_core.proofs.Tables.Views.{places_are, Found, as_matched}

-- both ways
abbrev pub Iff : Type 0 → Type 0 → Type 0
Iff P Q = (P → Q) × (Q → P)

pub tells : {B I V : Type 0} (items : B
    → List I) (x : WorldView B V) (e : Event) (b : Bool) (P : Type 0)
    → Iff (b ≡ true) P →
    ((s : Setup) (w : World I) → Represents items s x w → Iff P (IsEnabled s w e))
    → HasCaseExactly items x e (b ≡ true)
tells items x e b P d f = record {
  all = λ h s w S. (f s w S).0 (d.0 h);
  only = λ s w S en. d.1 ((f s w S).1 en);
}

-- the state of an edge tells its row
module _ {B I : Type 0} (items : B → List I) where
  pub idle_in : (z : EdgeRow B) → edge_in items z ≡ Idle → z ≡ edge_row.Idle
  idle_in edge_row.Idle e = refl
  idle_in edge_row.Asked e = absurd (cc)
  idle_in edge_row.Refused e = absurd (cc)
  idle_in (edge_row.Loot b) e = absurd (cc)

  pub asked_in : (z : EdgeRow B) → edge_in items z ≡ Asked → z ≡ edge_row.Asked
  asked_in edge_row.Idle e = absurd (cc)
  asked_in edge_row.Asked e = refl
  asked_in edge_row.Refused e = absurd (cc)
  asked_in (edge_row.Loot b) e = absurd (cc)

  pub refused_in : (z : EdgeRow B) → edge_in items z ≡ Refused → z ≡ edge_row.Refused
  refused_in edge_row.Idle e = absurd (cc)
  refused_in edge_row.Asked e = absurd (cc)
  refused_in edge_row.Refused e = refl
  refused_in (edge_row.Loot b) e = absurd (cc)

  pub loot_in : (z : EdgeRow B) (xs : List I) → edge_in items z ≡ Loot xs → HoldsPart z
  loot_in edge_row.Idle xs e = absurd (cc)
  loot_in edge_row.Asked xs e = absurd (cc)
  loot_in edge_row.Refused xs e = absurd (cc)
  loot_in (edge_row.Loot b) xs e = tt

  pub looted : (z : EdgeRow B) → HoldsPart z → (xs : List I) × (edge_in items z ≡ Loot xs)
  looted edge_row.Idle h = absurd h
  looted edge_row.Asked h = absurd h
  looted edge_row.Refused h = absurd h
  looted (edge_row.Loot b) h = (items b, refl)

  pub open_in : (z : EdgeRow B) → (edge_in items z ≡ Asked) ⊎ (edge_in items z ≡ Refused)
      → IsWantedRow z
  open_in z h = ⊎_elim (λ (e : edge_in items z ≡ Asked). subst IsWantedRow (sym (asked_in z e)) tt)
      (λ (e : edge_in items z ≡ Refused). subst IsWantedRow (sym (refused_in z e)) tt) h

  pub opened : (z : EdgeRow B) → IsWantedRow z → (edge_in items z ≡ Asked)
      ⊎ (edge_in items z ≡ Refused)
  opened edge_row.Idle h = absurd h
  opened edge_row.Asked h = inl refl
  opened edge_row.Refused h = inr refl
  opened (edge_row.Loot b) h = absurd h

  pub armed_in : (z : EdgeRow B) → Iff (IsArmedRow z) (IsArmed (edge_in items z))
  armed_in edge_row.Idle = (λ h. h, λ h. h)
  armed_in edge_row.Asked = (λ h. h, λ h. h)
  armed_in edge_row.Refused = (λ h. h, λ h. h)
  armed_in (edge_row.Loot b) = (λ h. h, λ h. h)

module _ {B I V : Type 0} (items : B → List I) (s : Setup) (x : WorldView B V) (w : World I)
    (S : Represents items s x w) where
  -- a line of the setup is one of the graph
  pub line_there : (t v : ℕ) → t < x.cube.places → has_line s t v ≡ has_number v (outs_of x.cube t)
  unfolding has_line
  line_there t v l =
      let at : s.outs t ≡ cond (ltb t x.cube.places) (outs_of x.cube t) [] =
      ap (λ q. q.outs t) S.shows.setup in
      ap (has_number v) (at ∙ cond-true _ _ _ (lt-ltb t x.cube.places l))

  pub edge_there : (k : Kind) (t v : ℕ) (there : Bool) → t < x.cube.places
      → (k ≡ kind.Steal → Iff (there ≡ true) (t ≢ v))
      → (k ≡ kind.Line → there ≡ has_number v (outs_of x.cube t))
      → Iff (there ≡ true) (has_edge s k t v ≡ true)
  edge_there kind.Steal t v there l steal line = let d = steal refl in (
    λ h. ap not (eq_other t v (d.0 h)),
    λ h. d.1 (λ e. true≢false (sym h ∙ ap (λ q. not (t == q)) (sym e) ∙ ap not (eq_self t))),
  )
  edge_there kind.Line t v there l steal line = let e = line refl ∙ sym (line_there t v l)
      in (λ h. sym e ∙ h, λ h. e ∙ h)

  pub there_other : (t v : ℕ) → has_edge s kind.Steal t v ≡ true → t ≢ v
  there_other t v h e = true≢false (sym h ∙ ap (λ q. not (t == q)) (sym e) ∙ ap not (eq_self t))

  module _ (p : ℕ) (r : PlaceRow B) (R : ShowsLocal items x.params.seed x.cube.places p r (w.place p))
      (below : p < x.cube.places) where
    pub look_told : (t : ℕ) (k : Kind) (there : Bool) → t < x.cube.places
        → Iff (there ≡ true) (has_edge s k t p ≡ true) →
        Iff ((r.phase ≡ phase.Working) × (there ≡ true)
        × (get_or r.marks.items (mark_index x.cube.places k t) mark.Unseen ≡ mark.Unseen))
        (IsEnabled s w (event.Look p t k))
    look_told t k there l d = (
      λ h. (sym R.same_phase ∙ h.0, d.0 h.1, sym (R.marks k t l) ∙ h.2),
      λ h. (R.same_phase ∙ h.0, d.1 h.1, R.marks k t l ∙ h.2),
    )

    pub ask_told : (v : ℕ) (k : Kind) (z : EdgeRow B) (there b : Bool) → edge_in items z
        ≡ w.edge k p v
        → Iff (there ≡ true) (has_edge s k p v ≡ true) →
        (k ≡ kind.Steal → Iff (b ≡ true)
        ((r.phase ≡ phase.Idle) × (0 < r.tries) × (there ≡ true) × (z ≡ edge_row.Idle))) →
        (k ≡ kind.Line → Iff (b ≡ true)
        ((r.phase ≡ phase.Idle) × (r.tries ≡ 0) × (there ≡ true) × (z ≡ edge_row.Idle))) →
        Iff (b ≡ true) (IsEnabled s w (event.Ask p v k))
    ask_told v kind.Steal z there b E d steal line = let f = steal refl in (
      λ h. let g = f.0 h in
          (sym R.same_phase ∙ g.0, subst (λ n. 0 < n) R.tries g.1, d.0 g.2, sym E ∙ ap (edge_in items) g.3),
      λ h. f.1 (
        R.same_phase
            ∙ h.0,
        subst (λ n. 0 < n) (sym R.tries) h.1,
        d.1 h.2,
        idle_in items z (E ∙ h.3),
      ),
    )
    ask_told v kind.Line z there b E d steal line = let f = line refl in (
      λ h. let g = f.0 h in
          (sym R.same_phase ∙ g.0, sym R.tries ∙ g.1, d.0 g.2, sym E ∙ ap (edge_in items) g.3),
      λ h. f.1 (R.same_phase ∙ h.0, R.tries ∙ h.1, d.1 h.2, idle_in items z (E ∙ h.3)),
    )

    pub deny_told : (t : ℕ) (k : Kind) (z : EdgeRow B) → edge_in items z ≡ w.edge k t p →
        Iff ((z ≡ edge_row.Asked) × (r.phase ≢ phase.Gone)
        × ((r.phase ≢ phase.Working)
        ⊎ (length (items r.bag) < 2))) (IsEnabled s w (event.Deny p t k))
    deny_told t k z E = (
      λ h. (sym E ∙ ap (edge_in items) h.0, rw R.same_phase at h.1, rw (R.same_phase, size_of R) at h.2),
      λ h. (asked_in items z (E ∙ h.0), rw R.same_phase h.1, rw (R.same_phase, size_of R) h.2),
    )

    pub give_told : (t : ℕ) (k : Kind) (z : EdgeRow B) → edge_in items z ≡ w.edge k t p →
        Iff ((r.phase ≡ phase.Working) × (r.credit ≡ credit.Minted)
        × ((z ≡ edge_row.Asked) ⊎ ((k ≡ kind.Line) × (z ≡ edge_row.Refused))))
        (IsEnabled s w (event.Give p t k))
    give_told t k z E = (
      λ h. (
        sym R.same_phase ∙ h.0,
        sym R.same_credit
            ∙ h.1,
        ⊎_elim (λ (e : z ≡ edge_row.Asked). inl (sym E ∙ ap (edge_in items) e))
            (λ g. inr (g.0, sym E ∙ ap (edge_in items) g.1)) h.2,
      ),
      λ h. (
        R.same_phase ∙ h.0,
        R.same_credit
            ∙ h.1,
        ⊎_elim (λ (e : w.edge k t p ≡ Asked). inl (asked_in items z (E ∙ e)))
            (λ g. inr (g.0, refused_in items z (E ∙ g.1))) h.2,
      ),
    )

    pub take_told : (v : ℕ) (k : Kind) (z : EdgeRow B) → edge_in items z ≡ w.edge k p v →
        Iff (HoldsPart z × (((r.phase ≡ phase.Waiting v k) × (r.credit ≡ credit.One))
        ⊎ ((k ≡ kind.Line) ×
        ((r.phase ≡ phase.Asleep) ⊎ (r.phase ≡ phase.Idle)
        ⊎ ((r.phase ≡ phase.Working) × (r.credit ≡ credit.One))))))
        (IsEnabled s w (event.Take p v k))
    take_told v k z E = (
      λ h. let g = looted items z h.0 in ((g.0, sym E ∙ g.1), rw (R.same_phase, R.same_credit) at h.1),
      λ h. (loot_in items z h.0.0 (E ∙ h.0.1), rw (R.same_phase, R.same_credit) h.1),
    )

    pub burn_told : Iff (r.credit ≡ credit.Taken) (IsEnabled s w (event.Burn p))
    burn_told = (λ h. sym R.same_credit ∙ h, λ h. R.same_credit ∙ h)

    pub shrug_told : (v : ℕ) (k : Kind) (z : EdgeRow B) → edge_in items z ≡ w.edge k p v →
        Iff ((r.phase ≡ phase.Waiting v k)
        × (z ≡ edge_row.Refused)) (IsEnabled s w (event.Shrug p v k))
    shrug_told v k z E = (
      λ h. (sym R.same_phase ∙ h.0, sym E ∙ ap (edge_in items) h.1),
      λ h. (R.same_phase ∙ h.0, refused_in items z (E ∙ h.1)),
    )

    pub leave_told : Iff ((r.phase ≢ phase.Gone) × ((x.live ≡ 0) ⊎ (x.stop ≢ 0)))
        (IsEnabled s w (event.Leave p))
    leave_told = (
      λ h. (rw R.same_phase at h.0, rw (S.shows.live, S.shows.stop) at h.1),
      λ h. (rw R.same_phase h.0, rw (S.shows.live, S.shows.stop) h.1),
    )

    pub halt_told : (c : ℕ)
        → Iff ((r.phase ≢ phase.Gone) × ((c ≡ 1) ⊎ (c ≡ 2))) (IsEnabled s w (event.Halt p c))
    halt_told c = (λ h. (rw R.same_phase at h.0, h.1), λ h. (rw R.same_phase h.0, h.1))

pub each_member : (P : ℕ → Type 0) (xs : List ℕ) → EachIn xs P → (t : ℕ) → has_number t xs ≡ true
    → P t
each_member P [] h t e = absurd (true≢false (sym e))
each_member P (y ∷ ys) h t e = ⊎_elim
    (λ (same : t ≡ y). subst P (sym same) (h 0 (omega arith)))
    (λ (far : t ≢ y). each_member P ys (λ i l. h (suc i) (omega arith)) t
    (sym (cond-false _ _ _ (ne_eqb t y far)) ∙ e))
    (cases_eq t y)

pub each_of : (P : ℕ → Type 0) (xs : List ℕ) → ((t : ℕ) → has_number t xs ≡ true → P t)
    → EachIn xs P
each_of P xs h i l = All-has_number P xs h i 0 l

-- the member at an index is one
pub member_at : (xs : List ℕ) (i : ℕ) → i < length xs → has_number (get_or xs i 0) xs ≡ true
member_at xs i l = All-has_number (λ q. has_number q xs ≡ true) xs (λ q e. e) i 0 l

-- where a member stands
pub index_of : (xs : List ℕ) (t : ℕ) → has_number t xs ≡ true → (i : ℕ) × (i < length xs)
    × (get_or xs i 0 ≡ t)
index_of [] t e = absurd (true≢false (sym e))
index_of (y ∷ ys) t e = ⊎_elim
    (λ (same : t ≡ y). (0, omega arith, sym same))
    (λ (far : t ≢ y). let r = index_of ys t (sym (cond-false _ _ _ (ne_eqb t y far)) ∙ e)
    in (suc r.0, (let l = r.1 in omega arith), r.2))
    (cases_eq t y)

module _ {B I V : Type 0} (items : B → List I) (s : Setup) (x : WorldView B V) (w : World I)
    (S : Represents items s x w) where
  module _ (p : ℕ) (r : PlaceRow B) (R : ShowsLocal items x.params.seed x.cube.places p r (w.place p))
      (below : p < x.cube.places) where
    all_clear : AllOthers x.cube.places p
        (λ t. get_or r.marks.items (mark_index x.cube.places kind.Steal t) mark.Unseen ≡ mark.Clear)
        → EachIn (ins_of x.cube p)
        (λ t. get_or r.marks.items (mark_index x.cube.places kind.Line t) mark.Unseen ≡ mark.Clear)
        → AllClear s p (w.place p)
    all_clear steals lines kind.Steal t l there = let n = places_are items s x w S.shows in
        let m : t < x.cube.places = omega arith in
        sym (R.marks kind.Steal t m) ∙ steals t m (there_other items s x w S t p there)
    all_clear steals lines kind.Line t l there = let n = places_are items s x w S.shows in
        let m : t < x.cube.places = omega arith in
        sym (R.marks kind.Line t m)
        ∙ each_member (λ t.
        get_or r.marks.items (mark_index x.cube.places kind.Line t) mark.Unseen ≡ mark.Clear)
        (ins_of x.cube p) lines t
        (in_of_line x.cube t p m (sym (line_there items s x w S t p m) ∙ there))

    pub batch_told : Iff
        ((r.phase ≡ phase.Working) × (r.credit ≡ credit.One)
        × AllOthers x.cube.places p
        (λ t. get_or r.marks.items (mark_index x.cube.places kind.Steal t) mark.Unseen ≡ mark.Clear)
        × EachIn (ins_of x.cube p)
        (λ t. get_or r.marks.items (mark_index x.cube.places kind.Line t) mark.Unseen ≡ mark.Clear)
        × (1 < length (items r.bag)
        → EachIn (ins_of x.cube p)
        (λ t. get_or x.edge_rows (edge_index x.cube.places kind.Line t p) edge_row.Idle ≢ edge_row.Refused)))
        (IsEnabled s w (event.Batch p))
    batch_told = let n = places_are items s x w S.shows in (
      λ h. (
        sym R.same_phase ∙ h.0,
        sym R.same_credit ∙ h.1,
        all_clear h.2 h.3,
        λ two t l there e.
            let m : t < x.cube.places = omega arith in
            let long : 1 < length (items r.bag) = subst (λ q. 1 < q) (sym (size_of R)) two in
            each_member (λ t. get_or x.edge_rows (edge_index x.cube.places kind.Line t p) edge_row.Idle ≢
            edge_row.Refused) (ins_of x.cube p) (h.4 long) t
            (in_of_line x.cube t p m (sym (line_there items s x w S t p m) ∙ there))
            (refused_in items (get_or x.edge_rows (edge_index x.cube.places kind.Line t p) edge_row.Idle)
            (S.shows.edge_row kind.Line t p m below ∙ e)),
      ),
      λ h. (
        R.same_phase ∙ h.0,
        R.same_credit ∙ h.1,
        λ t l o. R.marks kind.Steal t l ∙ h.2 kind.Steal t (omega arith) (ap not (eq_other t p o)),
        each_of (λ t. get_or r.marks.items (mark_index x.cube.places kind.Line t) mark.Unseen ≡
            mark.Clear) (ins_of x.cube p) (λ t e.
            let f = line_of_in x.cube t p e in
            R.marks kind.Line t f.0
            ∙ h.2 kind.Line t (let g = f.0 in omega arith) (line_there items s x w S t p f.0 ∙ f.1)),
        λ long. each_of (λ t.
            get_or x.edge_rows (edge_index x.cube.places kind.Line t p) edge_row.Idle ≢ edge_row.Refused)
            (ins_of x.cube p) (λ t e q.
            let f = line_of_in x.cube t p e in
            h.3 (subst (λ q. 1 < q) (size_of R) long) t (let g = f.0 in omega arith)
            (line_there items s x w S t p f.0 ∙ f.1)
            (sym (S.shows.edge_row kind.Line t p f.0 below) ∙ ap (edge_in items) q)),
      ),
    )

    pub mint_told : Iff
        ((r.phase ≡ phase.Working) × (r.credit ≡ credit.One) × (1 < length (items r.bag))
        × IsWantedIn x.edge_rows x.cube.places p (ins_of x.cube p))
        (IsEnabled s w (event.Mint p))
    mint_told = let n = places_are items s x w S.shows in (
      λ h. (
        sym R.same_phase ∙ h.0,
        sym R.same_credit ∙ h.1,
        subst (λ q. 1 < q) (size_of R) h.2,
        ⊎_elim
            (λ a. (
              kind.Steal,
              a.0,
              (let g = a.1 in omega arith),
              ap not (eq_other a.0 p a.2),
              inl (sym (S.shows.edge_row kind.Steal a.0 p a.1 below) ∙ ap (edge_in items) a.3),
            ))
            (λ a.
            let f = line_of_in x.cube (get_or (ins_of x.cube p) a.0 0) p
            (member_at (ins_of x.cube p) a.0 a.1) in (
              kind.Line,
              get_or (ins_of x.cube p) a.0 0,
              (let g = f.0 in omega arith),
              line_there items s x w S (get_or (ins_of x.cube p) a.0 0) p f.0 ∙ f.1,
              ⊎_elim
                  (λ (e : edge_in items
                  (get_or x.edge_rows (edge_index x.cube.places kind.Line (get_or (ins_of x.cube p) a.0 0)
                  p) edge_row.Idle) ≡ Asked).
                  inl (sym (S.shows.edge_row kind.Line (get_or (ins_of x.cube p) a.0 0) p f.0 below) ∙ e))
                  (λ (e : edge_in items
                  (get_or x.edge_rows (edge_index x.cube.places kind.Line (get_or (ins_of x.cube p) a.0 0)
                  p) edge_row.Idle) ≡ Refused).
                  inr (
                    refl,
                    sym (S.shows.edge_row kind.Line (get_or (ins_of x.cube p) a.0 0) p f.0 below)
                        ∙ e,
                  ))
                  (opened items (get_or x.edge_rows
                  (edge_index x.cube.places kind.Line (get_or (ins_of x.cube p) a.0 0) p) edge_row.Idle)
                  a.2),
            ))
            h.3,
      ),
      λ h. (R.same_phase ∙ h.0, R.same_credit ∙ h.1, subst (λ q. 1 < q) (sym (size_of R)) h.2, wanted h.3),
    )
      where
        wanted : IsWanted s w p → IsWantedIn x.edge_rows x.cube.places p (ins_of x.cube p)
        wanted (kind.Steal, t, l, there, state) = let n = places_are items s x w S.shows in
            let m : t < x.cube.places = omega arith in
            inl (
              t,
              m,
              there_other items s x w S t p there,
              ⊎_elim
                  (λ (e : w.edge kind.Steal t p ≡ Asked).
                  asked_in items (get_or x.edge_rows (edge_index x.cube.places kind.Steal t p) edge_row.Idle)
                  (S.shows.edge_row kind.Steal t p m below ∙ e))
                  (λ e. absurd (let f = e.0 in cc))
                  state,
            )
        wanted (kind.Line, t, l, there, state) = let n = places_are items s x w S.shows in
            let m : t < x.cube.places = omega arith in
            let at = index_of (ins_of x.cube p) t
            (in_of_line x.cube t p m (sym (line_there items s x w S t p m) ∙ there)) in
            inr (
              at.0,
              at.1,
              subst (λ u. IsWantedRow (get_or x.edge_rows (edge_index x.cube.places kind.Line u p) edge_row.Idle))
                  (sym at.2)
                  (open_in items (get_or x.edge_rows (edge_index x.cube.places kind.Line t p) edge_row.Idle) (⊎_elim
                  (λ (e : w.edge kind.Line t p ≡ Asked). inl (S.shows.edge_row kind.Line t p m below ∙ e))
                  (λ e. inr (S.shows.edge_row kind.Line t p m below ∙ e.1))
                  state)),
            )

    pub sleep_told : Iff
        ((r.phase ≡ phase.Idle) × (r.tries ≡ 0)
        × EachIn (outs_of x.cube p)
        (λ v. IsArmedRow (get_or x.edge_rows (edge_index x.cube.places kind.Line p v) edge_row.Idle)))
        (IsEnabled s w (event.Sleep p))
    sleep_told = let n = places_are items s x w S.shows in (
      λ h. (
        sym R.same_phase ∙ h.0,
        sym R.tries ∙ h.1,
        λ v l there. subst IsArmed (S.shows.edge_row kind.Line p v below (omega arith))
            ((armed_in items (get_or x.edge_rows (edge_index x.cube.places kind.Line p v) edge_row.Idle)).0
            (each_member (λ v. IsArmedRow (get_or x.edge_rows (edge_index x.cube.places kind.Line p v) edge_row.Idle))
            (outs_of x.cube p) h.2 v (sym (line_there items s x w S p v below) ∙ there))),
      ),
      λ h. (
        R.same_phase ∙ h.0,
        R.tries ∙ h.1,
        each_of (λ v. IsArmedRow (get_or x.edge_rows (edge_index x.cube.places kind.Line p v) edge_row.Idle))
            (outs_of x.cube p) (λ v e.
            let m = outs_below x.cube p v e in
            (armed_in items (get_or x.edge_rows (edge_index x.cube.places kind.Line p v) edge_row.Idle)).1
            (subst IsArmed (sym (S.shows.edge_row kind.Line p v below m))
            (h.2 v (omega arith) (line_there items s x w S p v below ∙ e)))),
      ),
    )

-- a test of an event as it was matched, with its meaning on the tables, tells whether the event has
-- a case
pub arm : {B I V : Type 0} (items : B
    → List I) (x : WorldView B V) (e m : Event) (i j : ℕ) (r : PlaceRow B)
    (z : EdgeRow B) (b : Bool) (P : Type 0)
    → e ≡ m → Found x e i j r z → Iff (b ≡ true) P
    → (Found x m i j r z → (s : Setup) (w : World I) → Represents items s x w
    → Iff P (IsEnabled s w m))
    → HasCaseExactly items x e (b ≡ true)
arm items x e m i j r z b P same f d h =
    as_matched (λ k. HasCaseExactly items x k (b ≡ true)) x e m i j r z same f (λ g. tells items x m b P d (h g))

pub all_near : (n : ℕ) (xs : List ℕ) (Other : ℕ → Type 0)
    → ((t : ℕ) → Iff (has_number t xs ≡ true) ((t < n) × Other t)) → All (λ t. t < n) xs
all_near n xs Other h = All-has_number (λ t. t < n) xs (λ t e. ((h t).0 e).0)
