-- What is seen still agrees with the record after one edge is known to be in another state.
use Rattle.std.proofs.Common.{◌≡◌, ◌≢◌, ℕ, ◌<◌, ◌⊎◌, inl, inr, ⊎_elim, Bool, true, false, cond, ◌&&◌, ◌==◌, List, [], ◌∷◌, length, get_or, zero, suc, map, refl, sym, ap, ◌∙◌, subst}
use Rattle.std.proofs.lemmas.Bool.{cases_eq}
use Rattle.glb_rules.specs.World.{Asked, mark_at, same_kind, waits_on}
use Rattle.glb_rules.specs.Events.{name_of}
use Rattle.glb_rules.specs.Lawful.{PhaseFits}
use Rattle.glb_rules.specs.Sight.{Sight, IsIn}
use Rattle.glb_rules.specs.inner.OwnSide.{OwnSide}
use Rattle.glb_rules.specs.Decision.{is_unseen, is_mark, is_wanted}
use Rattle.glb_rules.proofs.EdgeLemmas.Marks.{eq_other, same_kind_false}
use Rattle.glb_rules.proofs.Invariant.Frames.{kind_cases}
use Rattle.glb_rules.proofs.Sums.Members.{in_map}
use Rattle.glb_rules.specs.declared.kinds.Kind.{Kind}
use Rattle.glb_rules.specs.declared.kinds.Kind.TheVariants as kind
use Rattle.glb_rules.specs.declared.kinds.Edge.{Edge}
use Rattle.glb_rules.specs.declared.kinds.Edge.TheVariants as seen
use Rattle.glb_rules.specs.declared.kinds.Mark.{Mark}
use Rattle.glb_rules.specs.declared.kinds.Mark.TheVariants as mark
use Rattle.glb_rules.specs.declared.kinds.Phase.TheVariants as phase
use Rattle.glb_rules.specs.declared.kinds.Credit.TheVariants as credit
use Rattle.glb_rules.specs.declared.local.Local.{Local}
use Rattle.glb_rules.specs.declared.local.MarkOn.{MarkOn}
use Rattle.glb_rules.specs.declared.edges.InEdge.{InEdge}
use Rattle.glb_rules.specs.declared.edges.OutEdge.{OutEdge}
use Rattle.glb_place.specs.declared.record.KnownEdge.{KnownEdge}
use Rattle.glb_place.specs.declared.record.Record.{Record}
use Rattle.glb_place.specs.Records.{known_at, edge_like, setup_in, world_in}
use Rattle.glb_place.specs.inner.Seeing.{is_from, with_mark, with_line, LookedBefore}
use Rattle.glb_place.specs.inner.Standing.{IsEarly, TellsIn, TellsOuts, Tells}
use Rattle.glb_place.proofs.KnownFacts.{with_known, in_known, in_known_out, out_known, names_kept}

-- the two names are the same, or the test says that they are not
pub names_cases : (k j : Kind) (v u : ℕ) → ((k ≡ j) × (v ≡ u))
    ⊎ ((same_kind k j && (v == u)) ≡ false)
names_cases k j v u = ⊎_elim
    (λ (e : k ≡ j). ⊎_elim (λ (d : v ≡ u). inl (e, d))
    (λ (d : v ≢ u). inr (ap (λ b. same_kind k j && b) (eq_other v u d) ∙ and_false (same_kind k j)))
    (cases_eq v u))
    (λ (e : k ≢ j). inr (ap (λ b. b && (v == u)) (same_kind_false k j e)))
    (kind_cases k j)
  where
    and_false : (b : Bool) → (b && false) ≡ false
    and_false true = refl
    and_false false = refl

-- a mark is the one that stands there
pub mark_same : (ms : List MarkOn) (k : Kind) (t : ℕ) (j : Kind) (u : ℕ) → mark_at ms j u
    ≡ cond (same_kind k j && (t == u)) (mark_at ms k t) (mark_at ms j u)
mark_same ms k t j u = go (names_cases k j t u) (same_kind k j && (t == u)) refl
  where
    go : ((k ≡ j) × (t ≡ u)) ⊎ ((same_kind k j && (t == u)) ≡ false) → (b : Bool)
        → (same_kind k j && (t == u)) ≡ b → mark_at ms j u
        ≡ cond b (mark_at ms k t) (mark_at ms j u)
    go (inl h) true q = λ i. mark_at ms (sym h.0 i) (sym h.1 i)
    go (inr h) true q = let e : false ≡ true = sym h ∙ q in cc
    go n false q = refl

-- a function that makes no member Unseen keeps what is looked at
pub looked_map : (f : InEdge → InEdge)
    → ((w : InEdge) → is_unseen w ≡ false → is_unseen (f w) ≡ false)
    → (xs : List InEdge) (n : ℕ) → LookedBefore xs n → LookedBefore (map f xs) n
looked_map f h xs n l i d m = one xs i (λ e. l i e m)
  where
    one : (ys : List InEdge) (j : ℕ) → ((e : InEdge) → is_unseen (get_or ys j e) ≡ false)
        → is_unseen (get_or (map f ys) j d) ≡ false
    one [] j g = g d
    one (y ∷ ys) zero g = h y (g y)
    one (y ∷ ys) (suc j) g = one ys j g

-- a mark other than Unseen makes no member Unseen
pub marked_not_unseen : (k : Kind) (t : ℕ) (m : Mark) (x : Edge) → is_mark mark.Unseen m ≡ false
    → (w : InEdge) → is_unseen w ≡ false → is_unseen (with_mark k t m x w) ≡ false
marked_not_unseen k t m x n w u = go (is_from k t w)
  where
    go : (b : Bool) → is_unseen (cond b (record w { mark = m; edge = x }) w) ≡ false
    go true = n
    go false = u

-- an in-edge is known to be in another state, and has another mark
module _ {I : Type 0} (r : Record I) (a : Local I) (k : Kind) (t : ℕ) (m : Mark) (x : Edge)
    (z : Sight) (first later : ℕ) (T : Tells r z first) (other : t ≢ r.place)
    (marks : (j : Kind) (u : ℕ) → mark_at a.marks j u
    ≡ cond (same_kind k j && (t == u)) m (mark_at r.local.marks j u))
    (same_phase : a.phase ≡ r.local.phase) (fits : PhaseFits r.local.phase a.credit (length a.bag))
    (pending : m ≡ mark.Pending → x ≡ seen.Asked) (not_minted : a.credit ≢ credit.Minted) where
  -- what is known, with the one edge in front
  abbrev known : List KnownEdge
  known = with_known (name_of k t r.place) x r.known

  -- of the in-edges one is known to be in another state
  known_in : (j : Kind) (u : ℕ) → known_at known j u r.place
      ≡ cond (same_kind k j && (t == u)) x (known_at r.known j u r.place)
  known_in j u = in_known k t r.place x r.known j u

  -- nothing else is known of the own edges
  known_out : (j : Kind) (v : ℕ) → known_at known j r.place v ≡ known_at r.known j r.place v
  known_out j v = in_known_out k t r.place x r.known other j v

  -- what is seen of an in-edge agrees, whether it is the one or not
  in_told : (w : InEdge) → TellsIn r w → (b : Bool) → is_from k t w ≡ b
      → TellsIn (record r { known = known; local = a }) (cond b (record w { mark = m; edge = x }) w)
  in_told w h true q = record {
    mark = marks w.kind w.thief ∙ ap (λ b. cond b m (mark_at r.local.marks w.kind w.thief)) q;
    edge = inl (known_in w.kind w.thief
        ∙ ap (λ b. cond b x (known_at r.known w.kind w.thief r.place)) q);
  }
  in_told w h false q =
      let same = known_in w.kind w.thief
      ∙ ap (λ b. cond b x (known_at r.known w.kind w.thief r.place)) q in
      record {
        mark = marks w.kind w.thief ∙ ap (λ b. cond b m (mark_at r.local.marks w.kind w.thief)) q
            ∙ h.mark;
        edge = ⊎_elim (λ e. inl (same ∙ e))
            (λ (e : IsEarly r w). inr (record {
              not_minted = not_minted;
              mark = e.mark;
              taken_for = e.taken_for;
              known = same ∙ e.known;
            })) h.edge;
      }

  -- all that is seen agrees with the record afterwards
  pub told_in : LookedBefore (map (with_mark k t m x) z.ins) later
      → Tells (record r { known = known; local = a })
      (record z { ins = map (with_mark k t m x) z.ins }) later
  told_in before = record {
    own = record {
      fits = subst (λ f. PhaseFits f a.credit (length a.bag)) (sym same_phase) fits;
      near = λ v j e. T.own.near v j (sym same_phase ∙ e);
      pending = λ j u l. by j u l (same_kind k j && (t == u)) refl;
      steal = λ v l e. ap (edge_like {I = I}) (known_out kind.Steal v)
          ∙ T.own.steal v l (ap (waits_on kind.Steal v) (sym same_phase) ∙ e);
      line = λ v l e. ap (waits_on kind.Line v) same_phase
          ∙ T.own.line v l (ap (edge_like {I = I}) (sym (known_out kind.Line v)) ∙ e);
    };
    made = record { ins = names_kept r.place k t m x z.ins ∙ T.made.ins; outs = T.made.outs };
    ins = λ y i.
        let n = in_map (with_mark k t m x) z.ins y i in
        subst (TellsIn (record r { known = known; local = a })) (sym n.2)
        (in_told n.0 (T.ins n.0 n.1) (is_from k t n.0) refl);
    outs = λ y i. known_out kind.Line y.victim ∙ T.outs y i;
    waited = λ v j e. T.waited v j (sym same_phase ∙ e) ∙ sym (known_out j v);
    goes_on = T.goes_on;
    not_halted = T.not_halted;
    looked_until = before;
    wanted = λ c. absurd (not_minted c);
  }
    where
      by : (j : Kind) (u : ℕ) → u < r.lines.places → (b : Bool) → (same_kind k j && (t == u)) ≡ b
          → mark_at a.marks j u ≡ mark.Pending → edge_like {I = I} (known_at known j u r.place)
          ≡ Asked
      by j u l true q e =
          let p : m ≡ mark.Pending =
          sym (marks j u ∙ ap (λ b. cond b m (mark_at r.local.marks j u)) q) ∙ e in
          ap (edge_like {I = I}) (known_in j u
          ∙ ap (λ b. cond b x (known_at r.known j u r.place)) q ∙ pending p)
      by j u l false q e =
          ap (edge_like {I = I}) (known_in j u
          ∙ ap (λ b. cond b x (known_at r.known j u r.place)) q)
          ∙ T.own.pending j u l
          (sym (marks j u ∙ ap (λ b. cond b m (mark_at r.local.marks j u)) q) ∙ e)

-- the in-edges and their marks stay
pub told_by : {I : Type 0} (r : Record I) (a : Local I) (known : List KnownEdge) (z : Sight)
    (first : ℕ)
    (outs : List OutEdge) (waited : Edge) → Tells r z first
    → ((j : Kind) (u : ℕ) → known_at known j u r.place ≡ known_at r.known j u r.place)
    → a.marks ≡ r.local.marks
    → ((x : InEdge) → IsIn x z.ins → IsEarly r x → a.credit ≢ credit.Minted)
    → (own : OwnSide (setup_in r) (world_in (record r { known = known; local = a })) r.place)
    → map (λ (y : OutEdge). y.victim) outs ≡ map (λ (y : OutEdge). y.victim) z.outs
    → TellsOuts (record r { known = known; local = a }) outs
    → ((v : ℕ) (k : Kind) → a.phase ≡ phase.Waiting v k → waited ≡ known_at known k r.place v)
    → (a.credit ≡ credit.Minted → (x : InEdge) × IsIn x z.ins × (is_wanted x ≡ true))
    → Tells (record r { known = known; local = a }) (record z { outs = outs; waited = waited }) first
told_by r a known z first outs waited T same marks early own made told waits wanted = record {
  own = own;
  made = record { ins = T.made.ins; outs = made ∙ T.made.outs };
  ins = λ x i.
      let h = T.ins x i in
      record {
        mark = ap (λ ms. mark_at ms x.kind x.thief) marks ∙ h.mark;
        edge = ⊎_elim (λ e. inl (same x.kind x.thief ∙ e))
            (λ (e : IsEarly r x). inr (record {
              not_minted = early x i e;
              mark = e.mark;
              taken_for = e.taken_for;
              known = same x.kind x.thief ∙ e.known;
            })) h.edge;
      };
  outs = told;
  waited = waits;
  goes_on = T.goes_on;
  not_halted = T.not_halted;
  looked_until = T.looked_until;
  wanted = wanted;
}

-- the lines that are seen, after one of them is known to be in another state
module _ {I : Type 0} (r : Record I) (a : Local I) (v : ℕ) (x : Edge) where
  -- what is known, with the one line in front
  abbrev known_now : List KnownEdge
  known_now = with_known (name_of kind.Line r.place v) x r.known

  -- what is seen of a line agrees, whether it is the one or not
  out_told : (w : OutEdge) → known_at r.known kind.Line r.place w.victim ≡ w.edge → (b : Bool)
      → (v == w.victim) ≡ b
      → known_at known_now kind.Line r.place (cond b (record w { edge = x }) w).victim
      ≡ (cond b (record w { edge = x }) w).edge
  out_told w h true q = out_known kind.Line v r.place x r.known kind.Line w.victim
      ∙ ap (λ b. cond b x (known_at r.known kind.Line r.place w.victim)) q
  out_told w h false q = out_known kind.Line v r.place x r.known kind.Line w.victim
      ∙ ap (λ b. cond b x (known_at r.known kind.Line r.place w.victim)) q ∙ h

  -- and so do all lines
  pub outs_told : (outs : List OutEdge) → TellsOuts r outs
      → TellsOuts (record r { known = known_now; local = a }) (map (with_line v x) outs)
  outs_told outs T y i =
      let n = in_map (with_line v x) outs y i in
      subst (λ w. known_at known_now kind.Line r.place w.victim ≡ w.edge) (sym n.2)
      (out_told n.0 (T n.0 n.1) (v == n.0.victim) refl)

-- the lines, after an edge of the other kind is
pub outs_same : {I : Type 0} (r : Record I) (a : Local I) (v : ℕ) (x : Edge) (outs : List OutEdge)
    → TellsOuts r outs
    → TellsOuts (record r {
      known = with_known (name_of kind.Steal r.place v) x r.known;
      local = a;
    }) outs
outs_same r a v x outs T y i = out_known kind.Steal v r.place x r.known kind.Line y.victim ∙ T y i
