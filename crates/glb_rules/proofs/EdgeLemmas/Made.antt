-- The list of names has each edge once.
use Rattle.std.proofs.Common.{◌≡◌, ◌≢◌, ℕ, ◌<◌, Bool, true, false, not, cond, ◌==◌, List, [], ◌∷◌}
use Rattle.std.proofs.Common.{refl, sym, ap, ◌∙◌, subst, inl, inr, ⊎_elim}
use Rattle.std.proofs.lemmas.Bool.{cases_eq}
use Rattle.glb_laws.specs.Numbers.{IsDistinct, has_number}
use Rattle.glb_rules.specs.Joins.{join_to}
use Rattle.glb_rules.specs.World.{Setup, has_edge, has_line}
use Rattle.glb_rules.specs.Events.{name_of}
use Rattle.glb_rules.specs.Setups.{IsProper}
use Rattle.glb_rules.proofs.EdgeLemmas.Names.{NamesEdges, lines_of, names, steal_name, steals_of}
use Rattle.glb_rules.specs.Sight.{IsIn}
use Rattle.glb_rules.proofs.EdgeLemmas.Marks.{eq_other, eq_self}
use Rattle.glb_rules.proofs.Sums.Members.{AllApart, at_in, distinct_append, distinct_join}
use Rattle.glb_rules.proofs.Sums.Members.{distinct_map, distinct_one, in_append, in_at, in_join}
use Rattle.glb_rules.proofs.Sums.Members.{in_left, in_map, in_right, join_in, map_in}
use Rattle.glb_rules.specs.declared.kinds.Kind.{Kind}
use Rattle.glb_rules.specs.declared.kinds.Kind.TheVariants as kind
use Rattle.glb_rules.specs.declared.local.EdgeName.{EdgeName}

pub number_in : (v : ℕ) (ms : List ℕ) → has_number v ms ≡ true → IsIn v ms
number_in v [] h = absurd (cc)
number_in v (m ∷ ms) h =
    ⊎_elim (λ (e : v ≡ m). inl e) (λ (e : v ≢ m). inr (number_in v ms (rw (eq_other v m e) at h)))
    (cases_eq v m)

pub in_number : (v : ℕ) (ms : List ℕ) → IsIn v ms → has_number v ms ≡ true
in_number v [] h = absurd h
in_number v (m ∷ ms) h =
    ⊎_elim (λ (e : v ≡ m). rw (e, eq_self m) refl)
    (λ (e : v ≢ m). rw (eq_other v m e)
    (⊎_elim (λ (q : v ≡ m). absurd (e q)) (λ (g : IsIn v ms). in_number v ms g) h)) (cases_eq v m)

pub apart_of : (ms : List ℕ) → IsDistinct ms → AllApart ms
apart_of [] d = tt
apart_of (m ∷ ms) d =
    (λ h. let e : has_number m ms ≡ false = d.0 in let f = in_number m ms h in cc, apart_of ms d.1)

-- a line and its list
pub line_in : (s : Setup) (t v : ℕ) → has_line s t v ≡ true → IsIn v (s.outs t)
unfolding has_line
line_in s t v h = number_in v (s.outs t) h

pub in_line : (s : Setup) (t v : ℕ) → IsIn v (s.outs t) → has_line s t v ≡ true
unfolding has_line
in_line s t v h = in_number v (s.outs t) h

in_steal : (t v : ℕ) (n : EdgeName) → IsIn n (steal_name t v) → (t ≢ v)
    × (n ≡ record { kind = kind.Steal; thief = t; victim = v })
in_steal t v n h = ⊎_elim
    (λ (e : t ≡ v). absurd (rw (e, eq_self v) at h))
    (λ (e : t ≢ v). let g : IsIn n (record { kind = kind.Steal; thief = t; victim = v } ∷ []) =
    rw (eq_other t v e) at h
    in (
      e,
      ⊎_elim (λ (q : n ≡ record { kind = kind.Steal; thief = t; victim = v }). q) (λ z. absurd z)
          g,
    ))
    (cases_eq t v)

steal_in : (t v : ℕ) → t ≢ v → IsIn (record { kind = kind.Steal; thief = t; victim = v }) (steal_name t v)
steal_in t v e = rw (eq_other t v e) (inl refl)

distinct_steal : (t v : ℕ) → AllApart (steal_name t v)
distinct_steal t v = by (t == v)
  where
    by : (b : Bool) → AllApart {A = EdgeName}
        (cond b [] (record { kind = kind.Steal; thief = t; victim = v } ∷ []))
    by true = tt
    by false = ((λ h. h), tt)

module _ (s : Setup) (P : IsProper s) where
  in_steals : (t : ℕ) (n : EdgeName) → IsIn n (steals_of s t) → (n.kind ≡ kind.Steal)
      × (n.thief ≡ t)
      × (n.victim < s.places) × (t ≢ n.victim)
  in_steals t n h =
      let j = in_join s.places (steal_name t) n h in
      let q = in_steal t j.0 n j.2 in (
        ap (λ (m : EdgeName). m.kind) q.1,
        ap (λ (m : EdgeName). m.thief) q.1,
        subst (λ z. z < s.places) (sym (ap (λ (m : EdgeName). m.victim) q.1)) j.1,
        λ e.
            q.0 (e ∙ ap (λ (m : EdgeName). m.victim) q.1),
      )

  in_lines : (t : ℕ) (n : EdgeName) → IsIn n (lines_of s t) → (n.kind ≡ kind.Line) × (n.thief ≡ t)
      × IsIn n.victim (s.outs t)
  in_lines t n h =
      let q = in_map (name_of kind.Line t) (s.outs t) n h in (
        ap (λ (m : EdgeName). m.kind) q.2,
        ap (λ (m : EdgeName). m.thief) q.2,
        subst (λ z. IsIn z (s.outs t)) (sym (ap (λ (m : EdgeName). m.victim) q.2)) q.1,
      )

  distinct_names : AllApart (names s)
  distinct_names = distinct_append (join_to s.places (steals_of s)) (join_to s.places (lines_of s))
      (distinct_join s.places (steals_of s)
      (λ t l. distinct_join s.places (steal_name t) (λ v m. distinct_steal t v)
      (λ v u n x y a b. sym (ap (λ (m : EdgeName). m.victim) (in_steal t v n a).1)
      ∙ ap (λ (m : EdgeName). m.victim) (in_steal t u n b).1))
      (λ t u n x y a b. sym (in_steals t n a).1 ∙ (in_steals u n b).1))
      (distinct_join s.places (lines_of s)
      (λ t l. distinct_map (name_of kind.Line t) (λ a b e. ap (λ (m : EdgeName). m.victim) e) (s.outs t)
      (apart_of (s.outs t) (P.once t l)))
      (λ t u n x y a b. sym (in_lines t n a).1 ∙ (in_lines u n b).1))
      (λ n a b. let x = in_join s.places (steals_of s) n a in let y = in_join s.places (lines_of s) n b in
      let p : n.kind ≡ kind.Steal = (in_steals x.0 n x.2).0 in
      let q : n.kind ≡ kind.Line = (in_lines y.0 n y.2).0 in cc)

  there : (n : EdgeName) → IsIn n (names s) → (n.thief < s.places) × (n.victim < s.places)
      × (has_edge s n.kind n.thief n.victim ≡ true)
  there n h = ⊎_elim
      (λ (a : IsIn n (join_to s.places (steals_of s))).
      let x = in_join s.places (steals_of s) n a in let q = in_steals x.0 n x.2 in
      (subst (λ z. z < s.places) (sym q.1) x.1, q.2, rw (q.0, q.1, eq_other x.0 n.victim q.3) refl))
      (λ (b : IsIn n (join_to s.places (lines_of s))).
      let y = in_join s.places (lines_of s) n b in let q = in_lines y.0 n y.2 in (
        subst (λ z. z < s.places) (sym q.1) y.1,
        P.near y.0 n.victim (in_line s y.0 n.victim q.2),
        rw (q.0, q.1) (in_line s y.0 n.victim q.2),
      ))
      (in_append (join_to s.places (steals_of s)) (join_to s.places (lines_of s)) n h)

  all : (k : Kind) (t v : ℕ) → t < s.places → v < s.places → has_edge s k t v ≡ true
      → IsIn (record { kind = k; thief = t; victim = v }) (names s)
  all kind.Steal t v l m h =
      in_left (join_to s.places (steals_of s)) (join_to s.places (lines_of s)) _
      (join_in s.places (steals_of s) _ t l (join_in s.places (steal_name t) _ v m
      (steal_in t v (λ e. let f : (t == v) ≡ true = rw (e, eq_self v) refl in
      let g : not (t == v) ≡ true = h in let z : not true ≡ true = rw f at g in cc))))
  all kind.Line t v l m h =
      in_right (join_to s.places (steals_of s)) (join_to s.places (lines_of s)) _
      (join_in s.places (lines_of s) _ t l (map_in (name_of kind.Line t) (s.outs t) v (line_in s t v h)))

  pub names_named : NamesEdges s (names s)
  names_named = record {
    once = distinct_one (names s) distinct_names;
    there = λ i n e. there n (at_in (names s) i n e);
    all = λ k t v l m h. in_at (names s) _ (all k t v l m h);
  }
