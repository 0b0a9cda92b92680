-- What a change of one place and one edge does to sums over places and edges.
use Rattle.std.proofs.Common.{◌≡◌, ◌≢◌, ℕ, ◌+◌, ◌<◌, ◌⊎◌, refl, sym, ap, ◌∙◌, subst, inl, inr}
use Rattle.std.proofs.Common.{⊎_elim, arith}
use Rattle.std.proofs.lemmas.Bool.{cases_eq}
use Rattle.glb_laws.specs.Sums.{sum_to}
use Rattle.glb_rules.specs.World.{Setup, World, WorldEdge}
use Rattle.glb_rules.specs.Effects.{Change}
use Rattle.glb_rules.specs.Steps.{Becomes}
use Rattle.glb_rules.specs.Lawful.{sum_of_places, sum_of_edges, sum_of_own_edges}
use Rattle.glb_rules.proofs.Sums.Totals.{sum_change, sum_same}
use Rattle.glb_rules.specs.declared.kinds.Kind.{Kind}
use Rattle.glb_rules.specs.declared.kinds.Kind.TheVariants as kind
use Rattle.glb_rules.specs.declared.local.EdgeName.{EdgeName}
use Rattle.glb_rules.specs.declared.local.Local.{Local}

-- n where the kinds are one
abbrev pub pick : Kind → Kind → ℕ → ℕ
pick kind.Steal kind.Steal n = n
pick kind.Steal kind.Line n = 0
pick kind.Line kind.Steal n = 0
pick kind.Line kind.Line n = n

pub kind_cases : (k j : Kind) → (k ≡ j) ⊎ (k ≢ j)
kind_cases kind.Steal kind.Steal = inl refl
kind_cases kind.Steal kind.Line = inr (λ e. cc)
kind_cases kind.Line kind.Steal = inr (λ e. cc)
kind_cases kind.Line kind.Line = inl refl

abbrev pub Else : EdgeName → Kind → ℕ → ℕ → Type 0
Else c k t v = (k ≢ c.kind) ⊎ (t ≢ c.thief) ⊎ (v ≢ c.victim)

-- the cell, or not
pub name_cases : (c : EdgeName) (k : Kind) (t v : ℕ)
    → ((k ≡ c.kind) × (t ≡ c.thief) × (v ≡ c.victim))
    ⊎ Else c k t v
name_cases c k t v = grind (arith, kind_cases k c.kind, cases_eq t c.thief, cases_eq v c.victim)

module _ {I : Type 0} (s : Setup) (old new : World I) (p : ℕ) (c : EdgeName) (b : Change I)
    (h : Becomes old new p c b) where
  pub across_change : (f : Local I → ℕ) → p < s.places
      → sum_of_places s new f + f (old.place p) ≡ sum_of_places s old f + f b.place
  across_change f l =
      sum_change s.places p (λ q. f (old.place q)) (λ q. f (new.place q)) l
      (λ q m d. ap f (h.other_places q d)) ∙ ap (λ x. sum_of_places s old f + f x) h.place

  -- sums over edges, each weighed by its victim's number too
  pub own_else : (g : ℕ → WorldEdge I → ℕ) (k : Kind) (t : ℕ) → (k ≢ c.kind) ⊎ (t ≢ c.thief)
      → sum_to s.places (λ v. g v (new.edge k t v)) ≡ sum_to s.places (λ v. g v (old.edge k t v))
  own_else g k t d = sum_same s.places (λ v. g v (old.edge k t v)) (λ v. g v (new.edge k t v))
      (λ v l. ap (g v) (h.other_edges k t v (⊎_elim (λ x. inl x) (λ x. inr (inl x)) d)))

  pub own_named : (g : ℕ → WorldEdge I → ℕ) → c.victim < s.places →
      sum_to s.places (λ v. g v (new.edge c.kind c.thief v)) + g c.victim (old.edge c.kind c.thief c.victim)
      ≡ sum_to s.places (λ v. g v (old.edge c.kind c.thief v)) + g c.victim b.edge
  own_named g l =
      sum_change s.places c.victim (λ v. g v (old.edge c.kind c.thief v))
      (λ v. g v (new.edge c.kind c.thief v)) l
      (λ v m d. ap (g v) (h.other_edges c.kind c.thief v (inr (inr d))))
      ∙ ap (λ x. sum_to s.places (λ v. g v (old.edge c.kind c.thief v)) + g c.victim x) h.edge

  -- where the weight of the cell stays, so does each thief's sum
  pub own_kept : (g : ℕ → WorldEdge I → ℕ) (k : Kind) (t : ℕ) → c.victim < s.places
      → g c.victim b.edge ≡ g c.victim (old.edge c.kind c.thief c.victim)
      → sum_to s.places (λ v. g v (new.edge k t v)) ≡ sum_to s.places (λ v. g v (old.edge k t v))
  own_kept g k t l e =
      sum_same s.places (λ v. g v (old.edge k t v)) (λ v. g v (new.edge k t v)) (λ v m.
      ⊎_elim
      (λ same. rw (same.0, same.1, same.2) (ap (g c.victim) h.edge ∙ e))
      (λ d. ap (g v) (h.other_edges k t v d))
      (name_cases c k t v))

  pub over_change : (g : WorldEdge I → ℕ) (k : Kind) → c.thief < s.places → c.victim < s.places →
      sum_of_edges s new k g + pick k c.kind (g (old.edge c.kind c.thief c.victim)) ≡ sum_of_edges s old k g + pick k
      c.kind (g b.edge)
  over_change g k l m =
      ⊎_elim
      (λ (e : k ≡ c.kind).
      subst (λ j. sum_of_edges s new j g + pick j c.kind (g (old.edge c.kind c.thief c.victim)) ≡ sum_of_edges s old j
      g + pick j c.kind (g b.edge)) (sym e)
      (rw (same c.kind (g (old.edge c.kind c.thief c.victim)), same c.kind (g b.edge))
      (let f : ℕ → ℕ = λ t. sum_of_own_edges s old c.kind t g in
      let f' : ℕ → ℕ = λ t. sum_of_own_edges s new c.kind t g in
      let e1 : sum_to s.places f' + f c.thief ≡ sum_to s.places f + f' c.thief =
      sum_change s.places c.thief f f' l (λ t b d. own_else (λ v. g) c.kind t (inr d)) in
      let e2 : f' c.thief + g (old.edge c.kind c.thief c.victim) ≡ f c.thief + g b.edge =
      own_named (λ v. g) m in
      omega arith)))
      (λ (d : k ≢ c.kind).
      let e1 : sum_of_edges s new k g ≡ sum_of_edges s old k g =
      sum_same s.places (λ t. sum_of_own_edges s old k t g) (λ t. sum_of_own_edges s new k t g)
      (λ t b. own_else (λ v. g) k t (inl d)) in
      rw (other k c.kind (g (old.edge c.kind c.thief c.victim)) d, other k c.kind (g b.edge) d)
      (omega arith))
      (kind_cases k c.kind)
    where
      same : (j : Kind) (n : ℕ) → pick j j n ≡ n
      same kind.Steal n = refl
      same kind.Line n = refl

      other : (j i : Kind) (n : ℕ) → j ≢ i → pick j i n ≡ 0
      other kind.Steal kind.Steal n d = absurd (d refl)
      other kind.Steal kind.Line n d = refl
      other kind.Line kind.Steal n d = refl
      other kind.Line kind.Line n d = absurd (d refl)
