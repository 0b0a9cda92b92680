-- How the edges that a place knows, and sums over them, change where it learns the state of one.
use Rattle.std.proofs.Common.{◌≡◌, ◌≢◌, ℕ, ◌+◌, ◌<◌, ◌⊎◌, Bool, true, false, ◌&&◌, ◌==◌, List, ◌∷◌}
use Rattle.std.proofs.Common.{refl, sym, ap, inl, inr, ⊎_elim, ◌∙◌}
use Rattle.glb_laws.specs.Sums.{sum_to}
use Rattle.glb_rules.specs.World.{same_kind}
use Rattle.glb_rules.specs.Events.{name_of}
use Rattle.glb_rules.specs.declared.kinds.Kind.{Kind}
use Rattle.glb_rules.specs.declared.kinds.Edge.{Edge}
use Rattle.glb_rules.proofs.CallerLemmas.{sum_change, sum_same}
use Rattle.glb_rules.proofs.CallerLemmas.{same_kind_true, same_kind_false, eq_self, eq_other}
use Rattle.glb_place.specs.declared.record.KnownEdge.{KnownEdge}
use Rattle.glb_place.specs.Records.{known_at}

and_false : (b : Bool) → (b && false) ≡ false
and_false true = refl
and_false false = refl

module _ (xs : List KnownEdge) (k : Kind) (t v : ℕ) (x : Edge) where
  abbrev pub more : List KnownEdge
  more = record { name = name_of k t v; edge = x } ∷ xs

  pub hit : known_at more k t v ≡ x
  hit = rw (same_kind_true k k refl, eq_self t, eq_self v) refl

  pub miss : (i : Kind) (u w : ℕ) → (i ≢ k) ⊎ (u ≢ t) ⊎ (w ≢ v) → known_at more i u w
      ≡ known_at xs i u w
  miss i u w d =
      ⊎_elim (λ n. rw (same_kind_false k i (λ e. n (sym e))) refl)
      (λ d. ⊎_elim
      (λ n. rw (eq_other t u (λ e. n (sym e)), and_false (same_kind k i)) refl)
      (λ n. rw (eq_other v w (λ e. n (sym e)), and_false (t == u), and_false (same_kind k i)) refl)
      d)
      d

  -- the edges of one thief
  pub own_here : (n : ℕ) (g : ℕ → Edge → ℕ) → v < n
      → sum_to n (λ w. g w (known_at more k t w)) + g v (known_at xs k t v)
      ≡ sum_to n (λ w. g w (known_at xs k t w)) + g v x
  own_here n g l =
      sum_change n v (λ w. g w (known_at xs k t w)) (λ w. g w (known_at more k t w)) l
      (λ w m d. ap (g w) (miss k t w (inr (inr d))))
      ∙ ap (λ y. sum_to n (λ w. g w (known_at xs k t w)) + g v y) hit

  pub own_away : (n : ℕ) (g : ℕ → Edge → ℕ) (i : Kind) (u : ℕ) → (i ≢ k) ⊎ (u ≢ t)
      → sum_to n (λ w. g w (known_at more i u w)) ≡ sum_to n (λ w. g w (known_at xs i u w))
  own_away n g i u d =
      sum_same n (λ w. g w (known_at xs i u w)) (λ w. g w (known_at more i u w))
      (λ w l. ap (g w) (miss i u w (⊎_elim (λ e. inl e) (λ e. inr (inl e)) d)))

  -- the edges of one victim
  pub held_here : (n : ℕ) (g : Edge → ℕ) → t < n
      → sum_to n (λ u. g (known_at more k u v)) + g (known_at xs k t v)
      ≡ sum_to n (λ u. g (known_at xs k u v)) + g x
  held_here n g l =
      sum_change n t (λ u. g (known_at xs k u v)) (λ u. g (known_at more k u v)) l
      (λ u m d. ap g (miss k u v (inr (inl d))))
      ∙ ap (λ y. sum_to n (λ u. g (known_at xs k u v)) + g y) hit

  pub held_away : (n : ℕ) (g : Edge → ℕ) (i : Kind) (w : ℕ) → (i ≢ k) ⊎ (w ≢ v)
      → sum_to n (λ u. g (known_at more i u w)) ≡ sum_to n (λ u. g (known_at xs i u w))
  held_away n g i w d =
      sum_same n (λ u. g (known_at xs i u w)) (λ u. g (known_at more i u w))
      (λ u l. ap g (miss i u w (⊎_elim (λ e. inl e) (λ e. inr (inr e)) d)))
