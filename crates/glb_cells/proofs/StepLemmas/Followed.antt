-- Steps that are an event by the word that they find.
use Rattle.std.proofs.Common.{◌≡◌, ◌≢◌, ⊎_elim, ℕ, ◌+◌, Bool, true, false, cond, Some, None, sym, subst, eq-eqb, ne_eqb}
use Rattle.std.specs.Prelude.{slice_index, ◌==◌}
use Rattle.std.proofs.lemmas.Bool.{cases_eq}
use Rattle.glb_rules.specs.Steps.{Step}
use Rattle.glb_rules.specs.declared.event.Event.{Event}
use Rattle.glb_rules.specs.declared.event.Event.TheVariants as event
use Rattle.glb_cells.specs.Shows.{Fixed, Shows, Table, world_of}
use Rattle.glb_cells.specs.Follows.{Follows, LookFollows, ShrugFollows, OverFollows, StopFollows, is_event}
use Rattle.glb_cells.proofs.StepLemmas.Asking.{Either, look_goes}
use Rattle.glb_cells.proofs.StepLemmas.Shrugging.{shrug_goes}
use Rattle.glb_cells.proofs.StepLemmas.Counting.{over_goes}
use Rattle.glb_cells.proofs.StepLemmas.Stopping.{stop_goes}

module _ {B Q I : Type 0} (Γ : Fixed B Q I) where
  module _ (s : Table Γ) (h : Shows Γ s) (s' : Table Γ) (ev : Event) where
    abbrev Goes : Shows Γ s' → Type 0
    Goes k = Step (Γ.children Γ.program) Γ.lines (world_of Γ s h) ev (world_of Γ s' k)

    abbrev Stays : Shows Γ s' → Type 0
    Stays k = world_of Γ s' k ≡ world_of Γ s h

    pub by_either : (b : Bool) → (k : Shows Γ s') × Either b (Goes k) (Stays k)
        → Follows Γ s h (cond b (Some ev) None) s'
    by_either true x = x
    by_either false x = x

    -- an event where this word was found
    pub where_found : (w n : ℕ) → (k : Shows Γ s') × ((w ≡ n → Goes k) × (w ≢ n → Stays k))
        → Follows Γ s h (cond (w == n) (Some ev) None) s'
    where_found w n x = ⊎_elim
        (λ (e : w ≡ n). subst (λ b. Follows Γ s h (cond b (Some ev) None) s') (sym (eq-eqb w n e))
        (x.0, x.1.0 e))
        (λ (d : w ≢ n). subst (λ b. Follows Γ s h (cond b (Some ev) None) s') (sym (ne_eqb w n d))
        (x.0, x.1.1 d))
        (cases_eq w n)

    -- an event unless it was found
    pub unless_found : (w n : ℕ) → (k : Shows Γ s') × ((w ≢ n → Goes k) × (w ≡ n → Stays k))
        → Follows Γ s h (cond (w == n) None (Some ev)) s'
    unless_found w n x = ⊎_elim
        (λ (e : w ≡ n). subst (λ b. Follows Γ s h (cond b None (Some ev)) s') (sym (eq-eqb w n e))
        (x.0, x.1.1 e))
        (λ (d : w ≢ n). subst (λ b. Follows Γ s h (cond b None (Some ev)) s') (sym (ne_eqb w n d))
        (x.0, x.1.0 d))
        (cases_eq w n)

  pub look_follows : LookFollows Γ
  look_follows s h id e n r at name victim = by_either s h _ (event.Look n.victim n.thief n.kind)
      (is_event n r.own) (look_goes Γ s h id e n r at name victim)

  pub shrug_follows : ShrugFollows Γ
  shrug_follows s h id e n r at name line may =
      unless_found s h _ (event.Shrug n.thief n.victim n.kind) (slice_index s.words (e + 3)) 5
      (shrug_goes Γ s h id e n r at name line may)

  pub over_follows : OverFollows Γ
  over_follows s h id r at here = where_found s h _ (event.Leave r.own.place)
      (slice_index s.words 0) 0 (over_goes Γ s h id r at here)

  pub stop_follows : StopFollows Γ
  stop_follows s h id r at here = unless_found s h _ (event.Leave r.own.place)
      (slice_index s.words 2) 0 (stop_goes Γ s h id r at here)
