-- Runs with a step at the end, and what their worlds keep of the number live.
use Rattle.std.proofs.Common.{ℕ, ◌*◌, ◌≤◌, List, [], ◌∷◌, ◌++◌, refl, subst, arith}
use Rattle.std.proofs.Math.Nat.{mul-le-mul}
use Rattle.glb_rules.specs.World.{Asked, Idle, Loot, Refused, Setup, World, WorldEdge, loot_count}
use Rattle.glb_rules.specs.World.{credit_count}
use Rattle.glb_rules.specs.Steps.{Step}
use Rattle.glb_rules.specs.Setups.{IsProper}
use Rattle.glb_rules.specs.Lawful.{IsLawful, sum_of_places, sum_of_edges, sum_of_own_edges}
use Rattle.glb_rules.specs.History.{AwakeBy, Run, start}
use Rattle.glb_rules.specs.Decision.{first}
use Rattle.glb_rules.proofs.Invariant.Start.{start_lawful}
use Rattle.glb_rules.proofs.Invariant.Steps.{run_keeps}
use Rattle.glb_rules.proofs.Sums.Totals.{sum_most}
use Rattle.glb_rules.specs.declared.kinds.Kind.{Kind}
use Rattle.glb_rules.specs.declared.kinds.Kind.TheVariants as kind
use Rattle.glb_rules.specs.declared.kinds.Credit.{Credit}
use Rattle.glb_rules.specs.declared.kinds.Credit.TheVariants as credit
use Rattle.glb_rules.specs.declared.event.Event.{Event}

-- some events lead from the first world to this one
abbrev pub Reaches : {I : Type 0} → (I → List I) → Setup → World I → World I → Type 0
Reaches children s first w = (es : List Event) × Run children s first es w

module _ {I : Type 0} (children : I → List I) (s : Setup) where
  pub run_then : (old mid new : World I) (es : List Event) (e : Event) → Run children s old es mid
      → Step children s mid e new → Run children s old (es ++ e ∷ []) new
  run_then old mid new [] e r st = (new, subst (λ w. Step children s w e new) r st, refl)
  run_then old mid new (x ∷ es) e r st = (r.0, r.1, run_then r.0 mid new es e r.2 st)

  -- a history goes on by a step
  pub goes_on : (first w new : World I) (e : Event) → Reaches children s first w
      → Step children s w e new
      → Reaches children s first new
  goes_on first w new e h st = (h.0 ++ e ∷ [], run_then first w new h.0 e h.1 st)

  pub begins : (first : World I) → Reaches children s first first
  begins first = ([], refl)

  pub past_lawful : (bags : ℕ → List I) (w : World I) → IsProper s → AwakeBy s bags
      → Reaches children s (start s bags) w → IsLawful s w
  past_lawful bags w P a h = run_keeps children s (start s bags) h.0 w P (start_lawful s bags a) h.1

worth_most : (c : Credit) → credit_count c ≤ 2
worth_most credit.Zero = omega arith
worth_most credit.One = omega arith
worth_most credit.Minted = omega arith
worth_most credit.Taken = omega arith

-- an edge has at most one part
pub loots_most : {I : Type 0} (e : WorldEdge I) → loot_count e ≤ 1
loots_most Idle = omega arith
loots_most Asked = omega arith
loots_most Refused = omega arith
loots_most (Loot xs) = omega arith

-- at most 64 places never have more live than fits in a word by far
pub live_small : {I : Type 0} (s : Setup) (w : World I) → s.places ≤ 64 → IsLawful s w
    → w.live ≤ 8320
live_small s w few L =
    let a : sum_of_places s w (λ x. credit_count x.credit) ≤ s.places * 2 =
    sum_most s.places 2 (λ p. credit_count (w.place p).credit) (λ p l. worth_most (w.place p).credit) in
    let row : (k : Kind) (t : ℕ)
    → sum_of_own_edges s w k t loot_count ≤ s.places * 1 = λ k t.
    sum_most s.places 1 (λ v. loot_count (w.edge k t v)) (λ v l. loots_most (w.edge k t v)) in
    let all : (k : Kind)
    → sum_of_edges s w k loot_count ≤ s.places * (s.places * 1) = λ k.
    sum_most s.places (s.places * 1) (λ t. sum_of_own_edges s w k t loot_count) (λ t l. row k t) in
    let one : s.places * 1 ≤ 64 = omega arith in
    let square : s.places * (s.places * 1) ≤ 64 * 64 = mul-le-mul few one in
    let x = all kind.Steal in
    let y = all kind.Line in
    let z = L.sums.live in
    omega arith
