-- The rank of a lawful world is at most the bound.
use Rattle.std.proofs.Common.{◌≡◌, ℕ, zero, suc, ◌+◌, ◌*◌, ◌<◌, ◌≤◌, Bool, true, false, cond, List}
use Rattle.std.proofs.Common.{[], ◌∷◌, length, arith}
use Rattle.std.proofs.Math.Nat.{mul-add, mul-le-mul_right, add-mul, mul_comm}
use Rattle.glb_laws.specs.Sums.{sum_to}
use Rattle.glb_rules.specs.World.{Asked, Idle, Loot, Refused, Setup, World, WorldEdge, busy_count}
use Rattle.glb_rules.specs.World.{loot_count}
use Rattle.glb_rules.specs.Setups.{IsProper, degree}
use Rattle.glb_rules.specs.Lawful.{IsLawful, sum_of_places, no_credit, sum_of_own_edges}
use Rattle.glb_rules.specs.History.{NoHalt, Run}
use Rattle.glb_rules.specs.Bound.{bound}
use Rattle.glb_rules.proofs.Bound.Ranks.{credit_rank, line_rank, marks_most, marks_rank, phase_rank}
use Rattle.glb_rules.proofs.Bound.Ranks.{place_rank, rank, steal_rank}
use Rattle.glb_rules.proofs.Invariant.Steps.{step_keeps}
use Rattle.glb_rules.proofs.Bound.Shares.{marks_le, step_rises}
use Rattle.glb_rules.proofs.Sums.Totals.{sum_times, sum_le, sum_plus, sum_same}
use Rattle.glb_rules.specs.declared.kinds.Kind.TheVariants as kind
use Rattle.glb_rules.specs.declared.kinds.Phase.{Phase}
use Rattle.glb_rules.specs.declared.kinds.Phase.TheVariants as phase
use Rattle.glb_rules.specs.declared.kinds.Credit.{Credit}
use Rattle.glb_rules.specs.declared.kinds.Credit.TheVariants as credit
use Rattle.glb_rules.specs.declared.event.Event.{Event}

sum_line : (n c d : ℕ) (f : ℕ → ℕ) → sum_to n (λ j. c * f j + d) ≡ c * sum_to n f + d * n
sum_line zero c d f = omega arith
sum_line (suc n) c d f = let e = sum_line n c d f in let m = mul-add c (sum_to n f) (f n) in
    let k = mul-add d n 1 in omega arith

steal_le : {I : Type 0} (e : WorldEdge I) → steal_rank e ≤ 3 * busy_count e
steal_le Idle = omega arith
steal_le Asked = omega arith
steal_le Refused = omega arith
steal_le (Loot xs) = omega arith

line_le : {I : Type 0} (e : WorldEdge I) → line_rank e ≤ 5 * busy_count e
line_le Idle = omega arith
line_le Asked = omega arith
line_le Refused = omega arith
line_le (Loot xs) = omega arith

loots_le : {I : Type 0} (e : WorldEdge I) → loot_count e ≤ busy_count e
loots_le Idle = omega arith
loots_le Asked = omega arith
loots_le Refused = omega arith
loots_le (Loot xs) = omega arith

phase_le : (f : Phase) → phase_rank f ≤ 2
phase_le phase.Working = omega arith
phase_le phase.Idle = omega arith
phase_le (phase.Waiting v kind.Steal) = omega arith
phase_le (phase.Waiting v kind.Line) = omega arith
phase_le phase.Asleep = omega arith
phase_le phase.Gone = omega arith

credit_le : (c : Credit) → credit_rank c ≤ 2
credit_le credit.Zero = omega arith
credit_le credit.One = omega arith
credit_le credit.Minted = omega arith
credit_le credit.Taken = omega arith

pub no_credit_le : (c : Credit) → no_credit c ≤ 1
no_credit_le credit.Zero = omega arith
no_credit_le credit.One = omega arith
no_credit_le credit.Minted = omega arith
no_credit_le credit.Taken = omega arith

module _ {I : Type 0} (s : Setup) (w : World I) (P : IsProper s) (L : IsLawful s w) where
  -- lines: what was asked or armed
  lines_le : (p : ℕ) → p < s.places
      → (w.place p).count.line_got + sum_of_own_edges s w kind.Line p busy_count ≤ s.dimension * (w.place p).count.items +
      s.dimension
  lines_le p l =
      let c = L.counted p l in
      let e = c.lines in
      let a = c.line_asks in
      let d = P.out p l in
      let m : degree s p * (w.place p).count.items ≤ s.dimension * (w.place p).count.items =
      mul-le-mul_right (w.place p).count.items d in
      let g = armed (s.awake p) in
      omega arith
    where
      armed : (b : Bool) → cond b 0 (degree s p) ≤ degree s p
      armed true = omega arith
      armed false = omega arith

  -- all of one place's rank but what it gave and got
  abbrev alone : ℕ → ℕ
  alone p =
      (marks_most s + 1) * (w.place p).count.items + marks_rank s (w.place p) + 3 *
      (w.place p).count.shrugs + 3 * (w.place p).count.got + 6 * (w.place p).count.line_got
      + (w.place p).count.sleeps + phase_rank (w.place p).phase + credit_rank (w.place p).credit + sum_of_own_edges s w
      kind.Steal p steal_rank + sum_of_own_edges s w kind.Line p line_rank

  alone_le : (p : ℕ) → p < s.places
      → alone p ≤ (marks_most s + 1 + 3 * s.tries + 7 * s.dimension) * (w.place p).count.items +
      (marks_most s + 7 * s.dimension + 5)
  alone_le p l =
      let n = (w.place p).count.items in
      let i = L.inner p l in
      let c = L.counted p l in
      let m = marks_le s w p P L l in
      let st = sum_times s.places 3 (λ v. steal_rank (w.edge kind.Steal p v))
      (λ v. busy_count (w.edge kind.Steal p v)) (λ v j. steal_le (w.edge kind.Steal p v)) in
      let li = sum_times s.places 5 (λ v. line_rank (w.edge kind.Line p v))
      (λ v. busy_count (w.edge kind.Line p v)) (λ v j. line_le (w.edge kind.Line p v)) in
      let f = phase_le (w.place p).phase in
      let k = credit_le (w.place p).credit in
      let z = no_credit_le (w.place p).credit in
      let ll = lines_le p l in
      let a = i.asks in
      let b = c.asks in
      let na = i.naps in
      let wk = i.wakes in
      let e1 = add-mul (marks_most s + 1 + 3 * s.tries) (7 * s.dimension) n in
      let e2 = add-mul (marks_most s + 1) (3 * s.tries) n in
      let e3 : 3 * s.tries * n ≡ 3 * (s.tries * n) = omega arith in
      let e4 : 7 * s.dimension * n ≡ 7 * (s.dimension * n) = omega arith in
      omega arith

  abbrev extra : ℕ → ℕ
  extra p = (w.place p).count.got + (w.place p).count.given + (w.place p).count.line_given

  pub rank_le : 0 < s.places → rank s w ≤ bound s (sum_of_places s w (λ a. a.count.items))
  rank_le some =
      let n = s.places in
      let M = sum_of_places s w (λ a. a.count.items) in
      -- the rank by places
      let r0 = sum_same n (λ p. alone p + extra p)
      (λ p. (place_rank s (w.place p) + sum_of_own_edges s w kind.Steal p steal_rank) + sum_of_own_edges s w kind.Line p
      line_rank) (λ p l. omega arith) in
      let r1 = sum_plus n (λ p. place_rank s (w.place p) + sum_of_own_edges s w kind.Steal p steal_rank)
      (λ p. sum_of_own_edges s w kind.Line p line_rank) in
      let r2 = sum_plus n (λ p. place_rank s (w.place p)) (λ p. sum_of_own_edges s w kind.Steal p steal_rank) in
      let r3 = sum_plus n alone extra in
      let r4 = sum_le n alone
      (λ p. (marks_most s + 1 + 3 * s.tries + 7 * s.dimension) * (w.place p).count.items +
      (marks_most s + 7 * s.dimension + 5)) alone_le in
      let r5 = sum_line n (marks_most s + 1 + 3 * s.tries + 7 * s.dimension)
      (marks_most s + 7 * s.dimension + 5) (λ p. (w.place p).count.items) in
      -- what was given and got
      let x1 = sum_plus n (λ p. (w.place p).count.got + (w.place p).count.given)
      (λ p. (w.place p).count.line_given) in
      let x2 = sum_plus n (λ p. (w.place p).count.got) (λ p. (w.place p).count.given) in
      let g1 = L.sums.given in
      let g2 = L.sums.asks in
      let g3 = sum_plus n (λ p. (w.place p).count.denied) (λ p. (w.place p).count.given) in
      let g4 = sum_times n s.tries (λ p. (w.place p).count.asks) (λ p. (w.place p).count.items)
      (λ p l. let i = (L.inner p l).asks in omega arith) in
      let l1 = L.sums.line_given in
      let l2 = sum_plus n (λ p. (w.place p).count.line_got) (λ p. sum_of_own_edges s w kind.Line p busy_count) in
      let l3 = sum_le n (λ p. sum_of_own_edges s w kind.Line p loot_count) (λ p. sum_of_own_edges s w kind.Line p busy_count)
      (λ p l. sum_le n (λ v. loot_count (w.edge kind.Line p v)) (λ v. busy_count (w.edge kind.Line p v))
      (λ v m. loots_le (w.edge kind.Line p v))) in
      let l4 = sum_le n (λ p. (w.place p).count.line_got + sum_of_own_edges s w kind.Line p busy_count)
      (λ p. s.dimension * (w.place p).count.items + s.dimension) lines_le in
      let l5 = sum_line n s.dimension s.dimension (λ p. (w.place p).count.items) in
      -- the numbers
      let B = 7 * s.tries + 11 * s.dimension + 2 * n + 3 in
      let c1 = marks_most s + 1 + 3 * s.tries + 7 * s.dimension in
      let c0 = marks_most s + 7 * s.dimension + 5 in
      let b1 : (c1 + (2 * s.tries + s.dimension)) * M ≤ B * M = mul-le-mul_right M (omega arith) in
      let b2 : (c0 + s.dimension) * n ≤ B * n = mul-le-mul_right n (omega arith) in
      let d1 = add-mul c1 (2 * s.tries + s.dimension) M in
      let d2 = add-mul (2 * s.tries) s.dimension M in
      let d3 = add-mul c0 s.dimension n in
      let d4 : 2 * s.tries * M ≡ 2 * (s.tries * M) = omega arith in
      let f1 = add-mul M n B in
      let f2 = mul_comm M B in
      let f3 = mul_comm n B in
      omega arith

-- a run without Halt is no longer than what the rank rose by
pub run_rises : {I : Type 0} (children : I → List I) (s : Setup) (old : World I) (es : List Event)
    (new : World I) → IsProper s → IsLawful s old →
    NoHalt es → Run children s old es new → length es + rank s old ≤ rank s new
run_rises children s old [] new P L n r = rw r (omega arith)
run_rises children s old (e ∷ es) new P L n r =
    let a = step_rises children s old r.0 e P L n.0 r.1 in
    let b = run_rises children s r.0 es new P (step_keeps children s old r.0 e P L r.1) n.1 r.2 in
    omega arith
