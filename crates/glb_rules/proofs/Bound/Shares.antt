-- Each event but Halt raises the rank.
use Rattle.std.proofs.Common.{◌≡◌, ◌≢◌, ℕ, zero, suc, ◌+◌, ◌-◌, ◌*◌, ◌<◌, ◌≤◌, ◌⊎◌, Bool, true}
use Rattle.std.proofs.Common.{false, not, ◌==◌, List, [], ◌∷◌, length, refl, ap, inl, inr, ⊎_elim}
use Rattle.std.proofs.Common.{arith}
use Rattle.std.proofs.Math.Nat.{mul-add, mul-le-mul_left}
use Rattle.glb_laws.specs.Sums.{sum_to}
use Rattle.glb_rules.specs.World.{Asked, Idle, Loot, Refused, Setup, World, WorldEdge, has_line}
use Rattle.glb_rules.specs.World.{mark_at, state_of}
use Rattle.glb_rules.specs.Effects.{Change, after_shrug, mark_after_look, of_kind}
use Rattle.glb_rules.specs.Effects.{phase_after_batch, credit_after_take}
use Rattle.glb_rules.specs.Steps.{Becomes, IsReady, Step}
use Rattle.glb_rules.specs.Setups.{IsProper, bit}
use Rattle.glb_rules.specs.Lawful.{IsLawful, PhaseFits}
use Rattle.glb_rules.proofs.Bound.Ranks.{credit_rank, line_rank, mark_rank, marks_most, marks_rank}
use Rattle.glb_rules.proofs.Bound.Ranks.{phase_rank, place_rank, rank, steal_rank}
use Rattle.glb_rules.proofs.EdgeLemmas.Marks.{eq_other, eq_self, set_mark, set_mark_at}
use Rattle.glb_rules.proofs.EdgeLemmas.Marks.{set_mark_else}
use Rattle.glb_rules.proofs.Invariant.Frames.{across_change, over_change, pick}
use Rattle.glb_rules.proofs.Sums.Totals.{sum_change, sum_le, sum_same}
use Rattle.glb_rules.specs.declared.kinds.Kind.{Kind}
use Rattle.glb_rules.specs.declared.kinds.Kind.TheVariants as kind
use Rattle.glb_rules.specs.declared.kinds.Phase.{Phase}
use Rattle.glb_rules.specs.declared.kinds.Phase.TheVariants as phase
use Rattle.glb_rules.specs.declared.kinds.Credit.{Credit}
use Rattle.glb_rules.specs.declared.kinds.Credit.TheVariants as credit
use Rattle.glb_rules.specs.declared.kinds.Mark.{Mark}
use Rattle.glb_rules.specs.declared.kinds.Mark.TheVariants as mark
use Rattle.glb_rules.specs.declared.local.EdgeName.{EdgeName}
use Rattle.glb_rules.specs.declared.local.Local.{Local}
use Rattle.glb_rules.specs.declared.event.Event.{Event}
use Rattle.glb_rules.specs.declared.event.Event.TheVariants as event

abbrev edge_rank : {I : Type 0} → Kind → WorldEdge I → ℕ
edge_rank k e = pick kind.Steal k (steal_rank e) + pick kind.Line k (line_rank e)

rank_change : {I : Type 0} (s : Setup) (old new : World I) (p : ℕ) (c : EdgeName) (b : Change I)
    → Becomes old new p c b → p < s.places → c.thief < s.places → c.victim < s.places →
    rank s new + (place_rank s (old.place p) + edge_rank c.kind (old.edge c.kind c.thief c.victim)) ≡ rank
    s old + (place_rank s b.place + edge_rank c.kind b.edge)
rank_change s old new p c b h pl tl vl =
    let a = across_change s old new p c b h (place_rank s) pl in
    let o1 = over_change s old new p c b h steal_rank kind.Steal tl vl in
    let o2 = over_change s old new p c b h line_rank kind.Line tl vl in
    omega arith

marks_set : (n : ℕ) (m : Kind → ℕ → Mark) (k : Kind) (t : ℕ) (x : Mark) → t < n →
    (sum_to n (λ u. mark_rank (set_mark m k t x kind.Steal u)) + sum_to n
    (λ u. mark_rank (set_mark m k t x kind.Line u))) + mark_rank (m k t)
    ≡ (sum_to n (λ u. mark_rank (m kind.Steal u)) + sum_to n (λ u. mark_rank (m kind.Line u))) + mark_rank x
marks_set n m kind.Steal t x l =
    let a = sum_change n t (λ u. mark_rank (m kind.Steal u))
    (λ u. mark_rank (set_mark m kind.Steal t x kind.Steal u)) l
    (λ u j d. ap mark_rank (set_mark_else m kind.Steal t x kind.Steal u (inr d))) in
    let e : mark_rank (set_mark m kind.Steal t x kind.Steal t) ≡ mark_rank x =
    ap mark_rank (set_mark_at m kind.Steal t x) in
    let b = sum_same n (λ u. mark_rank (m kind.Line u))
    (λ u. mark_rank (set_mark m kind.Steal t x kind.Line u))
    (λ u j. ap mark_rank (set_mark_else m kind.Steal t x kind.Line u (inl (λ z. cc)))) in
    omega arith
marks_set n m kind.Line t x l =
    let a = sum_change n t (λ u. mark_rank (m kind.Line u))
    (λ u. mark_rank (set_mark m kind.Line t x kind.Line u)) l
    (λ u j d. ap mark_rank (set_mark_else m kind.Line t x kind.Line u (inr d))) in
    let e : mark_rank (set_mark m kind.Line t x kind.Line t) ≡ mark_rank x =
    ap mark_rank (set_mark_at m kind.Line t x) in
    let b = sum_same n (λ u. mark_rank (m kind.Steal u))
    (λ u. mark_rank (set_mark m kind.Line t x kind.Steal u))
    (λ u j. ap mark_rank (set_mark_else m kind.Line t x kind.Steal u (inl (λ z. cc)))) in
    omega arith

mark_le : (m : Mark) → mark_rank m ≤ 2
mark_le mark.Unseen = omega arith
mark_le mark.Pending = omega arith
mark_le mark.Clear = omega arith

looked_rank : {I : Type 0} (e : WorldEdge I) → 1 ≤ mark_rank (mark_after_look (state_of e))
looked_rank Idle = omega arith
looked_rank Asked = omega arith
looked_rank Refused = omega arith
looked_rank (Loot xs) = omega arith

-- marks of edges that are there
sum_bits : (n p : ℕ) → p < n → sum_to n (λ t. 2 * bit (not (t == p))) ≡ 2 * (n - 1)
sum_bits n p l =
    let a = sum_change n p (λ t. 2) (λ t. 2 * bit (not (t == p))) l (λ t j d. rw (eq_other t p d) refl) in
    let e : 2 * bit (not (p == p)) ≡ 0 = rw (eq_self p) refl in
    let c = twos n in
    omega arith
  where
    twos : (n : ℕ) → sum_to n (λ t. 2) ≡ 2 * n
    twos zero = refl
    twos (suc n) = let e = twos n in omega arith

sum_twice : (n : ℕ) (f : ℕ → ℕ) → sum_to n (λ t. 2 * f t) ≡ 2 * sum_to n f
sum_twice zero f = refl
sum_twice (suc n) f = let e = sum_twice n f in omega arith

pub marks_le : {I : Type 0} (s : Setup) (w : World I) (p : ℕ) → IsProper s → IsLawful s w
    → p < s.places
    → marks_rank s (w.place p) ≤ marks_most s
marks_le s w p P L l =
    let a = sum_le s.places (λ t. mark_rank (mark_at (w.place p).marks kind.Steal t))
    (λ t. 2 * bit (not (t == p)))
    (λ t j. each (not (t == p)) (mark_at (w.place p).marks kind.Steal t)
    (L.victim kind.Steal t p j l).unseen) in
    let b = sum_le s.places (λ t. mark_rank (mark_at (w.place p).marks kind.Line t))
    (λ t. 2 * bit (has_line s t p))
    (λ t j. each (has_line s t p) (mark_at (w.place p).marks kind.Line t)
    (L.victim kind.Line t p j l).unseen) in
    let c = sum_bits s.places p l in
    let d = sum_twice s.places (λ t. bit (has_line s t p)) in
    let e = P.into p l in
    omega arith
  where
    each : (b : Bool) (m : Mark) → (b ≡ false → m ≡ mark.Unseen) → mark_rank m ≤ 2 * bit b
    each true m h = mark_le m
    each false m h = let e : m ≡ mark.Unseen = h refl in rw e (omega arith)

-- where the part's rank rises, the world's does
risen : {I : Type 0} (s : Setup) (old new : World I) (p : ℕ) (c : EdgeName) (b : Change I)
    → Becomes old new p c b → p < s.places → c.thief < s.places → c.victim < s.places →
    place_rank s (old.place p) + edge_rank c.kind (old.edge c.kind c.thief c.victim) + 1 ≤ place_rank s
    b.place + edge_rank c.kind b.edge → rank s old + 1 ≤ rank s new
risen s old new p c b h pl tl vl r = let e = rank_change s old new p c b h pl tl vl in omega arith

ask_rank : {I : Type 0} (k : Kind) (e : WorldEdge I) (v : ℕ) (f : Phase) → e ≡ Idle → f ≡ phase.Idle
    → phase_rank f + edge_rank k e + 1 ≤ phase_rank (phase.Waiting v k) + edge_rank {I = I} k Asked
ask_rank kind.Steal e v f i g = rw (i, g) (omega arith)
ask_rank kind.Line e v f i g = rw (i, g) (omega arith)

deny_rank : {I : Type 0} (k : Kind) (e : WorldEdge I) → e ≡ Asked
    → edge_rank k e + 1 ≤ edge_rank {I = I} k Refused
deny_rank kind.Steal e i = rw i (omega arith)
deny_rank kind.Line e i = rw i (omega arith)

give_rank : {I : Type 0} (k : Kind) (e : WorldEdge I) (xs : List I) (g l : ℕ) → (e ≡ Asked)
    ⊎ ((k ≡ kind.Line) × (e ≡ Refused)) →
    g + l + 2 + edge_rank k e + 1 ≤ (g + of_kind k 1 0) + (l + of_kind k 0 1) + 1 + edge_rank k (Loot xs)
give_rank kind.Steal e xs g l d =
    ⊎_elim (λ (i : e ≡ Asked). rw i (omega arith)) (λ x. absurd (let y = x.0 in cc)) d
give_rank kind.Line e xs g l d =
    ⊎_elim (λ (i : e ≡ Asked). rw i (omega arith)) (λ x. let i : e ≡ Refused = x.1 in rw i (omega arith)) d

take_rank : {I : Type 0} (k : Kind) (e : WorldEdge I) (xs : List I) (g l : ℕ) (f : Phase) (c : Credit)
    → e ≡ Loot xs → phase_rank f ≤ 1 → credit_rank c ≤ credit_rank (credit_after_take c) + 1 →
    4 * g + 6 * l + phase_rank f + credit_rank c + edge_rank k e + 1 ≤ 4 * (g + of_kind k 1 0) + 6 *
    (l + of_kind k 0 1) + 1 + credit_rank (credit_after_take c) + edge_rank {I = I} k Idle
take_rank kind.Steal e xs g l f c i p q = rw i (omega arith)
take_rank kind.Line e xs g l f c i p q = rw i (omega arith)

shrug_rank : {I : Type 0} (k : Kind) (e : WorldEdge I) (n v : ℕ) (f : Phase) → e ≡ Refused
    → f ≡ phase.Waiting v k →
    3 * n + phase_rank f + edge_rank k e + 1 ≤ 3 * (n + of_kind k 1 0) + 1 + edge_rank k (after_shrug k e)
shrug_rank kind.Steal e n v f i g = rw (i, g) (omega arith)
shrug_rank kind.Line e n v f i g = rw (i, g) (omega arith)

took_rank : (c : Credit) → credit_rank c ≤ credit_rank (credit_after_take c) + 1
took_rank credit.Zero = omega arith
took_rank credit.One = omega arith
took_rank credit.Minted = omega arith
took_rank credit.Taken = omega arith

leave_rank : (f : Phase) → f ≢ phase.Gone → phase_rank f ≤ 1
leave_rank phase.Working d = omega arith
leave_rank phase.Idle d = omega arith
leave_rank (phase.Waiting v kind.Steal) d = omega arith
leave_rank (phase.Waiting v kind.Line) d = omega arith
leave_rank phase.Asleep d = omega arith
leave_rank phase.Gone d = absurd (d refl)

taker_rank : {I : Type 0} (k : Kind) (v : ℕ) (a : Local I)
    → ((a.phase ≡ phase.Waiting v k) × (a.credit ≡ credit.One)) ⊎ ((k ≡ kind.Line) × IsReady a)
    → phase_rank a.phase ≤ 1
taker_rank k v a d = leave_rank a.phase (λ g. ⊎_elim (λ x. let y : a.phase ≡ phase.Waiting v k = x.0 in cc)
    (λ r. ⊎_elim (λ (z : a.phase ≡ phase.Asleep). cc)
    (λ y. ⊎_elim (λ (z : a.phase ≡ phase.Idle). cc) (λ z. let q : a.phase ≡ phase.Working = z.0 in cc)
    y) r.1) d)

batch_rank : {I : Type 0} (rest : List I) → phase_rank (phase_after_batch rest) ≡ 1
batch_rank [] = refl
batch_rank (x ∷ xs) = refl

pub step_rises : {I : Type 0} (children : I → List I) (s : Setup) (old new : World I) (e : Event)
    → IsProper s → IsLawful s old → ((p n : ℕ) → e ≢ event.Halt p n) → Step children s old e new
    → rank s old + 1 ≤ rank s new
step_rises children s old new (event.Look p t k) P L n st =
    let m = marks_set s.places (mark_at (old.place p).marks) k t (mark_after_look (state_of (old.edge k t p)))
    st.in_range.1 in
    let u : mark_rank (mark_at (old.place p).marks k t) ≡ 0 = rw st.enabled.2 refl in
    let q = looked_rank (old.edge k t p) in
    risen s old new p _ _ st.becomes st.in_range.0 st.in_range.1 st.in_range.2 (omega arith)
step_rises children s old new (event.Batch p) P L n st =
    let m = marks_le s old p P L st.in_range.0 in
    let z : sum_to s.places (λ t. 0) ≡ 0 = zeros s.places in
    let f : phase_rank (old.place p).phase ≡ 1 = rw st.enabled.0 refl in
    let g = batch_rank st.rest in
    let c = (old.place p).count.items in
    let a = mul-add (marks_most s + 1) c (length st.taken) in
    let d : (marks_most s + 1) * 1 ≤ (marks_most s + 1) * length st.taken =
    mul-le-mul_left (marks_most s + 1) st.choice.0 in
    risen s old new p _ _ st.becomes st.in_range.0 st.in_range.1 st.in_range.2 (omega arith)
  where
    zeros : (n : ℕ) → sum_to n (λ t. 0) ≡ 0
    zeros zero = refl
    zeros (suc n) = let e = zeros n in omega arith
step_rises children s old new (event.Ask p v kind.Steal) P L n st =
    let r = ask_rank kind.Steal (old.edge kind.Steal p v) v (old.place p).phase st.enabled.3 st.enabled.0 in
    risen s old new p _ _ st.becomes st.in_range.0 st.in_range.1 st.in_range.2 (omega arith)
step_rises children s old new (event.Ask p v kind.Line) P L n st =
    let r = ask_rank kind.Line (old.edge kind.Line p v) v (old.place p).phase st.enabled.3 st.enabled.0 in
    risen s old new p _ _ st.becomes st.in_range.0 st.in_range.1 st.in_range.2 (omega arith)
step_rises children s old new (event.Deny p t k) P L n st =
    let m = marks_set s.places (mark_at (old.place p).marks) k t mark.Clear st.in_range.1 in
    let u = mark_le (mark_at (old.place p).marks k t) in
    let r = deny_rank k (old.edge k t p) st.enabled.0 in
    risen s old new p _ _ st.becomes st.in_range.0 st.in_range.1 st.in_range.2 (omega arith)
step_rises children s old new (event.Mint p) P L n st =
    let c : credit_rank (old.place p).credit ≡ 1 = rw st.enabled.1 refl in
    risen s old new p _ _ st.becomes st.in_range.0 st.in_range.1 st.in_range.2 (omega arith)
step_rises children s old new (event.Give p t k) P L n st =
    let m = marks_set s.places (mark_at (old.place p).marks) k t mark.Clear st.in_range.1 in
    let u = mark_le (mark_at (old.place p).marks k t) in
    let c : credit_rank (old.place p).credit ≡ 2 = rw st.enabled.1 refl in
    let r = give_rank k (old.edge k t p) st.taken (old.place p).count.given (old.place p).count.line_given
    st.enabled.2 in
    risen s old new p _ _ st.becomes st.in_range.0 st.in_range.1 st.in_range.2 (omega arith)
step_rises children s old new (event.Take p v k) P L n st =
    let r = take_rank k (old.edge k p v) st.taken (old.place p).count.got (old.place p).count.line_got
    (old.place p).phase (old.place p).credit st.choice.0 (taker_rank k v (old.place p) st.enabled.1)
    (took_rank (old.place p).credit) in
    risen s old new p _ _ st.becomes st.in_range.0 st.in_range.1 st.in_range.2 (omega arith)
step_rises children s old new (event.Burn p) P L n st =
    let c : credit_rank (old.place p).credit ≡ 0 = rw st.enabled refl in
    risen s old new p _ _ st.becomes st.in_range.0 st.in_range.1 st.in_range.2 (omega arith)
step_rises children s old new (event.Shrug p v k) P L n st =
    let r = shrug_rank k (old.edge k p v) (old.place p).count.shrugs v (old.place p).phase st.enabled.1
    st.enabled.0 in
    risen s old new p _ _ st.becomes st.in_range.0 st.in_range.1 st.in_range.2 (omega arith)
step_rises children s old new (event.Sleep p) P L n st =
    let i = L.inner p st.in_range.0 in
    let f : PhaseFits phase.Idle (old.place p).credit (length (old.place p).bag) =
    rw st.enabled.0 at i.fits in
    let c : credit_rank (old.place p).credit ≡ 1 = rw f.1 refl in
    let g : phase_rank (old.place p).phase ≡ 1 = rw st.enabled.0 refl in
    risen s old new p _ _ st.becomes st.in_range.0 st.in_range.1 st.in_range.2 (omega arith)
step_rises children s old new (event.Leave p) P L n st =
    let r = leave_rank (old.place p).phase st.enabled.0 in
    risen s old new p _ _ st.becomes st.in_range.0 st.in_range.1 st.in_range.2 (omega arith)
step_rises children s old new (event.Halt p c) P L n st = absurd (n p c refl)
