-- What an event makes of the row of a place shows what it makes of its local state.
use Rattle.std.proofs.Common.{◌≡◌, ◌≢◌, ℕ, suc, zero, ◌+◌, ◌-◌, ◌*◌, ◌<◌, ◌≤◌, List, [], length}
use Rattle.std.proofs.Common.{get_or, set, refl, sym, ap, ◌∙◌, subst, inl, inr, ⊎_elim, arith}
use Rattle.std.proofs.Common.{length-set, get_or-set_same, get_or-set_other}
use Rattle.std.proofs.lemmas.Bool.{cases_eq, lt-ltb, cond-true}
use Rattle.std.proofs.lemmas.List.Sorted.{length_permutation}
use Rattle.rand_pcg.specs.Lcg.{Lcg, next, advance, started, increment_of, state_after, next_state}
use Rattle.rand_pcg.specs.Pcg.{multiplier_64, output_xsh_rr}
use Rattle.glb_stats.specs.declared.counters.Counters.{Counters}
use Rattle.glb_rules.specs.World.{WorldEdge, mark_at, put_mark, state_of}
use Rattle.glb_rules.specs.Draws.{victim_of, word, drawn}
use Rattle.glb_rules.specs.Effects.{place_after, edge_after, after_shrug, mark_after_look, of_kind}
use Rattle.glb_rules.specs.Events.{actor}
use Rattle.glb_rules.proofs.Invariant.Frames.{kind_cases}
use Rattle.glb_rules.proofs.EdgeLemmas.Marks.{set_mark_at, set_mark_else}
use Rattle.glb_rules.specs.declared.kinds.Kind.{Kind}
use Rattle.glb_rules.specs.declared.kinds.Kind.TheVariants as kind
use Rattle.glb_rules.specs.declared.kinds.Mark.{Mark}
use Rattle.glb_rules.specs.declared.kinds.Mark.TheVariants as mark
use Rattle.glb_rules.specs.declared.local.Counts.{Counts}
use Rattle.glb_rules.specs.declared.local.MarkOn.{MarkOn}
use Rattle.glb_rules.specs.declared.local.Local.{Local}
use Rattle.glb_rules.specs.declared.event.Event.{Event}
use Rattle.glb_rules.specs.declared.event.Event.TheVariants as event
use Rattle.glb_core.specs.declared.world.rows.PlaceRow.{PlaceRow}
use Rattle.glb_core.specs.declared.world.rows.EdgeRow.{EdgeRow}
use Rattle.glb_core.specs.declared.world.rows.EdgeRow.TheVariants as edge_row
use Rattle.glb_core.specs.Counters.{counters_of}
use Rattle.glb_core.specs.Tables.{ShowsLocal, mark_index, edge_in}
use Rattle.glb_core.specs.inner.Effects.{capped}
use Rattle.glb_core.specs.inner.Effects.{place_row_after, edge_row_after, edge_row_after_shrug}
use Rattle.glb_core.specs.inner.Effects.{row_state, place_row_after_ask, count_denied, count_shrug}
use Rattle.glb_core.specs.inner.Effects.{IsSimple, AsksAnother}
use Rattle.glb_rules.specs.Events.{NamesBelow}
use Rattle.glb_core.proofs.Tables.EdgeRows.{mark_apart, mark_below}

-- the row's bag has as many items as the part's
pub size_of : {B I : Type 0} {items : B → List I} {seed n p : ℕ} {r : PlaceRow B} {a : Local I}
    → ShowsLocal items seed n p r a → length (items r.bag) ≡ length a.bag
size_of {items = items} {r = r} {a = a} R = sym (length_permutation (items r.bag) a.bag R.bag)

pub marks_put : (ms : List Mark) (l : List MarkOn) (n : ℕ) (k : Kind) (t : ℕ) (m : Mark)
    → length ms ≡ 2 * n → t < n →
    ((j : Kind) (u : ℕ) → u < n → get_or ms (mark_index n j u) mark.Unseen ≡ mark_at l j u) →
    (j : Kind) (u : ℕ) → u < n
    → get_or (set ms (mark_index n k t) m) (mark_index n j u) mark.Unseen
    ≡ mark_at (put_mark l k t m)
    j u
marks_put ms l n k t m long small h j u less = ⊎_elim
    (λ (e : j ≡ k). ⊎_elim
    (λ (f : u ≡ t). rw (e, f)
    (get_or-set_same ms (mark_index n k t) m mark.Unseen (omega (arith, mark_below n k t small))
    ∙ sym (set_mark_at (mark_at l) k t m)))
    (λ (f : u ≢ t). get_or-set_other ms (mark_index n k t) (mark_index n j u) m mark.Unseen
    (λ g. f (mark_apart n j k u t less small g).1) ∙ h j u less
    ∙ sym (set_mark_else (mark_at l) k t m j u (inr f)))
    (cases_eq u t))
    (λ (e : j ≢ k). get_or-set_other ms (mark_index n k t) (mark_index n j u) m mark.Unseen
    (λ g. e (mark_apart n j k u t less small g).0) ∙ h j u less
    ∙ sym (set_mark_else (mark_at l) k t m j u (inl e)))
    (kind_cases j k)

-- one more, below the last value or at it
-- a count that stands at its end goes on as the capped number does
pub capped_more : (a n k : ℕ) → a ≡ capped n → capped (a + k) ≡ capped (n + k)
capped_more a n k e = omega arith

pub capped_same : (a n : ℕ) → a ≡ capped n → a ≡ capped (n + 0)
capped_same a n e = omega arith

pub counted_denied : (k : Kind) (c : Counters) (n : Counts) → c ≡ counters_of n
    → count_denied k c ≡ counters_of (record n { denied = n.denied + of_kind k 1 0 })
counted_denied kind.Steal c n e = let f = capped_more c.denied n.denied 1 (ap (λ x. x.denied) e)
    in λ i. record (e i) { denied = f i }
counted_denied kind.Line c n e = let f = capped_same c.denied n.denied (ap (λ x. x.denied) e)
    in λ i. record (e i) { denied = f i }

pub counted_shrug : (k : Kind) (c : Counters) (n : Counts) → c ≡ counters_of n
    → count_shrug k c ≡ counters_of (record n { shrugs = n.shrugs + of_kind k 1 0 })
counted_shrug kind.Steal c n e = let f = capped_more c.shrugs n.shrugs 1 (ap (λ x. x.shrugs) e)
    in λ i. record (e i) { shrugs = f i }
counted_shrug kind.Line c n e = let f = capped_same c.shrugs n.shrugs (ap (λ x. x.shrugs) e)
    in λ i. record (e i) { shrugs = f i }

pub counted_ask : (c : Counters) (n : Counts) → c ≡ counters_of n
    → record c { asks = capped (c.asks + 1) } ≡ counters_of
    (record n { asks = n.asks + 1; line_asks = n.line_asks + 0 })
counted_ask c n e = let f = capped_more c.asks n.asks 1 (ap (λ x. x.asks) e) in
    let g = capped_same c.line_asks n.line_asks (ap (λ x. x.line_asks) e)
    in λ i. record (e i) { asks = f i; line_asks = g i }

pub counted_line_ask : (c : Counters) (n : Counts) → c ≡ counters_of n
    → record c { line_asks = capped (c.line_asks + 1) } ≡ counters_of
    (record n { asks = n.asks + 0; line_asks = n.line_asks + 1 })
counted_line_ask c n e = let f = capped_same c.asks n.asks (ap (λ x. x.asks) e) in
    let g = capped_more c.line_asks n.line_asks 1 (ap (λ x. x.line_asks) e)
    in λ i. record (e i) { asks = f i; line_asks = g i }

pub counted_sleep : (c : Counters) (n : Counts) → c ≡ counters_of n
    → record c { sleeps = capped (c.sleeps + 1) } ≡ counters_of (record n { sleeps = n.sleeps + 1 })
counted_sleep c n e = let f = capped_more c.sleeps n.sleeps 1 (ap (λ x. x.sleeps) e)
    in λ i. record (e i) { sleeps = f i }

-- one step more
state_more : (w m p n t : ℕ) → next_state w m p (state_after w m p n t)
    ≡ state_after w m p (suc n) t
unfolding state_after
state_more w m p zero t = refl
state_more w m p (suc n) t = state_more w m p n (next_state w m p t)

pub advance_next : (w m n : ℕ) (g h : Lcg) → h ≡ advance w m n g → next w m h
    ≡ advance w m (n + 1) g
advance_next w m n g h e =
    let k : suc n ≡ n + 1 = omega arith in
    ap (next w m) e ∙ ap (λ t. record g { state = t }) (state_more w m g.increment n g.state)
    ∙ ap (λ j. advance w m j g) k

pub word_is : (seed p n : ℕ) (g : Lcg)
    → g ≡ advance 64 multiplier_64 n (started 64 multiplier_64 seed (increment_of 64 p))
    → output_xsh_rr g.state ≡ word seed p n
unfolding word
word_is seed p n g e = ap (λ x. output_xsh_rr x.state) e

pub drawn_is : (seed n p number w : ℕ) → 1 < n → w ≡ word seed p number
    → victim_of w n p ≡ drawn seed n p number
drawn_is seed n p number w two e = ap (λ x. victim_of x n p) e ∙ sym (cond-true _ _ _ (lt-ltb 1 n two))

pub face_in : {B I : Type 0} (items : B → List I) (z : EdgeRow B) → row_state z
    ≡ state_of (edge_in items z)
face_in items edge_row.Idle = refl
face_in items edge_row.Asked = refl
face_in items edge_row.Refused = refl
face_in items (edge_row.Loot b) = refl

module _ {B I : Type 0} (items : B
    → List I) (seed n most : ℕ) (r : PlaceRow B) (z : EdgeRow B) (a : Local I)
    (d : WorldEdge I) (same_edge : edge_in items z ≡ d) where
  local_after_ask : (p v : ℕ) (k : Kind) → ShowsLocal items seed n p r a → 2 ≤ n
      → ShowsLocal items seed n p (place_row_after_ask n p v k r) (place_after most (event.Ask p v k) [] [] (state_of d) a)
  local_after_ask p v kind.Steal R two =
      let w : r.words ≡ advance 64 multiplier_64 (a.count.asks + 1)
      (started 64 multiplier_64 seed (increment_of 64 p)) = R.words (omega arith) in
      record {
        same_phase = refl;
        same_credit = R.same_credit;
        tries = ap (λ x. x - 1) R.tries;
        bag = R.bag;
        many = R.many;
        marks = R.marks;
        counters = counted_ask r.counters a.count R.counters;
        words = λ _. advance_next 64 multiplier_64 (a.count.asks + 1) _ r.words w;
        victim = drawn_is seed n p (a.count.asks + 1) (output_xsh_rr r.words.state) (omega arith)
            (word_is seed p (a.count.asks + 1) r.words w);
      }
  local_after_ask p v kind.Line R two =
      let zero_more : a.count.asks ≡ a.count.asks + 0 = omega arith in
      record {
        same_phase = refl;
        same_credit = R.same_credit;
        tries = R.tries;
        bag = R.bag;
        many = R.many;
        marks = R.marks;
        counters = counted_line_ask r.counters a.count R.counters;
        words = λ l. R.words l
            ∙ ap (λ x. advance 64 multiplier_64 (x + 1)
            (started 64 multiplier_64 seed (increment_of 64 p))) zero_more;
        victim = R.victim ∙ ap (drawn seed n p) zero_more;
      }

  pub local_after_effect : (e : Event) → ShowsLocal items seed n (actor e) r a → NamesBelow n e
      → AsksAnother n e
      → IsSimple e
      → ShowsLocal items seed n (actor e) (place_row_after n e z r) (place_after most e [] [] (state_of d) a)
  local_after_effect (event.Look q t k) R b o simple = record {
    same_phase = R.same_phase;
    same_credit = R.same_credit;
    tries = R.tries;
    bag = R.bag;
    many = length-set r.marks.items (mark_index n k t) (mark_after_look (row_state z)) ∙ R.many;
    marks = subst
        (λ m. (j : Kind) (u : ℕ) → u < n
        → get_or (set r.marks.items (mark_index n k t) (mark_after_look (row_state z))) (mark_index n j u)
        mark.Unseen ≡ mark_at (put_mark a.marks k t m) j u)
        (ap mark_after_look (face_in items z ∙ ap state_of same_edge))
        (marks_put r.marks.items a.marks n k t (mark_after_look (row_state z)) R.many b.1 R.marks);
    counters = R.counters;
    words = R.words;
    victim = R.victim;
  }
  local_after_effect (event.Ask p v k) R b o simple = local_after_ask p v k R o
  local_after_effect (event.Deny q t k) R b o simple = record {
    same_phase = R.same_phase;
    same_credit = R.same_credit;
    tries = R.tries;
    bag = R.bag;
    many = length-set r.marks.items (mark_index n k t) mark.Clear ∙ R.many;
    marks = marks_put r.marks.items a.marks n k t mark.Clear R.many b.1 R.marks;
    counters = counted_denied k r.counters a.count R.counters;
    words = R.words;
    victim = R.victim;
  }
  local_after_effect (event.Mint q) R b o simple = record {
    same_phase = R.same_phase;
    same_credit = refl;
    tries = R.tries;
    bag = R.bag;
    many = R.many;
    marks = R.marks;
    counters = R.counters;
    words = R.words;
    victim = R.victim;
  }
  local_after_effect (event.Burn p) R b o simple = record {
    same_phase = R.same_phase;
    same_credit = refl;
    tries = R.tries;
    bag = R.bag;
    many = R.many;
    marks = R.marks;
    counters = R.counters;
    words = R.words;
    victim = R.victim;
  }
  local_after_effect (event.Shrug p v k) R b o simple = record {
    same_phase = refl;
    same_credit = R.same_credit;
    tries = R.tries;
    bag = R.bag;
    many = R.many;
    marks = R.marks;
    counters = counted_shrug k r.counters a.count R.counters;
    words = R.words;
    victim = R.victim;
  }
  local_after_effect (event.Sleep p) R b o simple = record {
    same_phase = refl;
    same_credit = refl;
    tries = R.tries;
    bag = R.bag;
    many = R.many;
    marks = R.marks;
    counters = counted_sleep r.counters a.count R.counters;
    words = R.words;
    victim = R.victim;
  }
  local_after_effect (event.Leave p) R b o simple = record {
    same_phase = refl;
    same_credit = R.same_credit;
    tries = R.tries;
    bag = R.bag;
    many = R.many;
    marks = R.marks;
    counters = R.counters;
    words = R.words;
    victim = R.victim;
  }
  local_after_effect (event.Halt p c) R b o simple = R
  local_after_effect (event.Batch p) R b o simple = absurd simple
  local_after_effect (event.Give q t k) R b o simple = absurd simple
  local_after_effect (event.Take p v k) R b o simple = absurd simple

  shrugged_edge : (k : Kind) → edge_in items (edge_row_after_shrug k z) ≡ after_shrug k d
  shrugged_edge kind.Steal = refl
  shrugged_edge kind.Line = same_edge

  pub effect_edge : (e : Event) → IsSimple e → edge_in items (edge_row_after e z)
      ≡ edge_after e [] d
  effect_edge (event.Look q t k) simple = same_edge
  effect_edge (event.Ask p v k) simple = refl
  effect_edge (event.Deny q t k) simple = refl
  effect_edge (event.Mint q) simple = same_edge
  effect_edge (event.Burn p) simple = same_edge
  effect_edge (event.Shrug p v k) simple = shrugged_edge k
  effect_edge (event.Sleep p) simple = same_edge
  effect_edge (event.Leave p) simple = same_edge
  effect_edge (event.Halt p c) simple = same_edge
  effect_edge (event.Batch p) simple = absurd simple
  effect_edge (event.Give q t k) simple = absurd simple
  effect_edge (event.Take p v k) simple = absurd simple
