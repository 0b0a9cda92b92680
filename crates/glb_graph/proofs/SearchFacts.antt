-- The search by breadth.
use Rattle.std.proofs.Common.{◌≡◌, ◌≢◌, ℕ, zero, suc, ◌+◌, ◌<◌, ◌≤◌, cond, List, [], ◌∷◌, ◌++◌}
use Rattle.std.proofs.Common.{length, get_or, set, take, replicate, min, inl, inr, refl, sym, ◌∙◌}
use Rattle.std.proofs.Common.{ap, subst, arith, add-one, below_more, get_or-set_other}
use Rattle.std.proofs.Common.{get_or-set_same, length-append, length-set, nat_eq, eq-eqb}
use Rattle.std.proofs.lemmas.List.{get_or_append_left, get_or_at, get_or_default, length-replicate}
use Rattle.std.proofs.lemmas.List.{get_or-replicate, get_or-take, length-take, take-set}
use Rattle.std.proofs.lemmas.List.{take_more_set, set-get_or}
use Rattle.std.specs.Int.{from_bool}
use Rattle.std.proofs.lemmas.Bool.{cases_lt, cases_eq, cond-true, ne_eqb}
use Rattle.glb_graph.specs.Rows.{targets_of, IsGraph}
use Rattle.glb_graph.specs.Walks.{Walk, HasEdge}
use Rattle.glb_graph.specs.inner.Tables.{IsTable, unseen}

-- how many vertices are not found yet
unfoldable pub unseen_in : List ℕ → ℕ
unseen_in [] = 0
unseen_in (d ∷ table) = cond (nat_eq d unseen) 1 0 + unseen_in table

-- the distance of the vertex at a place of the queue
abbrev pub at : List ℕ → List ℕ → ℕ → ℕ
at table queue k = get_or table (get_or queue k 0) 0

-- what holds throughout the search: the queue has the vertices that were found, each once, by
-- rising distance
pub record IsSearch (rows : List (List ℕ)) (s : ℕ) (table queue : List ℕ) : Type 0 where
  pub few : length rows ≤ 20000
  pub same_length : length table ≡ length rows
  pub room : unseen_in table + length queue ≡ length rows
  pub inside : (k : ℕ) → k < length queue → get_or queue k 0 < length rows
  pub near : (k : ℕ) → k < length queue → at table queue k ≤ k
  pub rising : (j k : ℕ) → j ≤ k → k < length queue → at table queue j ≤ at table queue k
  pub walks : (k : ℕ) → k < length queue → Walk rows s (get_or queue k 0) (at table queue k)
  pub found : (v : ℕ) → v < length rows → get_or table v 0 ≢ unseen → (k : ℕ) × (k < length queue)
      × (get_or queue k 0 ≡ v)
  pub start : get_or table s 0 ≡ 0
  pub start_inside : s < length rows

-- no vertex of the queue is farther than one step beyond the one at place h
abbrev pub IsNear : List ℕ → List ℕ → ℕ → Type 0
IsNear table queue h = (k : ℕ) → k < length queue → at table queue k ≤ at table queue h + 1

-- the first so many of these targets are found, at most so far away
abbrev pub AreFound : List (List ℕ) → List ℕ → List ℕ → ℕ → ℕ → Type 0
AreFound rows table targets i most = (j : ℕ) → j < i → (get_or targets j 0 < length rows)
    × (get_or table (get_or targets j 0) 0 ≤ most)

-- all targets of the vertices before place h are found
abbrev pub IsDone : List (List ℕ) → List ℕ → List ℕ → ℕ → Type 0
IsDone rows table queue h = (k : ℕ) → k < h
    → AreFound rows table (targets_of rows (get_or queue k 0))
    (length (targets_of rows (get_or queue k 0))) (at table queue k + 1)

-- a walk to an equal vertex, of an equal number of edges
walk_same : (rows : List (List ℕ)) (s t t' n n' : ℕ) → t ≡ t' → n ≡ n' → Walk rows s t n
    → Walk rows s t' n'
walk_same rows s t t' n n' p q w =
    subst (λ x. Walk rows s x n') p (subst (λ x. Walk rows s t x) q w)

-- one more edge at the end
walk_more : (rows : List (List ℕ)) (s m t n : ℕ) → Walk rows s m n → HasEdge rows m t
    → Walk rows s t (suc n)
walk_more rows s m t zero w e = (t, subst (λ x. HasEdge rows x t) (sym w) e, refl)
walk_more rows s m t (suc n) (c, e', w) e = (c, e', walk_more rows c m t n w e)

-- a vertex that is found is no longer unseen
unseen-set : (table : List ℕ) (i x : ℕ) → i < length table → get_or table i 0 ≡ unseen → x < unseen
    → unseen_in (set table i x) + 1 ≡ unseen_in table
unfolding unseen_in
unseen-set [] i x h e l = absurd (omega arith)
unseen-set (d ∷ table) zero x h e l = grind arith
unseen-set (d ∷ table) (suc i) x h e l = omega (arith, unseen-set table i x (omega arith) e l)

-- at first all are unseen
unseen-replicate : (n : ℕ) → unseen_in (replicate n unseen) ≡ n
unfolding unseen_in
unseen-replicate zero = refl
unseen-replicate (suc n) = omega (arith, unseen-replicate n)

-- a vertex that is not found yet is found from the one at place h
module _ (rows : List (List ℕ)) (s : ℕ) (table queue : List ℕ) (h w : ℕ)
    (S : IsSearch rows s table queue)
    (close : IsNear table queue h) (at_work : h < length queue) (in' : w < length rows)
    (new : get_or table w 0 ≡ unseen) where
  -- its distance
  abbrev step : ℕ
  step = at table queue h + 1

  -- the table with it
  abbrev table' : List ℕ
  table' = set table w step

  -- the queue with it
  abbrev queue' : List ℕ
  queue' = queue ++ w ∷ []

  -- the queue is longer by one
  pub longer : length queue' ≡ length queue + 1
  longer = length-append queue (w ∷ [])

  -- no distance in the queue is the mark
  small : (k : ℕ) → k < length queue → at table queue k < unseen
  small k l = omega (arith, S.near k l, S.room, S.few)

  -- the vertices of the queue keep their places
  pub place : (k : ℕ) → k < length queue → get_or queue' k 0 ≡ get_or queue k 0
  place k l = get_or_append_left queue (w ∷ []) 0 k l

  -- the new one stands at the end
  place_new : get_or queue' (length queue) 0 ≡ w
  place_new = get_or_at queue w [] 0 (length queue) refl

  -- what was found keeps its distance
  pub kept : (v : ℕ) → get_or table v 0 < unseen → get_or table' v 0 ≡ get_or table v 0
  kept v l = let ne : v ≢ w = λ e.
      let e' : get_or table v 0 ≡ get_or table w 0 = ap (λ x. get_or table x 0) e in omega arith
      in get_or-set_other table w v step 0 ne

  -- the vertices of the queue keep their distances
  pub old : (k : ℕ) → k < length queue → at table' queue' k ≡ at table queue k
  old k l = ap (λ v. get_or table' v 0) (place k l) ∙ kept (get_or queue k 0) (small k l)

  -- the new one is one step farther than the one at place h
  pub fresh : at table' queue' (length queue) ≡ step
  fresh = ap (λ v. get_or table' v 0) place_new
      ∙ get_or-set_same table w step 0 (let e = S.same_length in omega arith)

  -- distances still rise along the queue
  push_rising : (j k : ℕ) → j ≤ k → k < length queue + 1 → at table' queue' j ≤ at table' queue' k
  push_rising j k le l = elim (cases_lt k (length queue)) [
    | inl a ↦ omega (arith, old j (omega arith), old k a, S.rising j k le a)
    | inr b ↦ let e : length queue ≡ k = omega arith in
        let e' : at table' queue' k ≡ step = ap (at table' queue') (sym e) ∙ fresh in
        elim (cases_lt j (length queue)) [
          | inl a ↦ omega (arith, old j a, close j a, e')
          | inr d ↦ let f : j ≡ k = omega arith in
              let f' : at table' queue' j ≡ at table' queue' k =
              ap (at table' queue') f in omega arith
        ]
  ]

  -- each vertex that is found stands in the queue
  push_found : (v : ℕ) → v < length rows → get_or table' v 0 ≢ unseen
      → (k : ℕ) × (k < length queue + 1)
      × (get_or queue' k 0 ≡ v)
  push_found v l ne = elim (cases_eq v w) [
    | inl e ↦ (length queue, omega arith, place_new ∙ sym e)
    | inr d ↦ let f = S.found v l (λ e. ne (get_or-set_other table w v step 0 d ∙ e))
        in (f.0, omega (arith, f.1), place f.0 f.1 ∙ f.2)
  ]

  -- the search goes on with one vertex more
  pub pushed : HasEdge rows (get_or queue h 0) w → IsSearch rows s table' queue'
  pushed edge = record {
    few = S.few;
    same_length = length-set table w step ∙ S.same_length;
    room = let small_next : step < unseen = omega (arith, S.near h at_work, S.room, S.few) in
        let n : w < length table = let e = S.same_length in omega arith in
        omega (arith, unseen-set table w step n new small_next, longer, S.room);
    inside = λ k l. below_more (λ k. get_or queue' k 0 < length rows) (length queue)
        (λ k a. omega (arith, place k a, S.inside k a)) (omega (arith, place_new)) k
        (omega (arith, longer));
    near = λ k l. below_more (λ k. at table' queue' k ≤ k) (length queue)
        (λ k a. omega (arith, old k a, S.near k a)) (omega (arith, fresh, S.near h at_work)) k
        (omega (arith, longer));
    rising = λ j k le l. push_rising j k le (omega (arith, longer));
    walks = λ k l. below_more (λ k. Walk rows s (get_or queue' k 0) (at table' queue' k))
        (length queue)
        (λ k a. walk_same rows s _ _ _ _ (sym (place k a)) (sym (old k a)) (S.walks k a))
        (walk_same rows s w _ (suc (at table queue h)) _ (sym place_new)
        (sym (add-one (at table queue h)) ∙ sym fresh)
        (walk_more rows s (get_or queue h 0) w (at table queue h) (S.walks h at_work) edge))
        k (omega (arith, longer));
    found = λ v l ne. let f = push_found v l ne in (f.0, omega (arith, longer, f.1), f.2);
    start = kept s (omega (arith, S.start)) ∙ S.start;
    start_inside = S.start_inside;
  }

  -- no vertex of the queue is too far
  pub pushed_near : IsNear table' queue' h
  pushed_near k l = below_more (λ k. at table' queue' k ≤ at table' queue' h + 1) (length queue)
      (λ k a. omega (arith, old k a, old h at_work, close k a))
      (omega (arith, fresh, old h at_work)) k
      (omega (arith, longer))

  -- the targets that were found are found, at the same distance
  pub pushed_found : (targets : List ℕ) (i most : ℕ) → most < unseen
      → AreFound rows table targets i most
      → AreFound rows table' targets i most
  pushed_found targets i most l f j a = let g = f j a
      in (g.0, omega (arith, g.1, kept (get_or targets j 0) (omega (arith, g.1))))

  -- the targets of earlier vertices are still found
  pub pushed_done : IsDone rows table queue h → IsDone rows table' queue' h
  pushed_done d k a = let b : k < length queue = omega arith in
      let f = λ (j : ℕ) (l : j < length (targets_of rows (get_or queue k 0))). d k a j l in
      let g = pushed_found (targets_of rows (get_or queue k 0))
      (length (targets_of rows (get_or queue k 0))) (at table queue k + 1)
      (omega (arith, S.near k b, S.room, S.few)) f in
      let P : ℕ → ℕ → Type 0 = λ v n.
      AreFound rows table' (targets_of rows v) (length (targets_of rows v)) (n + 1) in
      subst (λ v. P v (at table' queue' k)) (sym (place k b))
      (subst (λ n. P (get_or queue k 0) n) (sym (old k b)) g)

-- the search begins
pub started : (rows : List (List ℕ)) (s : ℕ) → length rows ≤ 20000 → s < length rows
    → IsSearch rows s (set (replicate (length rows) unseen) s 0) (s ∷ [])
started rows s few h =
    let len : length (replicate (length rows) unseen) ≡ length rows =
    length-replicate (length rows) unseen in
    let before : get_or (replicate (length rows) unseen) s 0 ≡ unseen =
    get_or-replicate (length rows) s unseen 0 h in
    let here : get_or (set (replicate (length rows) unseen) s 0) s 0 ≡ 0 =
    get_or-set_same (replicate (length rows) unseen) s 0 0 (omega arith) in
    let one : (k : ℕ) → k < 1 → k ≡ 0 = λ k l. omega arith in
    let first : (k : ℕ) → k < 1
    → get_or (s ∷ []) k 0 ≡ s = λ k l. ap (λ k. get_or (s ∷ []) k 0) (one k l) in
    let zeroed : (k : ℕ) → k < 1
    → at (set (replicate (length rows) unseen) s 0) (s ∷ []) k ≡ 0 = λ k l.
    ap (λ v. get_or (set (replicate (length rows) unseen) s 0) v 0) (first k l) ∙ here in
    record {
      few = few;
      same_length = length-set (replicate (length rows) unseen) s 0 ∙ len;
      room = omega (
        arith,
        unseen-set (replicate (length rows) unseen) s 0 (omega arith) before (omega arith),
        unseen-replicate (length rows),
      );
      inside = λ k l. omega (arith, first k l);
      near = λ k l. omega (arith, zeroed k l);
      rising = λ j k le l. omega (arith, zeroed j (omega arith), zeroed k l);
      walks = λ k l. walk_same rows s s _ 0 _ (sym (first k l)) (sym (zeroed k l)) refl;
      found = λ v l ne. elim (cases_eq v s) [
        | inl e ↦ (0, omega arith, sym e)
        | inr d ↦ absurd (ne
            (get_or-set_other (replicate (length rows) unseen) s v 0 0 d
            ∙ get_or-replicate (length rows) v unseen 0 l))
      ];
      start = here;
      start_inside = h;
    }

-- at the end each walk stays in the queue
along : (rows : List (List ℕ)) (s : ℕ) (table queue : List ℕ) → IsSearch rows s table queue
    → IsDone rows table queue (length queue) →
    (n m t a k : ℕ) → k < length queue → get_or queue k 0 ≡ m → get_or table m 0 ≤ a
    → Walk rows m t n →
    (k' : ℕ) × (k' < length queue) × (get_or queue k' 0 ≡ t) × (get_or table t 0 ≤ a + n)
along rows s table queue S d zero m t a k l e le w = (
  k,
  l,
  e ∙ w,
  let x : get_or table m 0 ≡ get_or table t 0 =
      ap (λ v. get_or table v 0) w in omega arith,
)
along rows s table queue S d (suc n) m t a k l e le (c, (j, jl, je), w) =
    let jl' : j < length (targets_of rows (get_or queue k 0)) =
    subst (λ v. j < length (targets_of rows v)) (sym e) jl in
    let je' : get_or (targets_of rows (get_or queue k 0)) j 0 ≡ c =
    get_or_default (targets_of rows (get_or queue k 0)) j 0 c jl'
    ∙ ap (λ v. get_or (targets_of rows v) j c) e ∙ je in
    let f = d k l j jl' in
    let x : get_or table (get_or (targets_of rows (get_or queue k 0)) j 0) 0 ≡ get_or table c 0 =
    ap (λ v. get_or table v 0) je' in
    let y : at table queue k ≡ get_or table m 0 = ap (λ v. get_or table v 0) e in
    let near = S.near k l in
    let room = S.room in
    let few = S.few in
    let f1 = f.1 in
    let small : get_or table c 0 < unseen = omega arith in
    let low : get_or table c 0 ≤ a + 1 = omega arith in
    let in' : c < length rows = let f0 = f.0 in omega arith in
    let g = S.found c in' (λ e. omega arith) in
    let r = along rows s table queue S d n c t (a + 1) g.0 g.1 g.2 low w in
    (r.0, r.1, r.2, omega (arith, r.3))

-- once the targets of all vertices of the queue are found, the table has the distances
pub finished : (rows : List (List ℕ)) (s : ℕ) (table queue : List ℕ) → IsSearch rows s table queue
    → IsDone rows table queue (length queue) → IsTable rows s table
finished rows s table queue S d =
    let room = S.room in
    let few = S.few in
    let start = S.start in
    let first = S.found s S.start_inside (λ e. omega arith) in
    let all : (n t : ℕ) → Walk rows s t n → (k' : ℕ) × (k' < length queue) × (get_or queue k' 0 ≡ t)
    × (get_or table t 0 ≤ 0 + n) = λ n t w.
    along rows s table queue S d n s t 0 first.0 first.1 first.2 (omega arith) w in
    record {
      same_length = S.same_length;
      reached = λ t l ne. let f = S.found t l ne in (
        walk_same rows s _ t _ _ f.2 (ap (λ v. get_or table v 0) f.2) (S.walks f.0 f.1),
        λ n w. omega (arith, (all n t w).3),
      );
      bounded = λ t l ne. let f = S.found t l ne in
          let e : at table queue f.0 ≡ get_or table t 0 = ap (λ v. get_or table v 0) f.2
          in omega (arith, S.near f.0 f.1, f.1);
      not_reached = λ t l e n w. let g = all n t w in
          let x : at table queue g.0 ≡ get_or table t 0 = ap (λ v. get_or table v 0) g.2
          in omega (arith, S.near g.0 g.1, g.1);
    }

-- where none is unseen, each vertex is found
no_unseen : (table : List ℕ) (v : ℕ) → unseen_in table ≡ 0 → v < length table
    → get_or table v 0 ≡ unseen
    → ⊥
unfolding unseen_in
no_unseen [] v z l e = omega arith
no_unseen (d ∷ table) zero z l e = let one : ℕ = 1 in let none : ℕ = 0 in
    let b : cond (nat_eq d unseen) one none ≡ one =
    cond-true (nat_eq d unseen) one none (eq-eqb d unseen e) in omega (arith, b)
no_unseen (d ∷ table) (suc v) z l e = no_unseen table v (omega arith) (omega arith) e

-- once every vertex is found, no vertex of the queue has a target to look at
pub all_found : (rows : List (List ℕ)) (s : ℕ) (table queue : List ℕ) (h : ℕ) → IsGraph rows
    → IsSearch rows s table queue → IsDone rows table queue h
    → (h < length queue → IsNear table queue h)
    → length rows ≤ length queue → IsDone rows table queue (length queue)
all_found rows s table queue h G S d near full k l j a = elim (cases_lt k h) [
  | inl b ↦ d k b j a
  | inr b ↦
      let w : ℕ = get_or (targets_of rows (get_or queue k 0)) j 0 in
      let in' : w < length rows = G.below (get_or queue k 0) j a in
      let f = S.found w in'
      (no_unseen table w (omega (arith, S.room)) (omega (arith, S.same_length))) in
      let e : at table queue f.0 ≡ get_or table w 0 = ap (λ v. get_or table v 0) f.2 in
      (in', omega (arith, e, near (omega arith) f.0 f.1, S.rising h k b l))
]

-- while the vertex at place h is at work, and so many of its targets have been looked at
pub record IsFront (rows : List (List ℕ)) (s : ℕ) (table queue : List ℕ) (h vertex next : ℕ)
    (targets : List ℕ) (i : ℕ) : Type 0 where
  pub search : IsSearch rows s table queue
  pub before : IsDone rows table queue h
  pub at_work : h < length queue
  pub near : IsNear table queue h
  pub next_is : next ≡ at table queue h + 1
  pub vertex_is : get_or queue h 0 ≡ vertex
  pub targets_are : targets ≡ targets_of rows vertex
  pub below : (k : ℕ) → k < length targets → get_or targets k 0 < length rows
  pub these : AreFound rows table targets i next

-- before the first target
pub front_begin : (rows : List (List ℕ)) (s : ℕ) (table queue : List ℕ) (h vertex next : ℕ)
    (targets : List ℕ) → IsSearch rows s table queue → IsDone rows table queue h → h < length queue
    → IsNear table queue h →
    next ≡ get_or table vertex 0 + 1 → get_or queue h 0 ≡ vertex → targets ≡ targets_of rows vertex
    → ((k : ℕ) → k < length targets → get_or targets k 0 < length rows)
    → IsFront rows s table queue h vertex next targets 0
front_begin rows s table queue h vertex next targets S d l near e v t b = record {
  search = S;
  before = d;
  at_work = l;
  near = near;
  next_is = let x : at table queue h ≡ get_or table vertex 0 =
      ap (λ v. get_or table v 0) v in omega arith;
  vertex_is = v;
  targets_are = t;
  below = b;
  these = λ j a. absurd (omega arith);
}

-- a target that was found already
pub front_skip : (rows : List (List ℕ)) (s : ℕ) (table queue : List ℕ) (h vertex next : ℕ)
    (targets : List ℕ) (i w : ℕ) → IsFront rows s table queue h vertex next targets i
    → i < length targets
    → w ≡ get_or targets i 0 → (get_or table w 0 ≡ unseen → ⊥)
    → IsFront rows s table queue h vertex next targets (i + 1)
front_skip rows s table queue h vertex next targets i w F l e ne =
    let in' : w < length rows = omega (arith, F.below i l) in
    let f = F.search.found w in' ne in
    let x : at table queue f.0 ≡ get_or table w 0 = ap (λ v. get_or table v 0) f.2 in
    let y : get_or table w 0 ≡ get_or table (get_or targets i 0) 0 = ap (λ v. get_or table v 0) e in
    let near = F.near f.0 f.1 in
    let n = F.next_is in
    record {
      search = F.search;
      before = F.before;
      at_work = F.at_work;
      near = F.near;
      next_is = F.next_is;
      vertex_is = F.vertex_is;
      targets_are = F.targets_are;
      below = F.below;
      these = below_more (λ j. (get_or targets j 0 < length rows)
          × (get_or table (get_or targets j 0) 0 ≤ next)) i F.these (F.below i l, omega arith);
    }

-- such a target is not farther than one step
pub front_seen : (rows : List (List ℕ)) (s : ℕ) (table queue : List ℕ) (h vertex next : ℕ)
    (targets : List ℕ) (i w : ℕ) → IsFront rows s table queue h vertex next targets i
    → i < length targets
    → w ≡ get_or targets i 0 → (get_or table w 0 ≡ unseen → ⊥) → get_or table w 0 ≤ next
front_seen rows s table queue h vertex next targets i w F l e ne =
    let in' : w < length rows = omega (arith, F.below i l) in
    let f = F.search.found w in' ne in
    let x : at table queue f.0 ≡ get_or table w 0 = ap (λ v. get_or table v 0) f.2 in
    omega (arith, F.near f.0 f.1, F.next_is)

-- the same of an equal table and queue
pub same_front : (rows : List (List ℕ)) (s : ℕ) (table table' queue queue' : List ℕ)
    (h vertex next : ℕ)
    (targets : List ℕ) (i : ℕ) → table ≡ table' → queue ≡ queue'
    → IsFront rows s table queue h vertex next targets i
    → IsFront rows s table' queue' h vertex next targets i
same_front rows s table t' queue q' h vertex next targets i p q F =
    subst (λ x. IsFront rows s t' x h vertex next targets i) q
    (subst (λ x. IsFront rows s x queue h vertex next targets i) p F)

-- a target that is new
pub front_push : (rows : List (List ℕ)) (s : ℕ) (table queue : List ℕ) (h vertex next : ℕ)
    (targets : List ℕ) (i w : ℕ) → IsFront rows s table queue h vertex next targets i
    → i < length targets
    → w ≡ get_or targets i 0 → get_or table w 0 ≡ unseen →
    (table' queue' : List ℕ) → table' ≡ set table w next → queue' ≡ queue ++ w ∷ []
    → IsFront rows s table' queue' h vertex next targets (i + 1)
front_push rows s table queue h vertex next targets i w F l e new table' queue' p q =
    let in' : w < length rows = omega (arith, F.below i l) in
    let S = F.search in
    let l' : i < length (targets_of rows vertex) = omega (arith, ap length F.targets_are) in
    let at_vertex : HasEdge rows vertex w = (
      i,
      l',
      get_or_default (targets_of rows vertex) i w 0 l'
          ∙ sym (ap (λ t. get_or t i 0) F.targets_are) ∙ sym e,
    ) in
    let edge : HasEdge rows (get_or queue h 0) w =
    subst (λ v. HasEdge rows v w) (sym F.vertex_is) at_vertex in
    let n : next < unseen = omega (arith, F.next_is, S.near h F.at_work, S.room, S.few) in
    let T : List ℕ = set table w (at table queue h + 1) in
    let Q : List ℕ = queue ++ w ∷ [] in
    let here : get_or T w 0 ≡ at table queue h + 1 =
    get_or-set_same table w (at table queue h + 1) 0 (omega (arith, S.same_length)) in
    let here' : get_or T (get_or targets i 0) 0 ≡ get_or T w 0 = ap (λ v. get_or T v 0) (sym e) in
    let G : IsFront rows s T Q h vertex next targets (i + 1) = record {
      search = pushed rows s table queue h w S F.near F.at_work in' new edge;
      before = pushed_done rows s table queue h w S F.near F.at_work in' new F.before;
      at_work = omega (arith, longer rows s table queue h w S F.near F.at_work in' new, F.at_work);
      near = pushed_near rows s table queue h w S F.near F.at_work in' new;
      next_is = omega
          (arith, F.next_is, old rows s table queue h w S F.near F.at_work in' new h F.at_work);
      vertex_is = place rows s table queue h w S F.near F.at_work in' new h F.at_work ∙ F.vertex_is;
      targets_are = F.targets_are;
      below = F.below;
      these = below_more (λ j. (get_or targets j 0 < length rows)
          × (get_or T (get_or targets j 0) 0 ≤ next)) i
          (pushed_found rows s table queue h w S F.near F.at_work in' new targets i next n F.these)
          (F.below i l, omega (arith, here, here', F.next_is));
    } in
    same_front rows s T table' Q queue' h vertex next targets (i + 1)
    (ap (set table w) (sym F.next_is) ∙ sym p) (sym q) G

-- after the last target the vertex is done
pub front_done : (rows : List (List ℕ)) (s : ℕ) (table queue : List ℕ) (h vertex next : ℕ)
    (targets : List ℕ) (i : ℕ) → IsFront rows s table queue h vertex next targets i
    → length targets ≤ i
    → IsDone rows table queue (h + 1)
front_done rows s table queue h vertex next targets i F e =
    below_more (λ k. AreFound rows table (targets_of rows (get_or queue k 0))
    (length (targets_of rows (get_or queue k 0))) (at table queue k + 1)) h F.before
    (let ts : targets ≡ targets_of rows (get_or queue h 0) = F.targets_are
    ∙ sym (ap (targets_of rows) F.vertex_is) in
    subst (λ n. AreFound rows table (targets_of rows (get_or queue h 0))
    (length (targets_of rows (get_or queue h 0))) n) F.next_is
    (subst (λ t. AreFound rows table t (length t) next) ts (λ j a. F.these j (omega arith))))

-- then the next vertex can be at work
pub front_near : (rows : List (List ℕ)) (s : ℕ) (table queue : List ℕ) (h vertex next : ℕ)
    (targets : List ℕ) (i : ℕ) → IsFront rows s table queue h vertex next targets i
    → h + 1 < length queue
    → IsNear table queue (h + 1)
front_near rows s table queue h vertex next targets i F l k a =
    omega (arith, F.near k a, F.search.rising h (h + 1) (omega arith) l)

-- what was read, at another default
pub read_is : (xs : List ℕ) (i r : ℕ) → i < length xs → r ≡ get_or xs i r → r ≡ get_or xs i 0
read_is xs i r l e = e ∙ get_or_default xs i r 0 l

-- the queue is the first part of an array that has room for one vertex more than there are
pub record IsQueue (rows : List (List ℕ)) (array : List ℕ) (found : ℕ) : Type 0 where
  pub length_is : length array ≡ length rows + 1
  pub within : found ≤ length rows

-- the queue has the vertices that were found
pub length-queue : (rows : List (List ℕ)) (array : List ℕ) (found : ℕ) → IsQueue rows array found
    → length (take found array) ≡ found
length-queue rows array found Q = omega (arith, length-take found array, Q.length_is, Q.within)

-- the queue is the front of the array
pub queue_at : (array : List ℕ) (found k : ℕ) → k < found
    → get_or (take found array) k 0 ≡ get_or array k 0
queue_at array found k l = get_or-take found array k 0 l

-- the search as the code begins it
pub begun : (rows : List (List ℕ)) (s count : ℕ) (table array : List ℕ) → count ≡ length rows
    → IsGraph rows → s < length rows → table ≡ replicate count unseen
    → array ≡ replicate (count + 1) 0 →
    IsSearch rows s (set table s 0) (take 1 (set array 0 s))
    × IsNear (set table s 0) (take 1 (set array 0 s)) 0 × IsQueue rows (set array 0 s) 1
begun rows s count table array e G l t q =
    let t' : table ≡ replicate (length rows) unseen = t ∙ ap (λ n. replicate n unseen) e in
    let len : length array ≡ count + 1 = ap length q ∙ length-replicate (count + 1) 0 in
    let one : take (0 + 1) (set array 0 s) ≡ take 0 array
    ++ s ∷ [] = take_more_set array 0 s (omega arith) in
    let one' : take 1 (set array 0 s) ≡ s ∷ [] = one ∙ ap (λ xs. xs ++ s ∷ []) (take_zero array) in
    let S = started rows s G.few_vertices l in
    let S' : IsSearch rows s (set table s 0) (take 1 (set array 0 s)) =
    subst (λ q. IsSearch rows s (set table s 0) q) (sym one')
    (subst (λ t. IsSearch rows s (set t s 0) (s ∷ [])) (sym t') S) in (
      S',
      λ k a. (let z : k ≡ 0 = omega (arith, ap length one') in omega (arith, S'.near k a)),
      record { length_is = omega (arith, length-set array 0 s); within = omega arith },
    )
  where
    take_zero : (xs : List ℕ) → take 0 xs ≡ []
    take_zero [] = refl
    take_zero (x ∷ xs) = refl

-- the vertex at the head of the queue, and its distance
pub head_is : (rows : List (List ℕ)) (s : ℕ) (table array : List ℕ) (found h v : ℕ)
    → IsQueue rows array found → IsSearch rows s table (take found array) → h < found
    → v ≡ get_or array h v → (get_or (take found array) h 0 ≡ v) × (v < length rows)
head_is rows s table array found h v Q S l e =
    let n = length-queue rows array found Q in
    let e' : v ≡ get_or array h 0 = read_is array h v (omega (arith, Q.length_is, Q.within)) e in
    let here : get_or (take found array) h 0 ≡ v = queue_at array found h l ∙ sym e' in
    (here, omega (arith, here, S.inside h (omega arith)))

-- its distance is below the number of vertices
pub head_near : (rows : List (List ℕ)) (s : ℕ) (table array : List ℕ) (found h v d : ℕ)
    → IsQueue rows array found → IsSearch rows s table (take found array) → h < found
    → v ≡ get_or array h v → d ≡ get_or table v d → (d ≡ get_or table v 0) × (d < 20000)
head_near rows s table array found h v d Q S l e f =
    let n = length-queue rows array found Q in
    let a = head_is rows s table array found h v Q S l e in
    let f' : d ≡ get_or table v 0 = read_is table v d (omega (arith, S.same_length, a.1)) f in
    let g : at table (take found array) h ≡ get_or table v 0 = ap (λ x. get_or table x 0) a.0 in
    (f', omega (arith, f', g, S.near h (omega arith), Q.within, S.few))

-- one target of the vertex at work: it stands at the end of the queue, which grows by it where it
-- is new
module _ (rows : List (List ℕ)) (s : ℕ) (table array : List ℕ) (found h vertex next : ℕ)
    (targets : List ℕ) (i w known : ℕ) (Q : IsQueue rows array found)
    (F : IsFront rows s table (take found array) h vertex next targets i) (l : i < length targets)
    (w-is : w ≡ get_or targets i 0) (known-is : known ≡ get_or table w known) (less : ℕ)
    (less-is : less ≡ min known next) where
  -- the target is a vertex
  pub target_inside : w < length rows
  target_inside = omega (arith, F.below i l)

  -- what was read is its entry
  pub known_is : known ≡ get_or table w 0
  known_is = read_is table w known (omega (arith, target_inside, F.search.same_length)) known-is

  -- no distance is the mark
  pub next_small : next < unseen
  next_small = omega (arith, F.next_is, F.search.near h F.at_work, F.search.room, F.search.few)

  -- what holds after it
  abbrev Next : List ℕ → List ℕ → ℕ → Type 0
  Next table' array' found' = IsQueue rows array' found'
      × IsFront rows s table' (take found' array') h vertex next targets (i + 1)

  -- it is new
  target_new : known ≡ unseen → (found' : ℕ) → found' ≡ found + 1
      → Next (set table w less) (set array found w) found'
  target_new e found' f =
      let least : less ≡ next = omega (arith, next_small) in
      let n = length-queue rows array found Q in
      let new : get_or table w 0 ≡ unseen = sym known_is ∙ e in
      let more : take (found + 1) (set array found w) ≡ take found array
      ++ w ∷ [] = take_more_set array found w (omega (arith, Q.length_is, Q.within)) in
      let F' = front_push rows s table (take found array) h vertex next targets i w F l w-is new
      (set table w less) (take (found + 1) (set array found w)) (ap (set table w) least) more in
      subst (Next (set table w less) (set array found w)) (sym f) (
        record {
          length_is = length-set array found w
              ∙ Q.length_is;
          within =
              omega (
                arith,
                F'.search.room,
                ap length more,
                length-append (take found array) (w ∷ []),
                n,
              );
        },
        F',
      )

  -- it was found already
  target_old : (known ≡ unseen → ⊥) → (found' : ℕ) → found' ≡ found
      → Next (set table w less) (set array found w) found'
  target_old ne found' f =
      let ne' : get_or table w 0 ≡ unseen → ⊥ = λ e. ne (known_is ∙ e) in
      let low = front_seen rows s table (take found array) h vertex next targets i w F l w-is ne' in
      let least : less ≡ get_or table w 0 = omega (arith, known_is, low) in
      let same : table ≡ set table w less =
      sym (set-get_or table w 0) ∙ ap (set table w) (sym least) in
      subst (Next (set table w less) (set array found w)) (sym f) (
        record { length_is = length-set array found w ∙ Q.length_is; within = Q.within },
        same_front rows s table (set table w less) (take found array)
            (take found (set array found w)) h
            vertex next targets (i + 1) same (sym (take-set array found w))
            (front_skip rows s table (take found array) h vertex next targets i w F l w-is ne'),
      )

  -- the queue grows by one where it is new, and by none where not
  pub target_next : (more : ℕ) → more ≡ from_bool (nat_eq known unseen)
      → Next (set table w less) (set array found w) (found + more)
  target_next more e = elim (cases_eq known unseen) [
    | inl new ↦ target_new new (found + more)
        (let one : more ≡ 1 = e ∙ ap from_bool (eq-eqb known unseen new) in omega arith)
    | inr old ↦ target_old old (found + more)
        (let none : more ≡ 0 = e ∙ ap from_bool (ne_eqb known unseen old) in omega arith)
  ]
