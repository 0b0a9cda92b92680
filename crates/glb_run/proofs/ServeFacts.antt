-- What can be served gives a report, or there is no memory.
use Rattle.std.proofs.Common.{◌≡◌, ◌⊎◌, inl, inr, ⊎_elim, ℕ, List, [], ◌++◌, refl, sym, subst, ap, ◌∙◌}
use Rattle.std.proofs.Common.{Result, Ok, Err, arith}
use Rattle.std.specs.Prelude.{◌≤◌, Bool, Option, Some, None, IsSome, length}
use Rattle.std.proofs.lemmas.List.{length-append}
use Rattle.std.proofs.lemmas.List.{append-nil}
use Rattle.glb_io.specs.Bytes.{Takes, NoneLeft}
use Rattle.glb_words.specs.Rules.{Text}
use Rattle.glb_words.specs.declared.fault.WordFault.{WordFault}
use Rattle.glb_words.specs.declared.settings.Job.{Job}
use Rattle.glb_words.specs.declared.settings.Job.TheVariants as job
use Rattle.glb_graph.specs.Rows.{graph_of}
use Rattle.glb_graph.specs.GraphText.{Reading, Edges, Fault, FaultKind, BytesSay}
use Rattle.glb_graph.specs.Reading.{IsTextOf}
use Rattle.glb_graph.specs.Spots.{spot_children}
use Rattle.glb_graph.specs.declared.dist.Spot.TheVariants.{Root}
use Rattle.glb_graph.proofs.TextFacts.{one_reading}
use Rattle.glb_knap.specs.KnapText as knap
use Rattle.glb_knap.specs.Packs.{Problem}
use Rattle.glb_knap.proofs.TextFacts.{one_reading as one_knap_reading}
use Rattle.glb_run.specs.declared.order.Order.{Order}
use Rattle.glb_run.specs.declared.status.Status.{Status}
use Rattle.glb_run.specs.declared.status.Status.TheVariants as status
use Rattle.glb_run.specs.Orders.{read_order}
use Rattle.glb_run.specs.Runs.{IsWithin}
use Rattle.glb_run.specs.Streams.{Change, CallRule, Reads, ReadsAll}
use Rattle.glb_run.specs.Ends.{ReadsSource, HasRead, HasRun, Ends}
use Rattle.glb_run.specs.Jobs.{IsWithinLimitOf, IsWithinLimit, HasTooManyOf}
use Rattle.glb_run.specs.Jobs.{IsKnapText, IsSearchWithin}
use Rattle.glb_run.specs.Completeness.{IsCalm, TellsInput, IsServable, IsComplete}

-- bytes that are told after they were taken began with what was taken
taken_is : (before after : Option (List ℕ)) (input taken : List ℕ) → before ≡ Some input
    → IsSome after
    → Takes before after taken → (rest : List ℕ) × (after ≡ Some rest) × (input ≡ taken ++ rest)
taken_is None after input taken e told t = absurd (cc)
taken_is (Some xs) None input taken e told t = absurd (cc)
taken_is (Some xs) (Some ys) input taken e told t = (ys, refl, cc)

module _ {S : Type 0} (source : Change S) (input : List ℕ) (tells : TellsInput input source) where
  -- what was read is no longer than the input
  read_within : (taken : List ℕ) → Reads taken source → length taken ≤ length input
  read_within taken reads =
      let t = taken_is source.before.bytes source.after.bytes input taken tells.bytes
      tells.told_after
      reads.taken in
      let parts = ap length t.2 in
      omega (arith, parts, length-append taken t.0)

  -- what was read to the end is the input
  read_whole : (taken : List ℕ) → ReadsAll taken source → taken ≡ input
  read_whole taken all =
      let t = taken_is source.before.bytes source.after.bytes input taken tells.bytes
      tells.told_after
      all.reads.taken in
      let none : t.0 ≡ [] = subst NoneLeft t.1 all.none_left in
      sym (t.2 ∙ ap (λ rest. taken ++ rest) none ∙ append-nil taken)

-- the number of vertices and the pairs of a reading
vertices_in : Reading → ℕ
vertices_in (Edges v pairs) = v
vertices_in (Fault kind line) = 0

pairs_in : Reading → List (ℕ × ℕ)
pairs_in (Edges v pairs) = pairs
pairs_in (Fault kind line) = []

-- bytes are text of one graph
one_graph : (bytes : List ℕ) (rows rows' : List (List ℕ)) → IsTextOf bytes rows
    → IsTextOf bytes rows'
    → rows ≡ rows'
unfolding pairs_in vertices_in
one_graph bytes rows rows' a b =
    let e = one_reading bytes _ _ a.says b.says in
    a.graph_is ∙ ap (λ v. graph_of v a.pairs) (ap vertices_in e)
    ∙ ap (graph_of (length rows')) (ap pairs_in e) ∙ sym b.graph_is

-- graph text has no fault
no_fault : (bytes : List ℕ) (rows : List (List ℕ)) (kind : FaultKind) (line : ℕ)
    → IsTextOf bytes rows
    → BytesSay bytes (Fault kind line) → ⊥
no_fault bytes rows kind line a says =
    let e = one_reading bytes _ _ a.says says in
    absurd (cc)

-- the knapsack of a reading
problem_in : knap.Reading → Problem
problem_in (knap.Carries capacity lines) = record { capacity = capacity; lines = lines }
problem_in (knap.Fault kind line) = record { capacity = 0; lines = [] }

-- bytes are text of one knapsack
one_knap : (bytes : List ℕ) (p q : Problem) → IsKnapText bytes p → IsKnapText bytes q → p ≡ q
unfolding problem_in
one_knap bytes p q a b = ap problem_in (one_knap_reading bytes _ _ a b)

-- knapsack text has no fault
no_knap_fault : (bytes : List ℕ) (p : Problem) (kind : FaultKind) (line : ℕ) → IsKnapText bytes p
    → knap.BytesSay bytes (knap.Fault kind line) → ⊥
no_knap_fault bytes p kind line a says =
    let e = one_knap_reading bytes _ _ a says in
    absurd (cc)

-- trees within the limit are not too large
not_large : {S : Type 0} (j : Job) (order : Order) (source : Change S) (input read : List ℕ)
    (items : ℕ)
    → (ReadsSource j → TellsInput input source) → HasRead j read source
    → IsWithinLimitOf j order input
    → HasTooManyOf j order read items → ⊥
not_large (job.Queens n) order source input read items tells has small large =
    large.many.large small
not_large (job.Uts b0 m q seed) order source input read items tells has small large =
    large.many.large small
not_large (job.Trial k) order source input read items tells has small large =
    ⊎_elim (λ tree. tree.many.large small.0) (λ graph. graph.many.large small.1) large
not_large job.Dist order source input read items tells has small large =
    let same = read_whole source input (tells tt) read has in
    let rows = one_graph input small.0 large.0 small.1
    (subst (λ bytes. IsTextOf bytes large.0) same large.1) in
    large.2.many.large
    (subst (λ r. IsWithin (spot_children r) order Root) rows small.2)
not_large job.Knap order source input read items tells has small large =
    let same = read_whole source input (tells tt) read has in
    let problem = one_knap input small.0 large.0 small.1
    (subst (λ bytes. IsKnapText bytes large.0) same large.1) in
    large.2.large (subst (λ p. IsSearchWithin p order) problem small.2)

-- the input of a job that is the distances of a graph is graph text
says_graph : (j : Job) (order : Order) (input : List ℕ) → j ≡ job.Dist
    → IsWithinLimitOf j order input
    → (rows : List (List ℕ)) × IsTextOf input rows
says_graph j order input is small =
    let h = subst (λ i. IsWithinLimitOf i order input) is small in
    (h.0, h.1)

-- the input of a job that is a knapsack is knapsack text
says_knap : (j : Job) (order : Order) (input : List ℕ) → j ≡ job.Knap
    → IsWithinLimitOf j order input
    → (problem : Problem) × IsKnapText input problem
says_knap j order input is small =
    let h = subst (λ i. IsWithinLimitOf i order input) is small in
    (h.0, h.1)

-- the order of the words, or another one where they give none
order_in : Order → Result Order WordFault → Order
order_in other (Ok order) = order
order_in other (Err fault) = other

module _ {S K : Type 0} (IsCall : CallRule K) (source : Change S) (out : Change K) (order : Order)
    (input : List ℕ) (tells : ReadsSource order.job → TellsInput input source)
    (small : IsWithinLimit order input) (calm : IsCalm out) where
  -- such an order ends so
  served : (s : Status) → HasRun order IsCall source out s
      → (s ≡ status.Done) ⊎ (s ≡ status.NoMemory)
  served status.Done run = inl refl
  served (status.BadWords kind word) run = absurd run
  served status.ReadFault run = absurd ((tells run.0).calm run.2.rose)
  served status.TooLong run =
      let much = run.2 in
      let t = tells run.0 in
      absurd (omega (arith, read_within source input t much.input much.reads, much.above, t.within))
  served (status.BadGraph kind line) run =
      let is = run.0 in
      let graph = says_graph order.job order input is small in
      let same = read_whole source input (tells (subst ReadsSource (sym is) tt)) run.2.0 run.2.1 in
      absurd (no_fault input graph.0 _ line graph.1
      (subst (λ bytes. BytesSay bytes _) same run.2.2))
  served (status.TooMany items) run =
      absurd (not_large order.job order source input run.1.0 items tells run.1.1 small run.1.2)
  served (status.WriteFault taken) run = absurd (calm run.2.2.rose)
  served status.NoMemory run = inr refl
  served (status.BadKnap kind line) run =
      let is = run.0 in
      let problem = says_knap order.job order input is small in
      let same = read_whole source input (tells (subst ReadsSource (sym is) tt)) run.2.0 run.2.1 in
      absurd (no_knap_fault input problem.0 _ line problem.1
      (subst (λ bytes. knap.BytesSay bytes _) same run.2.2))

module _ {S K E : Type 0} (calm_words : Bool) (words : List Text) (OutCall : CallRule K)
    (ErrCall : CallRule E)
    (source : Change S) (out : Change K) (err : Change E) where
  -- words of an order that was carried out
  of_order : (s : Status) (order : Order) → read_order calm_words words ≡ Ok order
      → HasRun order OutCall source out s → (h : IsServable calm_words words source) → IsCalm out
      → (s ≡ status.Done) ⊎ (s ≡ status.NoMemory)
  unfolding order_in
  of_order s order e run h calm = served OutCall source out h.order h.input h.told h.small calm s
      (subst (λ o. HasRun o OutCall source out s) (ap (order_in order) (sym e ∙ h.words_are)) run)

  -- a call that ended so is complete
  pub complete : (s : Status) → Ends calm_words words OutCall ErrCall source out err s
      → IsComplete calm_words words source out s
  complete status.Done ends h calm = inl refl
  complete (status.BadWords kind word) ends h calm =
      let e = sym h.words_are ∙ ends.cause.0 in
      absurd (cc)
  complete status.ReadFault ends h calm = of_order _ ends.cause.0 ends.cause.1 ends.cause.2 h calm
  complete status.TooLong ends h calm = of_order _ ends.cause.0 ends.cause.1 ends.cause.2 h calm
  complete (status.BadGraph kind line) ends h calm =
      of_order _ ends.cause.0 ends.cause.1 ends.cause.2 h calm
  complete (status.TooMany items) ends h calm =
      of_order _ ends.cause.0 ends.cause.1 ends.cause.2 h calm
  complete (status.WriteFault taken) ends h calm =
      of_order _ ends.cause.0 ends.cause.1 ends.cause.2 h calm
  complete (status.BadKnap kind line) ends h calm =
      of_order _ ends.cause.0 ends.cause.1 ends.cause.2 h calm
  complete status.NoMemory ends h calm = inr refl
