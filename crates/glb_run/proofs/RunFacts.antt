-- How the stages of a call make its whole.
use Rattle.std.proofs.Common.{◌≡◌, ◌≢◌, ◌⊎◌, inl, inr, ⊎_elim, ℕ, List, ◌++◌, refl, sym, ap, ◌∙◌}
use Rattle.std.proofs.Common.{subst, Result, Ok, Err}
use Rattle.std.specs.Prelude.{◌≤◌, Bool, true, IfOk, IfErr, OnOk, OnErr, Option, Some, None, take, length}
use Rattle.std.proofs.lemmas.List.{append_assoc}
use Rattle.glb_io.specs.Bytes.{Gives, Takes}
use Rattle.glb_io.specs.Faults.{Rose}
use Rattle.glb_words.specs.Rules.{Text}
use Rattle.glb_words.specs.OrderFaults.{IsFaultOf}
use Rattle.glb_words.specs.declared.fault.WordFault.{WordFault}
use Rattle.glb_words.specs.declared.fault.OrderFault.{OrderFault}
use Rattle.glb_words.specs.declared.fault.OrderFault.TheVariants as order_fault
use Rattle.glb_words.specs.declared.settings.Job.{Job}
use Rattle.glb_words.specs.declared.settings.Job.TheVariants as job
use Rattle.glb_tree.specs.declared.run.RunFault.{RunFault}
use Rattle.glb_tree.specs.declared.run.RunFault.TheVariants as run_fault
use Rattle.glb_graph.specs.Reading.{HasTextFault}
use Rattle.glb_graph.specs.declared.text.GraphFault.{GraphFault}
use Rattle.glb_graph.specs.declared.text.GraphFault.TheVariants as graph_fault
use Rattle.glb_knap.specs.KnapText.{HasTextFault as HasKnapFault}
use Rattle.glb_uts.specs.Descriptors.{root_descriptor}
use Rattle.glb_uts.specs.declared.uts.Uts.{Uts}
use Rattle.glb_uts.specs.declared.node.Node.{Node}
use Rattle.glb_run.specs.declared.job.Task.{Task}
use Rattle.glb_run.specs.declared.order.Order.{Order}
use Rattle.glb_run.specs.declared.status.Status.{Status}
use Rattle.glb_run.specs.declared.status.Status.TheVariants as status
use Rattle.glb_run.specs.declared.reading.ReadStop.{ReadStop}
use Rattle.glb_run.specs.declared.reading.ReadStop.TheVariants as read_stop
use Rattle.glb_run.specs.Streams.{Stream, Change, CallRule, IsUntouched, IsOneCall, Reads}
use Rattle.glb_run.specs.Streams.{ReadsAll}
use Rattle.glb_run.specs.Orders.{read_order}
use Rattle.glb_run.specs.Ends.{ReadsSource, HasRead, HasRun, StatusSays, IsTold, limit_of, Ends}
use Rattle.glb_run.specs.FaultText.{fault_text}
use Rattle.glb_run.specs.Jobs.{IsReport, IsReportOf, HasTooManyOf, tree_of, root_of}
use Rattle.glb_run.specs.inner.Stops.{Wrote, Finishes, StopsReading, status_of, order_status}
use Rattle.glb_run.specs.inner.Stops.{read_status, graph_status, knap_status}
use Rattle.glb_run.specs.inner.Tasks.{IsTaskOf, IsPrepared, IsUnprepared, GivesNone}
use Rattle.glb_run.specs.inner.Tasks.{IsTaskReport, StopsTask}

-- a tree, by its fields
pub tree_same : (tree : Uts) (b0 m q seed : ℕ) → tree.b0 ≡ b0 → tree.m ≡ m → tree.q ≡ q
    → tree.seed ≡ seed
    → tree ≡ tree_of b0 m q seed
tree_same tree b0 m q seed e f g h = rw (← e, ← f, ← g, ← h) refl

-- its root, by its fields
pub root_same : (root : Node) (seed : ℕ) → root.descriptor ≡ root_descriptor seed → root.depth ≡ 0
    → root.root ≡ true → root ≡ root_of seed
root_same root seed e f g = rw (← e, ← f, ← g) refl

-- the report of a job's task is the report of the job
task_report : (j : Job) (order : Order) (input : List ℕ) (t : Task) (text : Text)
    → IsTaskOf j input t
    → IsTaskReport t order text → IsReportOf j order input text
task_report (job.Queens n) order input t text is report =
    subst (λ u. IsTaskReport u order text) is report
task_report (job.Uts b0 m q seed) order input t text is report =
    subst (λ u. IsTaskReport u order text) is report
task_report (job.Trial k) order input t text is report =
    subst (λ u. IsTaskReport u order text) is report
task_report job.Dist order input t text is report =
    (is.0, is.1, subst (λ u. IsTaskReport u order text) is.2 report)
task_report job.Knap order input t text is report =
    (is.0, is.1, subst (λ u. IsTaskReport u order text) is.2 report)

-- a task that is too large is that of a job that is
task_large : (j : Job) (order : Order) (input : List ℕ) (t : Task) (items : ℕ) → IsTaskOf j input t
    → StopsTask t order (run_fault.TooMany items) → HasTooManyOf j order input items
task_large (job.Queens n) order input t items is large =
    subst (λ u. StopsTask u order (run_fault.TooMany items)) is large
task_large (job.Uts b0 m q seed) order input t items is large =
    subst (λ u. StopsTask u order (run_fault.TooMany items)) is large
task_large (job.Trial k) order input t items is large =
    subst (λ u. StopsTask u order (run_fault.TooMany items)) is large
task_large job.Dist order input t items is large =
    (is.0, is.1, subst (λ u. StopsTask u order (run_fault.TooMany items)) is.2 large)
task_large job.Knap order input t items is large =
    (is.0, is.1, subst (λ u. StopsTask u order (run_fault.TooMany items)) is.2 large)

-- bytes that were taken one piece after the other
takes_more : (first middle last : Option (List ℕ)) (xs ys : List ℕ) → Takes first middle xs
    → Takes middle last ys → Takes first last (xs ++ ys)
takes_more first middle None xs ys a b = tt
takes_more first None (Some zs) xs ys a b = absurd b
takes_more None (Some ws) (Some zs) xs ys a b = absurd a
takes_more (Some vs) (Some ws) (Some zs) xs ys a b =
    a ∙ ap (λ l. xs ++ l) b ∙ sym (append_assoc xs ys zs)

-- what the job reads is nothing, or all of the source
read_or_not : {S : Type 0} (j : Job) (input : List ℕ) (source : Change S) → HasRead j input source
    → IsUntouched source ⊎ (ReadsSource j × ((bytes : List ℕ) × Reads bytes source))
read_or_not (job.Queens n) input source read = inl read.1
read_or_not (job.Uts b0 m q seed) input source read = inl read.1
read_or_not (job.Trial k) input source read = inl read.1
read_or_not job.Dist input source read = inr (tt, (input, read.reads))
read_or_not job.Knap input source read = inr (tt, (input, read.reads))

-- a read without a fault after others
pub reads_more : {S : Type 0} (first middle last : Stream S) (xs ys : List ℕ)
    → Reads xs (record { before = first; after = middle }) → Takes middle.bytes last.bytes ys
    → last.faults ≡ middle.faults → Reads (xs ++ ys) (record { before = first; after = last })
reads_more first middle last xs ys reads taken same = record {
  taken = takes_more first.bytes middle.bytes last.bytes xs ys reads.taken taken;
  no_fault = same ∙ reads.no_fault;
}

module _ {S K : Type 0} (IsCall : CallRule K) (order : Order) (source : Change S)
    (out : Change K) where
  -- a report that was written, whole or in part
  wrote : (input : List ℕ) (report : Text) (s : Status) → HasRead order.job input source
      → IsReport order input report → Wrote IsCall report out s → HasRun order IsCall source out s
  wrote input report status.Done read is w = (input, read, (report, is, w))
  wrote input report (status.BadWords kind word) read is w = absurd w
  wrote input report status.ReadFault read is w = absurd w
  wrote input report status.TooLong read is w = absurd w
  wrote input report (status.BadGraph kind line) read is w = absurd w
  wrote input report (status.TooMany items) read is w = absurd w
  wrote input report (status.WriteFault taken) read is w = (input, read, (report, is, w))
  wrote input report status.NoMemory read is w = absurd w
  wrote input report (status.BadKnap kind line) read is w = absurd w

  -- a source that was not read to its end
  not_read : (e : ReadStop) → StopsReading e source → ReadsSource order.job → IsUntouched out
      → HasRun order IsCall source out (read_status e)
  not_read read_stop.Fault stops reads same = (reads, same, stops)
  not_read read_stop.TooLong stops reads same = (reads, same, stops)
  not_read read_stop.NoMemory stops reads same = (same, inr (reads, stops))

  -- an input that is no graph text
  no_graph : (input : List ℕ) (fault : GraphFault) → order.job ≡ job.Dist → ReadsAll input source
      → HasTextFault input fault → IsUntouched out
      → HasRun order IsCall source out (graph_status fault)
  no_graph input (graph_fault.BadLine line) is all has same = (is, same, (input, all, has))
  no_graph input (graph_fault.TooLarge line) is all has same = (is, same, (input, all, has))
  no_graph input (graph_fault.BadEnd line) is all has same = (is, same, (input, all, has))
  no_graph input graph_fault.NoMemory is all has same =
      (same, inr (subst ReadsSource (sym is) tt, (input, all.reads)))

  -- an input that is no knapsack text
  no_knap : (input : List ℕ) (fault : GraphFault) → order.job ≡ job.Knap → ReadsAll input source
      → HasKnapFault input fault → IsUntouched out
      → HasRun order IsCall source out (knap_status fault)
  no_knap input (graph_fault.BadLine line) is all has same = (is, same, (input, all, has))
  no_knap input (graph_fault.TooLarge line) is all has same = (is, same, (input, all, has))
  no_knap input (graph_fault.BadEnd line) is all has same = (is, same, (input, all, has))
  no_knap input graph_fault.NoMemory is all has same =
      (same, inr (subst ReadsSource (sym is) tt, (input, all.reads)))

  -- a job that the source gave nothing for
  given_none : (j : Job) (s : Status) → order.job ≡ j → GivesNone j source s → IsUntouched out
      → HasRun order IsCall source out s
  given_none (job.Queens n) s is none same = absurd none
  given_none (job.Uts b0 m q seed) s is none same = absurd none
  given_none (job.Trial k) s is none same = absurd none
  given_none job.Dist s is none same =
      ⊎_elim (λ stops. subst (HasRun order IsCall source out) (sym stops.2)
      (not_read stops.0 stops.1 (subst ReadsSource (sym is) tt) same))
      (λ bad. subst (HasRun order IsCall source out) (sym bad.4)
      (no_graph bad.0 bad.1 is bad.2 bad.3 same)) none
  given_none job.Knap s is none same =
      ⊎_elim (λ stops. subst (HasRun order IsCall source out) (sym stops.2)
      (not_read stops.0 stops.1 (subst ReadsSource (sym is) tt) same))
      (λ bad. subst (HasRun order IsCall source out) (sym bad.4)
      (no_knap bad.0 bad.1 is bad.2 bad.3 same)) none

  -- an order whose task was not prepared
  pub unprepared : (s : Status) → IsUnprepared order source s → IsUntouched out
      → HasRun order IsCall source out s
  unprepared s none same = given_none order.job s refl none same

  -- a run that ended early
  ended : (t : Task) → IsPrepared order source t → (fault : RunFault) → StopsTask t order fault
      → IsUntouched out
      → HasRun order IsCall source out (status_of fault)
  ended t p (run_fault.TooMany items) stops same =
      (same, (p.input, p.read, task_large order.job order p.input t items p.task_is stops))
  ended t p run_fault.NoMemory stops same = (same, read_or_not order.job p.input source p.read)

  -- a task that was run, and the writing of its report
  pub finished : {Bytes : Type 0} (items_of : Bytes → Text) (t : Task) → IsPrepared order source t
      → (r : Result Bytes RunFault) → IfOk r (λ bytes. IsTaskReport t order (items_of bytes))
      → IfErr r (StopsTask t order) → (s : Status) → Finishes IsCall items_of r out s
      → HasRun order IsCall source out s
  finished items_of t p (Ok bytes) report stops s done =
      wrote p.input (items_of bytes) s p.read
      (task_report order.job order p.input t (items_of bytes) p.task_is report) done
  finished items_of t p (Err fault) report stops s done =
      subst (HasRun order IsCall source out) (sym done.0) (ended t p fault stops done.1)

  -- an order that was carried out is what the words say
  pub caused : (read : Result Order WordFault) → read ≡ Ok order → (s : Status)
      → HasRun order IsCall source out s → StatusSays read IsCall source out s
  caused read e status.Done run = (order, e, run)
  caused read e (status.BadWords kind word) run = absurd run
  caused read e status.ReadFault run = (order, e, run)
  caused read e status.TooLong run = (order, e, run)
  caused read e (status.BadGraph kind line) run = (order, e, run)
  caused read e (status.TooMany items) run = (order, e, run)
  caused read e (status.WriteFault taken) run = (order, e, run)
  caused read e (status.BadKnap kind line) run = (order, e, run)
  caused read e status.NoMemory run =
      (run.0, ⊎_elim (λ same. inl same) (λ reads. inr (order, e, (run.0, inr reads))) run.1)

module _ {E : Type 0} (IsCall : CallRule E) (err : Change E) where
  -- what was told of a refusal
  pub told_fault : (limit : ℕ) (s : Status) → s ≢ status.Done
      → IsOneCall IsCall (fault_text limit s) err
      → IsTold limit IsCall err s
  told_fault limit status.Done other tells = absurd (other refl)
  told_fault limit (status.BadWords kind word) other tells = tells
  told_fault limit status.ReadFault other tells = tells
  told_fault limit status.TooLong other tells = tells
  told_fault limit (status.BadGraph kind line) other tells = tells
  told_fault limit (status.TooMany items) other tells = tells
  told_fault limit (status.WriteFault taken) other tells = tells
  told_fault limit status.NoMemory other tells = tells
  told_fault limit (status.BadKnap kind line) other tells = tells

  -- one call of a sink with a text tells it, whatever comes of it
  pub told_line : {F : Type 0} (piece text : Text) → piece ≡ text → (r : Result (Unit {0}) (F × ℕ))
      → IsCall err.before.state piece err.after.state
      → OnOk r (Gives err.before.bytes err.after.bytes piece)
      → IfErr r (λ e. Gives err.before.bytes err.after.bytes (take e.1 piece))
      → IfErr r (λ e. e.1 ≤ length piece) → OnErr r (Rose err.before.faults err.after.faults)
      → OnOk r (err.after.faults ≡ err.before.faults) → IsOneCall IsCall text err
  told_line piece text e (Ok u) called whole part within cause calm =
      subst (λ t. IsOneCall IsCall t err) e
      (inl (record { called = called; given = whole; no_fault = calm }))
  told_line piece text e (Err f) called whole part within cause calm =
      subst (λ t. IsOneCall IsCall t err) e
      (inr (f.1, record { called = called; given = part; within = within; rose = cause }))

module _ {S K E : Type 0} (OutCall : CallRule K) (ErrCall : CallRule E) (calm : Bool)
    (words : List Text) (source : Change S) (out : Change K) (err : Change E) where
  -- an order that was carried out, and what was told of it
  pub ended_order : (order : Order) → read_order calm words ≡ Ok order → (s r : Status)
      → HasRun order OutCall source out s → r ≡ s → IsTold order.params.limit ErrCall err s
      → Ends calm words OutCall ErrCall source out err r
  ended_order order ok s r run same told =
      let read = read_order calm words in
      record {
        cause = caused OutCall order source out read ok r
            (subst (HasRun order OutCall source out) (sym same) run);
        told = subst (IsTold (limit_of read) ErrCall err) (sym same)
            (subst (λ limit. IsTold limit ErrCall err s) (sym (ap limit_of ok)) told);
      }

  -- words that gave no order, and what was told of them
  pub ended_words : (fault : OrderFault) → IsFaultOf (read_order calm words) fault
      → IsUntouched source → IsUntouched out → (r : Status) → r ≡ order_status fault
      → IsTold 0 ErrCall err r → Ends calm words OutCall ErrCall source out err r
  ended_words (order_fault.Bad fault) is untouched untouched' r same told =
      let read = read_order calm words in
      subst (Ends calm words OutCall ErrCall source out err) (sym same) (record {
        cause = (is, untouched, untouched');
        told = subst (λ limit. IsTold limit ErrCall err (order_status (order_fault.Bad fault)))
            (sym (ap limit_of is)) (subst (IsTold 0 ErrCall err) same told);
      })
  ended_words order_fault.NoMemory is untouched untouched' r same told =
      subst (Ends calm words OutCall ErrCall source out err) (sym same) (record {
        cause = (untouched', inl untouched);
        told = subst (IsTold 0 ErrCall err) same told;
      })
