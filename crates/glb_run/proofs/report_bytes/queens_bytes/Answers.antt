use Rattle.std.proofs.Common.{◌++◌, ap, ◌∙◌, ℕ, List}
use Rattle.std.proofs.lemmas.Result.{IfOk-weaker}
use Rattle.glb_run.specs.Reports.{queens_text, counters_text}
use Rattle.glb_run.proofs.report_bytes.queens_bytes.Goals as goal

pub returns-clause-report : goal.returns-clause-report
returns-clause-report c =
    let order = c.args.order.now in
    let run = c.args.run.report in
    let text : List ℕ → List ℕ = λ r. queens_text c.args.n order.spread r run.items run.value in
    let given = c.as_slice-roots in
    let told = c.as_slice-counters in
    IfOk-weaker c.with_counters.result _ _
    (λ bytes whole.
    record {
      items = run.items;
      answer = run.value;
      counters = run.counters.items;
      run = c.requires.run;
      roots = c.args.run.roots.items;
      roots_are = c.requires.roots_are;
      whole = whole
          ∙ ap (λ r. text r ++ counters_text order.stats order.spread r told.result.now)
          given.ensures.value
          ∙ ap (λ k. text c.args.run.roots.items
          ++ counters_text order.stats order.spread c.args.run.roots.items k)
          told.ensures.value;
    })
    (c.with_counters.ensures.bytes (text given.result.now) c.queens_lines-lines.ensures)
