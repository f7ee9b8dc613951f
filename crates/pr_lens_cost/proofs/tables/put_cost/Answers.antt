use Rattle.std.proofs.Common.{◌≡◌, ◌++◌, ◌∙◌, ℕ, List, length, ap, ap₂, subst, arith}
use Rattle.std.proofs.lemmas.Result.{IfOk-from_err}
use Rattle.pr_lens_shares.specs.declared.shares.Share.{Share}
use Rattle.pr_lens_cost.specs.declared.counts.StageCost.{StageCost}
use Rattle.pr_lens_cost.specs.declared.cycles.Row.{Row}
use Rattle.pr_lens_cost.specs.Texts.{IsFullest, amounts_text, fullest_text, streams_text, stages_text, runs_text, rows_for}
use Rattle.pr_lens_cost.proofs.tables.put_cost.Goals as goal

pub returns-in_err-put_amounts : goal.returns-in_err-put_amounts
returns-in_err-put_amounts c = IfOk-from_err _ _ c.from_residual.ensures.0

pub returns-in_err-put_fullest : goal.returns-in_err-put_fullest
returns-in_err-put_fullest c = IfOk-from_err _ _ c.from_residual-in_err-put_fullest.ensures.0

pub returns-in_err-put_streams : goal.returns-in_err-put_streams
returns-in_err-put_streams c = IfOk-from_err _ _ c.from_residual-in_err-put_streams.ensures.0

pub returns-in_err-put_stages : goal.returns-in_err-put_stages
returns-in_err-put_stages c = IfOk-from_err _ _ c.from_residual-in_err-put_stages.ensures.0

pub returns-in_err-rows : goal.returns-in_err-rows
returns-in_err-rows c = IfOk-from_err _ _ c.from_residual-in_err-rows.ensures.0

pub returns-in_err-put_runs : goal.returns-in_err-put_runs
returns-in_err-put_runs c = IfOk-from_err _ _ c.from_residual-in_err-put_runs.ensures.0

pub returns : goal.returns
returns c =
    let cost = c.args.cost.now in
    let stages = cost.stages.items in
    let shown = c.fullest-number.result in
    let count : c.len.result ≡ length stages = omega (arith, c.len.ensures, cost.stages.ok.0) in
    let rows = c.deref-4.ensures.value ∙ c.in_ok-rows.ensures ∙ ap (λ (n : ℕ). rows_for n c.args.samples) count in
    let amounts = c.in_ok-put_amounts.ensures ∙ ap (λ (t : List ℕ). t ++ amounts_text cost.equations cost.units (length stages) c.args.savings) c.new-text.ensures.items in
    let fullest = c.in_ok-put_fullest.ensures ∙ ap (λ (t : List ℕ). t ++ fullest_text shown.0 shown.1 c.args.columns) amounts in
    let streams = c.in_ok-put_streams.ensures ∙ ap₂ (λ (t : List ℕ) (ss : List Share). t ++ streams_text ss) fullest c.deref-2.ensures.value in
    let lines = c.in_ok-put_stages.ensures ∙ ap₂ (λ (t : List ℕ) (ss : List StageCost). t ++ stages_text ss) streams c.deref-3.ensures.value in
    record {
      number = shown.0;
      cells = shown.1;
      fullest = subst (λ (ss : List StageCost). IsFullest ss shown.0 shown.1) c.deref.ensures.value c.fullest-number.ensures;
      is = c.in_ok-put_runs.ensures ∙ ap₂ (λ (t : List ℕ) (rs : List Row). t ++ runs_text c.args.samples rs) lines rows;
    }
