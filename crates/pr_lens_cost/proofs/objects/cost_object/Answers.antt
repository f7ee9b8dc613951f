use Rattle.std.proofs.Common.{◌≡◌, ◌++◌, ◌∙◌, ℕ, List, length, ap, subst, arith}
use Rattle.pr_lens_cost.specs.declared.counts.StageCost.{StageCost}
use Rattle.pr_lens_cost.specs.declared.cycles.Row.{Row}
use Rattle.pr_lens_cost.specs.Objects.{fullest_member, lists_text, other_way, run_text, setting_text, sums_text}
use Rattle.pr_lens_cost.specs.Texts.{IsFullest, rows_for}
use Rattle.pr_lens_cost.proofs.TextLemmas.{object_put}
use Rattle.pr_lens_cost.proofs.objects.cost_object.Goals as goal

pub returns : goal.returns
returns c =
    let cost = c.args.cost.now in
    let setting = c.args.setting.now in
    let shown = c.fullest.result in
    let count : c.len.result ≡ length cost.stages.items = omega (arith, c.len.ensures, cost.stages.ok.0) in
    let rows = c.deref-2.ensures.value ∙ c.in_ok-rows.ensures ∙ ap (λ (n : ℕ). rows_for n setting.samples) count in
    let run = c.in_ok-put_run.ensures ∙ ap (λ (rs : List Row). c.put_lists.new.text.items ++ run_text setting.samples rs) rows in
    record {
      number = shown.0;
      cells = shown.1;
      fullest = subst (λ (ss : List StageCost). IsFullest ss shown.0 shown.1) c.deref.ensures.value c.fullest.ensures;
      is = object_put (setting_text setting) (sums_text cost.equations cost.units) (other_way c.args.savings) (fullest_member shown.0 shown.1) (lists_text cost) (run_text setting.samples (rows_for (length cost.stages.items) setting.samples))
          c.new-text.ensures.items c.in_ok-put_setting.ensures c.in_ok-put_totals.ensures c.in_ok-put_lists.ensures run;
    }
