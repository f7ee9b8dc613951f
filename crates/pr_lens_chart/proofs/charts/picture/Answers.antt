use Rattle.std.proofs.lemmas.Result.{IfOk-from_err}
use Rattle.pr_lens_chart.proofs.charts.picture.Goals as goal

pub returns-in_err-put_head : goal.returns-in_err-put_head
returns-in_err-put_head c = IfOk-from_err _ _ c.from_residual.ensures.0

pub returns-in_err-put_names : goal.returns-in_err-put_names
returns-in_err-put_names c = IfOk-from_err _ _ c.from_residual-in_err-put_names.ensures.0

pub returns-in_err-put_cycles : goal.returns-in_err-put_cycles
returns-in_err-put_cycles c = IfOk-from_err _ _ c.from_residual-in_err-put_cycles.ensures.0

pub returns-in_err-put_legend : goal.returns-in_err-put_legend
returns-in_err-put_legend c = IfOk-from_err _ _ c.from_residual-in_err-put_legend.ensures.0

pub returns-in_err-put_end : goal.returns-in_err-put_end
returns-in_err-put_end c = IfOk-from_err _ _ c.from_residual-in_err-put_end.ensures.0
