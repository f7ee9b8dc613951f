use Rattle.std.proofs.lemmas.Result.{IfOk-from_err}
use Rattle.pr_lens_wave.proofs.changes.put_cycle.Goals as goal

pub returns-in_err-put_time-clause-cycle : goal.returns-in_err-put_time-clause-cycle
returns-in_err-put_time-clause-cycle c = IfOk-from_err _ _ c.from_residual.ensures.0

pub returns-in_err-show_stripes-clause-cycle : goal.returns-in_err-show_stripes-clause-cycle
returns-in_err-show_stripes-clause-cycle c = IfOk-from_err _ _ c.from_residual-in_err-show_stripes.ensures.0
