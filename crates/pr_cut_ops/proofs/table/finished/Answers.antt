use Rattle.pr_cut_ops.proofs.LastCalls.{none_made}
use Rattle.pr_cut_ops.proofs.table.finished.Goals as goal

pub returns-in_err-wide : goal.returns-in_err-wide
returns-in_err-wide c = none_made _ _ _ _ _ c.from_residual.ensures.0

pub returns-in_err-all : goal.returns-in_err-all
returns-in_err-all c = none_made _ _ _ _ _ c.from_residual-in_err-all.ensures.0
