use Rattle.std.proofs.lemmas.Result.{IfOk-from_err, err_from_is_err_and}
use Rattle.pr_lens_bench.proofs.BenchLemmas.{cut_memory}
use Rattle.pr_lens_bench.proofs.benches.lines_of.Goals as goal

pub returns-in_err-sample-clause-lines : goal.returns-in_err-sample-clause-lines
returns-in_err-sample-clause-lines g c = IfOk-from_err _ _ c.from_residual.ensures.0

pub returns-in_err-sample-clause-short : goal.returns-in_err-sample-clause-short
returns-in_err-sample-clause-short g c = IfOk-from_err _ _ c.from_residual.ensures.0

pub returns-in_err-sample-clause-there : goal.returns-in_err-sample-clause-there
returns-in_err-sample-clause-there g c = IfOk-from_err _ _ c.from_residual.ensures.0

pub returns-in_err-sample-clause-cause : goal.returns-in_err-sample-clause-cause
returns-in_err-sample-clause-cause g c = IfOk-from_err _ _ c.from_residual.ensures.0

pub returns-in_err-sample-clause-cut : goal.returns-in_err-sample-clause-cut
returns-in_err-sample-clause-cut g c = cut_memory _ _ _ _ _ c.from_residual.result (err_from_is_err_and c.from_residual.result c.from_residual.ensures.1)

pub returns-in_err-sample-clause-steady : goal.returns-in_err-sample-clause-steady
returns-in_err-sample-clause-steady g c = IfOk-from_err _ _ c.from_residual.ensures.0

pub returns-in_err-row-clause-steady : goal.returns-in_err-row-clause-steady
returns-in_err-row-clause-steady g c = IfOk-from_err _ _ c.from_residual-in_err-row.ensures.0

pub returns-in_err-row-clause-lines : goal.returns-in_err-row-clause-lines
returns-in_err-row-clause-lines g c = IfOk-from_err _ _ c.from_residual-in_err-row.ensures.0

pub returns-in_err-row-clause-short : goal.returns-in_err-row-clause-short
returns-in_err-row-clause-short g c = IfOk-from_err _ _ c.from_residual-in_err-row.ensures.0

pub returns-in_err-row-clause-there : goal.returns-in_err-row-clause-there
returns-in_err-row-clause-there g c = IfOk-from_err _ _ c.from_residual-in_err-row.ensures.0

pub returns-in_err-row-clause-cause : goal.returns-in_err-row-clause-cause
returns-in_err-row-clause-cause g c = IfOk-from_err _ _ c.from_residual-in_err-row.ensures.0

pub returns-in_err-row-clause-cut : goal.returns-in_err-row-clause-cut
returns-in_err-row-clause-cut g c = cut_memory _ _ _ _ _ c.from_residual-in_err-row.result (err_from_is_err_and c.from_residual-in_err-row.result c.from_residual-in_err-row.ensures.1)
