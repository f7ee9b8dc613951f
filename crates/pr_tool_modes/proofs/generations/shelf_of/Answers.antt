use Rattle.std.proofs.lemmas.Result.{IfOk-from_err}
use Rattle.pr_tool_modes.proofs.generations.shelf_of.Goals as goal

pub returns-in_err-program : goal.returns-in_err-program
returns-in_err-program c = IfOk-from_err _ _ c.from_residual.ensures.0

pub returns-in_err-samples : goal.returns-in_err-samples
returns-in_err-samples c = IfOk-from_err _ _ c.from_residual-in_err-samples.ensures.0

pub returns-in_err-first : goal.returns-in_err-first
returns-in_err-first c = IfOk-from_err _ _ c.from_residual-in_err-first.ensures.0

pub returns-in_err-second : goal.returns-in_err-second
returns-in_err-second c = IfOk-from_err _ _ c.from_residual-in_err-second.ensures.0

pub returns-in_err-files : goal.returns-in_err-files
returns-in_err-files c = IfOk-from_err _ _ c.from_residual-in_err-files.ensures.0
