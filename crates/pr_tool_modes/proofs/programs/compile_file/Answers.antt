use Rattle.std.proofs.lemmas.Result.{IfOk-from_err}
use Rattle.pr_tool_modes.proofs.programs.compile_file.Goals as goal

pub returns-in_err-made-in-Base-clause-compiled : goal.returns-in_err-made-in-Base-clause-compiled
returns-in_err-made-in-Base-clause-compiled g c = IfOk-from_err _ _ c.from_residual.ensures.0

pub returns-in_err-made-in-Base-clause-units : goal.returns-in_err-made-in-Base-clause-units
returns-in_err-made-in-Base-clause-units g c = IfOk-from_err _ _ c.from_residual.ensures.0

pub returns-in_err-made-in-Wide-clause-compiled : goal.returns-in_err-made-in-Wide-clause-compiled
returns-in_err-made-in-Wide-clause-compiled g c = IfOk-from_err _ _ c.from_residual-in_err-made-in-Wide.ensures.0

pub returns-in_err-made-in-Wide-clause-units : goal.returns-in_err-made-in-Wide-clause-units
returns-in_err-made-in-Wide-clause-units g c = IfOk-from_err _ _ c.from_residual-in_err-made-in-Wide.ensures.0
