use Rattle.std.proofs.lemmas.Result.{IfOk-from_err}
use Rattle.pr_lens_items.proofs.cut_items.cut_item.Goals as goal

pub returns-in_err-copy-in-Input : goal.returns-in_err-copy-in-Input
returns-in_err-copy-in-Input c = IfOk-from_err _ _ c.from_residual.ensures.0

pub returns-in_err-name-in-Function : goal.returns-in_err-name-in-Function
returns-in_err-name-in-Function c = IfOk-from_err _ _ c.from_residual-in_err-name-in-Function.ensures.0

pub returns-in_err-params-in-Function : goal.returns-in_err-params-in-Function
returns-in_err-params-in-Function c = IfOk-from_err _ _ c.from_residual-in_err-params-in-Function.ensures.0

pub returns-in_err-steps-in-Function : goal.returns-in_err-steps-in-Function
returns-in_err-steps-in-Function c = IfOk-from_err _ _ c.from_residual-in_err-steps-in-Function.ensures.0

pub returns-in_err-step-in-Step : goal.returns-in_err-step-in-Step
returns-in_err-step-in-Step c = IfOk-from_err _ _ c.from_residual-in_err-step-in-Step.ensures.0
