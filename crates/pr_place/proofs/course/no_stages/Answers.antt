use Rattle.std.proofs.Common.{◌≡◌, ◌+◌, ◌∙◌, ℕ, suc, List, [], ◌∷◌, ◌++◌, Option, None, replicate, ap, arith}
use Rattle.std.proofs.lemmas.Result.{IfOk-from_err}
use Rattle.pr_place.proofs.Ending.{one_none_more}
use Rattle.pr_place.proofs.course.no_stages.Goals as goal

pub loop-group-preserved : goal.loop-group-preserved
loop-group-preserved c =
    let e : suc c.loop-group.group ≡ c.loop-group.group + 1 = omega arith in
    c.in_ok-push.ensures.items ∙ ap (λ (os : List (Option ℕ)). os ++ None ∷ []) c.loop-group.invariant ∙ one_none_more c.loop-group.group ∙ ap (λ (n : ℕ). replicate {A = Option ℕ} n None) e

pub returns-in_err-stages : goal.returns-in_err-stages
returns-in_err-stages c = IfOk-from_err _ _ c.from_residual.ensures.0

pub returns-in_err-push : goal.returns-in_err-push
returns-in_err-push c = IfOk-from_err _ _ c.from_residual-in_err-push.ensures.0
