use Rattle.std.proofs.Common.{ap, ap₂, ◌∙◌, ◌++◌, ◌∷◌, [], List, ℕ, codes, decimal}
use Rattle.std.proofs.lemmas.Result.{IfOk-from_err}
use Rattle.pr_tool_modes.specs.Generations.{summary}
use Rattle.pr_tool_modes.proofs.GenLemmas.{stages_are}
use Rattle.pr_tool_modes.proofs.generations.summary_of.Goals as goal

pub returns : goal.returns
unfolding summary
returns g c = λ conf stripes history stands.
    (let stages = c.stages.ensures ∙ stages_are c.conf.result.now conf (c.conf.ensures.told conf stripes history stands) in
    let time = c.time.ensures.told conf stripes history stands in
    let p1 = c.in_ok-put.ensures ∙ ap₂ (λ (t : List ℕ) (n : ℕ). t ++ (codes "k " ++ decimal n)) c.new-text.ensures.items c.from.ensures in
    let p2 = c.in_ok-put-2.ensures ∙ ap (λ (t : List ℕ). t ++ (codes " units " ++ decimal c.args.units)) p1 in
    let p3 = c.in_ok-put-3.ensures ∙ ap₂ (λ (t : List ℕ) (n : ℕ). t ++ (codes " stages " ++ decimal n)) p2 stages in
    let p4 = c.in_ok-put-4.ensures ∙ ap₂ (λ (t : List ℕ) (n : ℕ). t ++ (codes " samples 1000 cycles " ++ decimal n)) p3 time in
    let p5 = c.in_ok-extend_from_slice.ensures.items ∙ ap (λ (t : List ℕ). t ++ codes " first ") p4 in
    let p6 = c.in_ok-extend_from_slice-2.ensures.items ∙ ap₂ (λ (t x : List ℕ). t ++ x) p5 c.first_line.ensures in
    let p7 = c.in_ok-extend_from_slice-3.ensures.items ∙ ap (λ (t : List ℕ). t ++ codes " last ") p6 in
    let p8 = c.in_ok-extend_from_slice-4.ensures.items ∙ ap₂ (λ (t x : List ℕ). t ++ x) p7 (c.deref.ensures.value ∙ c.in_ok-last_line.ensures) in
    c.in_ok-push.ensures.items ∙ ap (λ (t : List ℕ). t ++ 10 ∷ []) p8)

pub returns-in_err-put : goal.returns-in_err-put
returns-in_err-put g c = IfOk-from_err _ _ c.from_residual.ensures.0

pub returns-in_err-put-2 : goal.returns-in_err-put-2
returns-in_err-put-2 g c = IfOk-from_err _ _ c.from_residual-in_err-put-2.ensures.0

pub returns-in_err-put-3 : goal.returns-in_err-put-3
returns-in_err-put-3 g c = IfOk-from_err _ _ c.from_residual-in_err-put-3.ensures.0

pub returns-in_err-put-4 : goal.returns-in_err-put-4
returns-in_err-put-4 g c = IfOk-from_err _ _ c.from_residual-in_err-put-4.ensures.0

pub returns-in_err-extend_from_slice : goal.returns-in_err-extend_from_slice
returns-in_err-extend_from_slice g c = IfOk-from_err _ _ c.from_residual-in_err-extend_from_slice.ensures.0

pub returns-in_err-extend_from_slice-2 : goal.returns-in_err-extend_from_slice-2
returns-in_err-extend_from_slice-2 g c = IfOk-from_err _ _ c.from_residual-in_err-extend_from_slice-2.ensures.0

pub returns-in_err-extend_from_slice-3 : goal.returns-in_err-extend_from_slice-3
returns-in_err-extend_from_slice-3 g c = IfOk-from_err _ _ c.from_residual-in_err-extend_from_slice-3.ensures.0

pub returns-in_err-last_line : goal.returns-in_err-last_line
returns-in_err-last_line g c = IfOk-from_err _ _ c.from_residual-in_err-last_line.ensures.0

pub returns-in_err-extend_from_slice-4 : goal.returns-in_err-extend_from_slice-4
returns-in_err-extend_from_slice-4 g c = IfOk-from_err _ _ c.from_residual-in_err-extend_from_slice-4.ensures.0

pub returns-in_err-push : goal.returns-in_err-push
returns-in_err-push g c = IfOk-from_err _ _ c.from_residual-in_err-push.ensures.0
