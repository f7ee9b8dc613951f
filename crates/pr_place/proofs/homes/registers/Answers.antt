use Rattle.std.proofs.Common.{◌≡◌, ◌+◌, ◌∙◌, ℕ, List, [], ◌∷◌, ◌++◌, sym, ap, ap₂, arith}
use Rattle.std.proofs.lemmas.Result.{IfOk-from_err}
use Rattle.std.proofs.lemmas.List.FromFn.{map-range_with_len_more}
use Rattle.pr_place.specs.Registers.{spotted}
use Rattle.pr_place.proofs.homes.registers.Goals as goal

pub loop-i-preserved : goal.loop-i-preserved
loop-i-preserved c =
    let i = c.loop-i.i in
    let z : 0 + i ≡ i = omega arith in
    c.in_ok-push.ensures.items ∙ ap₂ (λ (xs : List ℕ) (x : ℕ). xs ++ x ∷ []) c.loop-i.invariant (ap (λ (q : ℕ × ℕ). q.1) c.spot-reg.ensures)
    ∙ sym (map-range_with_len_more (λ (k : ℕ). (spotted c.args.progress.now.spots (c.args.from + k)).1) 0 i i z)

pub returns-in_err-regs : goal.returns-in_err-regs
returns-in_err-regs c = IfOk-from_err _ _ c.from_residual.ensures.0

pub returns-in_err-push : goal.returns-in_err-push
returns-in_err-push c = IfOk-from_err _ _ c.from_residual-in_err-push.ensures.0
