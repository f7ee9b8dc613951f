use Rattle.std.proofs.Common.{◌≡◌, ◌∙◌, ℕ, Option, None, length, replicate, refl, ap, arith}
use Rattle.std.proofs.lemmas.Result.{IfOk-from_err}
use Rattle.pr_net.specs.Whole.{shape_of}
use Rattle.pr_place.proofs.Ending.{opens_first}
use Rattle.pr_place.proofs.course.begin.Goals as goal

pub returns : goal.returns
returns g c =
    let net = shape_of c.args.net.now in
    let left : c.len-2.result ≡ length net.groups = (let e = c.len-2.ensures in omega (arith, e)) in
    let all : c.len.result ≡ length net.groups = (let e = c.len.ensures in omega (arith, e)) in
    let stages : c.in_ok-stages.stages.items ≡ replicate (length net.groups) None = c.in_ok-stages.ensures ∙ ap (λ (n : ℕ). replicate {A = Option ℕ} n None) all in
    opens_first g.row.N g.row.P net c.args.tables.now c.in_ok-start.start _ c.requires.tables c.in_ok-start.ensures refl left refl refl refl refl stages

pub returns-in_err-stages : goal.returns-in_err-stages
returns-in_err-stages g c = IfOk-from_err _ _ c.from_residual.ensures.0

pub returns-in_err-start : goal.returns-in_err-start
returns-in_err-start g c = IfOk-from_err _ _ c.from_residual-in_err-start.ensures.0
