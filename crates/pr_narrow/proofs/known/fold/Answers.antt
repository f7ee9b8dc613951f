use Rattle.std.proofs.Common.{◌≡◌, ℕ, Option, List, length, arith, sym, subst, ap, ap₂, ◌∙◌}
use Rattle.std.proofs.lemmas.Result.{IfOk-from_err}
use Rattle.pr_flat.specs.declared.equations.Equation.{Equation}
use Rattle.pr_flat.specs.declared.equations.Operand.{Operand}
use Rattle.pr_flat.specs.Facts.{IsFlat}
use Rattle.pr_flat.specs.Shape.{EquationShape, shapes_of}
use Rattle.pr_narrow.specs.Known.{folded_by, folded}
use Rattle.pr_narrow.proofs.BodyLemmas.{shapes_length}
use Rattle.pr_narrow.proofs.FoldedFlat.{length-known_of, folded_flat}
use Rattle.pr_narrow.proofs.known.fold.Goals as goal

pub fold_known-requires-clause-known : goal.fold_known-requires-clause-known
fold_known-requires-clause-known c =
    let known = ap (λ (ks : List (Option ℕ)). length ks) (c.deref-2.ensures.value ∙ c.in_ok-known.ensures) in
    let count = length-known_of (shapes_of c.args.flat.now.equations.items) c.args.widths.now in
    omega (arith, known, count, shapes_length c.args.flat.now.equations.items, c.deref.ensures.len, c.args.flat.now.equations.ok.0)

pub invariant_of-result : goal.invariant_of-result
invariant_of-result c =
    let S = shapes_of c.args.flat.now.equations.items in
    let W = c.args.widths.now in
    let known = c.deref-2.ensures.value ∙ c.in_ok-known.ensures in
    let made : shapes_of c.in_ok-equations.equations.items ≡ folded S W = c.in_ok-equations.ensures ∙ ap₂ (λ (ks : List (Option ℕ)) (es : List Equation). folded_by ks W (shapes_of es)) known c.deref.ensures.value in
    let given = c.in_ok-outputs.ensures ∙ c.deref-3.ensures.value in
    let P : List EquationShape → Type 0 = λ es. IsFlat es c.in_ok-outputs.outputs.items in
    let Q : List Operand → Type 0 = λ os. IsFlat (folded S W) os in
    record { lawful = subst P (sym made) (subst Q (sym given) (folded_flat S c.args.flat.now.outputs.items W c.args.flat.now.lawful c.requires)) }

pub returns-in_err-known : goal.returns-in_err-known
returns-in_err-known c = let h = c.from_residual.ensures.0 in record { folded = IfOk-from_err _ _ h; outputs = IfOk-from_err _ _ h }

pub returns-in_err-equations : goal.returns-in_err-equations
returns-in_err-equations c = let h = c.from_residual-in_err-equations.ensures.0 in record { folded = IfOk-from_err _ _ h; outputs = IfOk-from_err _ _ h }

pub returns-in_err-outputs : goal.returns-in_err-outputs
returns-in_err-outputs c = let h = c.from_residual-in_err-outputs.ensures.0 in record { folded = IfOk-from_err _ _ h; outputs = IfOk-from_err _ _ h }
