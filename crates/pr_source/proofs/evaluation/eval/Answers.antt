use Rattle.std.proofs.Common.{◌≡◌, ◌+◌, ℕ, List, [], ◌∷◌, ◌++◌, map, reverse, take, ap, ap₂, subst, sym, ◌∙◌, arith}
use Rattle.std.proofs.lemmas.Result.{IfOk-from_err}
use Rattle.std.proofs.lemmas.List.{map-append, take_at, take_more}
use Rattle.pr_flat.specs.Shape.{shapes_of}
use Rattle.pr_flat.specs.Values.{row_of, rows_of}
use Rattle.pr_source.specs.Outputs.{given}
use Rattle.pr_source.specs.Standing.{Stands}
use Rattle.pr_source.proofs.Latest.{rows_of-more}
use Rattle.pr_source.proofs.evaluation.eval.Goals as goal

pub loop-sample-preserved : goal.loop-sample-preserved
loop-sample-preserved c =
    let equations = shapes_of c.args.flat.now.equations.items in
    let outputs = c.args.flat.now.outputs.items in
    let widths = c.args.widths.now in
    let samples = c.args.samples.now in
    let i = c.loop-sample.sample-index in
    let sample = c.numbers.result.now in
    let before = take i samples in
    let rows = rows_of equations widths before in
    let row = row_of equations widths (reverse rows) sample in
    let stands = c.loop-sample.invariant.stands in
    let more : take (i + 1) samples ≡ before ++ sample ∷ [] = take_more samples i c.sample-item.result (omega arith) ∙ ap (λ (x : List ℕ). before ++ x ∷ []) (sym c.sample-item.is ∙ sym c.numbers.ensures) in
    record {
      stands = subst (λ (xs : List (List ℕ)). Stands equations widths xs c.next.new.self) (sym more) (c.next.ensures.stands before stands);
      rows = c.in_ok-push.ensures.items
          ∙ (ap₂ (λ (rs : List (List ℕ)) (r : List ℕ). rs ++ r ∷ []) c.loop-sample.invariant.rows (c.new-in-loop-sample.ensures ∙ (take_at c.next.new.into _ c.in_ok-row.row.len (omega (arith, c.next.auto.into, c.deref_mut.ensures.len)) ∙ c.next.ensures.given before stands))
          ∙ (sym (map-append (given equations outputs) rows (row ∷ [])) ∙ ap (map (given equations outputs)) (sym (ap (rows_of equations widths) more ∙ rows_of-more equations widths before sample))));
    }

pub returns-in_err-evaluator : goal.returns-in_err-evaluator
returns-in_err-evaluator c = IfOk-from_err _ _ c.from_residual.ensures.0

pub returns-in_err-row : goal.returns-in_err-row
returns-in_err-row c = IfOk-from_err _ _ c.from_residual-in_err-row.ensures.0

pub returns-in_err-push : goal.returns-in_err-push
returns-in_err-push c = IfOk-from_err _ _ c.from_residual-in_err-push.ensures.0
