use Rattle.std.proofs.Common.{◌≡◌, ◌∙◌, ◌+◌, ℕ, List, [], ◌∷◌, ◌++◌, length, take, subst, sym, ap, arith}
use Rattle.std.specs.List.{All}
use Rattle.std.proofs.Math.Seq.{take-length}
use Rattle.std.proofs.lemmas.List.{take_more}
use Rattle.std.proofs.lemmas.List.Elements.{All-push, All-same}
use Rattle.pr_base.specs.Rows.{IsRow}
use Rattle.pr_source_tests.proofs.tests.are_rows.Goals as goal

pub loop-row-preserved : goal.loop-row-preserved
loop-row-preserved c =
    let rows = c.args.rows.now in
    let widths = c.args.widths.now in
    let i = c.loop-row.row-index in
    let row = c.row-item.result in
    let more : take (i + 1) rows ≡ take i rows ++ row ∷ [] = take_more rows i row (omega arith) ∙ ap (λ (x : List ℕ). take i rows ++ x ∷ []) (sym c.row-item.is) in
    All-same (IsRow widths) (take (i + 1) rows) (take i rows ++ row ∷ []) more (All-push (IsRow widths) (take i rows) row c.loop-row.invariant (c.is_row.ensures c.if-not-is_row.false))

pub returns : goal.returns
returns c _ =
    let rows = c.args.rows.now in
    let all : c.loop-row.row-index ≡ length rows = omega arith in
    subst (All (IsRow c.args.widths.now)) (ap (λ (k : ℕ). take k rows) all ∙ take-length rows) c.loop-row.invariant
