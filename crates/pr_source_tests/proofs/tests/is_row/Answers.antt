use Rattle.std.proofs.Common.{◌≡◌, ◌^◌, ◌<◌, ℕ, List, length, get_or, subst, sym, ap, ⊎_elim, arith}
use Rattle.std.proofs.lemmas.Bool.{cases_lt}
use Rattle.pr_base.specs.Rows.{IsRow}
use Rattle.pr_source_tests.proofs.Rows.{row_is}
use Rattle.pr_source_tests.proofs.tests.is_row.Goals as goal

pub loop-i-preserved : goal.loop-i-preserved
loop-i-preserved c k h =
    let row = c.numbers-numbers.result.now in
    let widths = c.args.widths.now in
    ⊎_elim
    (λ less. c.loop-i.invariant k less)
    (λ more. let e : c.loop-i.i ≡ k = omega (arith, h, more) in
    subst (λ (j : ℕ). get_or row j 0 < 2 ^ get_or widths j 0) e (c.fits.ensures c.if-not-fits.false))
    (cases_lt k c.loop-i.i)

pub returns : goal.returns
returns c _ =
    let widths = c.args.widths.now in
    let all : (k : ℕ) → k < length widths → get_or c.numbers-numbers.result.now k 0 < 2 ^ get_or widths k 0 = λ k h. c.loop-i.invariant k (omega (arith, h, c.loop-i-test.false)) in
    subst (IsRow widths) c.numbers-numbers.ensures (row_is widths c.numbers-numbers.result.now c.if-numbers-widths.false all)
