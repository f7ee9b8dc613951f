use Rattle.std.proofs.Common.{◌≡◌, List, length, length-append, refl, ap, arith}
use Rattle.pr_base.specs.declared.caps.Cap.{Cap}
use Rattle.pr_net.specs.declared.cells.Cell.{Cell}
use Rattle.pr_cutmul.proofs.Values.{shows_product}
use Rattle.pr_cutmul.proofs.rows.mul_rows.Goals as goal

pub returns-then-len-count-gt-MOST_UNITS-clause-limit : goal.returns-then-len-count-gt-MOST_UNITS-clause-limit
returns-then-len-count-gt-MOST_UNITS-clause-limit c = λ cap e.
    (let same : cap ≡ Cap.Units = cc in
    let count = c.rows_of-count.ensures.is c.args.a.now c.args.b.now (length c.args.net.now.units.items) in
    (same, omega (arith, count, c.args.net.now.units.ok.0), refl))

pub returns-in_err-slices-clause-passed : goal.returns-in_err-slices-clause-passed
returns-in_err-slices-clause-passed c = λ many. absurd (let count = c.rows_of-count.ensures.is c.args.a.now c.args.b.now (length c.args.net.now.units.items) in omega (arith, count, many, c.args.net.now.units.ok.0))

pub returns-clause-within : goal.returns-clause-within
returns-clause-within c =
    let count = c.rows_of-count.ensures.is c.args.a.now c.args.b.now (length c.args.net.now.units.items) in
    let all = ap (λ (us : List (List Cell)). length us) c.in_ok-slices.ensures.units in
    omega (arith, count, all, length-append {A = List Cell}, c.args.net.now.units.ok.0)

pub returns-clause-passed : goal.returns-clause-passed
returns-clause-passed c = λ many. absurd (let count = c.rows_of-count.ensures.is c.args.a.now c.args.b.now (length c.args.net.now.units.items) in omega (arith, count, many, c.args.net.now.units.ok.0))

pub returns-clause-value : goal.returns-clause-value
returns-clause-value c = λ some sb. shows_product c.args.net.now.units.items c.product.new.units.items c.args.bits c.args.wa c.args.wb c.args.a.now c.args.b.now _ c.in_ok-slices.ensures.units c.in_ok-slices.ensures.slices some sb
