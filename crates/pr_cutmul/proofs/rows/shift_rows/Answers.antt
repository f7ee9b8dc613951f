use Rattle.std.proofs.Common.{◌≡◌, List, length, length-append, refl, ap, arith}
use Rattle.pr_base.specs.declared.caps.Cap.{Cap}
use Rattle.pr_net.specs.declared.cells.Cell.{Cell}
use Rattle.pr_cut_units.proofs.CountTable.{takes_shifted}
use Rattle.pr_cutmul.proofs.Values.{shows_shift}
use Rattle.pr_cutmul.proofs.rows.shift_rows.Goals as goal

pub returns-then-len-from-gt-MOST_UNITS-clause-limit : goal.returns-then-len-from-gt-MOST_UNITS-clause-limit
returns-then-len-from-gt-MOST_UNITS-clause-limit c = λ cap e.
    (let same : cap ≡ Cap.Units = cc in
    let count = (takes_shifted c.args.left c.args.wa c.args.by.now c.args.wby c.args.a.now).at (length c.args.net.now.units.items) in
    (same, omega (arith, count, c.args.net.now.units.ok.0), refl))

pub returns-in_err-slices-clause-passed : goal.returns-in_err-slices-clause-passed
returns-in_err-slices-clause-passed c = λ many. absurd (let count = (takes_shifted c.args.left c.args.wa c.args.by.now c.args.wby c.args.a.now).at (length c.args.net.now.units.items) in omega (arith, count, many, c.args.net.now.units.ok.0))

pub returns-clause-within : goal.returns-clause-within
returns-clause-within c =
    let count = (takes_shifted c.args.left c.args.wa c.args.by.now c.args.wby c.args.a.now).at (length c.args.net.now.units.items) in
    let all = ap (λ (us : List (List Cell)). length us) c.in_ok-slices.ensures.units in
    omega (arith, count, all, length-append {A = List Cell}, c.args.net.now.units.ok.0)

pub returns-clause-passed : goal.returns-clause-passed
returns-clause-passed c = λ many. absurd (let count = (takes_shifted c.args.left c.args.wa c.args.by.now c.args.wby c.args.a.now).at (length c.args.net.now.units.items) in omega (arith, count, many, c.args.net.now.units.ok.0))

pub returns-clause-value : goal.returns-clause-value
returns-clause-value c = λ some few. shows_shift c.args.net.now.units.items c.shifted_by.new.units.items c.args.left c.args.wa c.args.wby c.args.a.now c.args.by.now _ c.in_ok-slices.ensures.units c.in_ok-slices.ensures.slices some few
