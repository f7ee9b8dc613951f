use Rattle.std.proofs.Common.{◌≡◌, ◌+◌, ◌-◌, ◌^◌, ◌∙◌, ℕ, drop, min, arith, ap, sym}
use Rattle.std.proofs.Math.ListN.{drop_of_length-le}
use Rattle.std.proofs.Math.Nat.{min-eq_left}
use Rattle.pr_place.specs.Numbering.{cells_in}
use Rattle.pr_place.proofs.numbering.count_cells.Goals as goal

pub returns : goal.returns
returns c =
    let l = c.loop-unit in
    let rest = cells_in (drop l.unit-index c.args.units.now) in
    let none : rest ≡ 0 = ap cells_in (drop_of_length-le c.args.units.now c.loop-unit-test.false) in
    let all : l.cells + rest ≡ l.cells = omega (arith, none) in
    sym (min-eq_left l.invariant.most) ∙ ap (λ (k : ℕ). min k (2 ^ 64 - 1)) (sym all) ∙ l.invariant.rest
