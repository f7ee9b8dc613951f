use Rattle.std.proofs.Common.{◌≡◌, ◌+◌, ◌∙◌, ℕ, List, [], ◌∷◌, ◌++◌, map, sym, ap, ap₂, length, arith}
use Rattle.std.proofs.lemmas.Result.{IfOk-from_err}
use Rattle.std.specs.List.{range_with_len}
use Rattle.std.proofs.lemmas.List.{map_push}
use Rattle.std.proofs.lemmas.List.FromFn.{map-range_with_len_more}
use Rattle.pr_net.specs.Whole.{shape_of}
use Rattle.pr_place.specs.Courses.{home_at}
use Rattle.pr_place.specs.Placements.{HomeShape, home_shape}
use Rattle.pr_place.proofs.Ending.{homes_are}
use Rattle.pr_place.proofs.homes.homes.Goals as goal

pub loop-unit-preserved : goal.loop-unit-preserved
loop-unit-preserved g c =
    let u = c.loop-unit.unit in
    let z : 0 + u ≡ u = omega arith in
    ap (map home_shape) c.in_ok-push.ensures.items ∙ map_push home_shape c.loop-unit.homes.items c.in_ok-home.field-0 ∙ ap₂ (λ (xs : List HomeShape) (x : HomeShape). xs ++ x ∷ []) c.loop-unit.invariant c.in_ok-home.ensures
    ∙ sym (map-range_with_len_more (home_at (shape_of c.args.net.now) c.args.tables.now c.args.course.now) 0 u u z)

pub returns : goal.returns
returns g c =
    let net = shape_of c.args.net.now in
    let e : c.loop-unit.unit ≡ length net.units = (let a = c.len-unit-end.ensures in let b = c.loop-unit-test.false in let d = c.loop-unit.auto.unit-end in omega (arith, a, b, d)) in
    c.loop-unit.invariant ∙ ap (λ (n : ℕ). map (home_at net c.args.tables.now c.args.course.now) (range_with_len 0 n)) e ∙ homes_are g.row.N g.row.P net c.args.tables.now c.args.course.now c.requires.tables c.requires.registers c.requires.opens c.requires.none

pub returns-in_err-homes : goal.returns-in_err-homes
returns-in_err-homes g c = IfOk-from_err _ _ c.from_residual.ensures.0

pub returns-in_err-home : goal.returns-in_err-home
returns-in_err-home g c = IfOk-from_err _ _ c.from_residual-in_err-home.ensures.0

pub returns-in_err-push : goal.returns-in_err-push
returns-in_err-push g c = IfOk-from_err _ _ c.from_residual-in_err-push.ensures.0
