use Rattle.std.proofs.Common.{◌≡◌, ◌<◌, ◌-◌, ◌∙◌, ℕ, List, [], Some, length, get_or, sym, ap, ap₂, arith}
use Rattle.pr_net.specs.Shape.{units_of}
use Rattle.pr_net.specs.Whole.{shape_of}
use Rattle.pr_place.specs.Greedy.{number_of_group}
use Rattle.pr_place.proofs.Ending.{open_below, at_now}
use Rattle.pr_place.proofs.homes.number_left.Goals as goal

pub index-requires : goal.index-requires
index-requires g c =
    let l = open_below c.args.stages.now c.in-Some.group (sym c.first_left.ensures ∙ c.in-Some.is) in
    let e = c.requires.long in
    omega (arith, l, e)

pub overflow_sub-len : goal.overflow_sub-len
overflow_sub-len g c =
    let net = shape_of c.args.net.now in
    let grp = c.in-Some.group in
    let found = sym c.first_left.ensures ∙ c.in-Some.is in
    let l = open_below c.args.stages.now grp found in
    let long = c.requires.long in
    let inside : grp < length net.groups = omega (arith, l, long) in
    let units : c.behind-net.inside.units.items ≡ units_of net grp = c.behind-net.view_is ∙ at_now net.groups grp c.index.result.now [] c.index.ensures inside in
    let count = ap length units in
    let some = c.requires.net.some grp inside in
    let len = c.len.ensures in
    omega (arith, count, some, len)

pub index-requires-in-Some : goal.index-requires-in-Some
index-requires-in-Some g c =
    let net = shape_of c.args.net.now in
    let grp = c.in-Some.group in
    let found = sym c.first_left.ensures ∙ c.in-Some.is in
    let l = open_below c.args.stages.now grp found in
    let long = c.requires.long in
    let inside : grp < length net.groups = omega (arith, l, long) in
    let units : c.behind-net.inside.units.items ≡ units_of net grp = c.behind-net.view_is ∙ at_now net.groups grp c.index.result.now [] c.index.ensures inside in
    let count = ap length units in
    let some = c.requires.net.some grp inside in
    let len = c.len.ensures in
    omega (arith, count, some, len)

pub returns-in-Some : goal.returns-in-Some
returns-in-Some g c = λ k e.
    let net = shape_of c.args.net.now in
    let grp = c.in-Some.group in
    let found = sym c.first_left.ensures ∙ c.in-Some.is in
    let l = open_below c.args.stages.now grp found in
    let long = c.requires.long in
    let inside : grp < length net.groups = omega (arith, l, long) in
    let units : c.behind-net.inside.units.items ≡ units_of net grp = c.behind-net.view_is ∙ at_now net.groups grp c.index.result.now [] c.index.ensures inside in
    let count = ap length units in
    let some = c.requires.net.some grp inside in
    let len = c.len.ensures in
    let both : Some grp ≡ Some k = sym found ∙ e in
    let same : grp ≡ k = cc in
    let last : c.len.result - 1 ≡ length (units_of net grp) - 1 = omega (arith, count, some, len) in
    let is = at_now c.behind-net.inside.units.items (c.len.result - 1) c.index-in-Some.result.now 0 c.index-in-Some.ensures (omega (arith, count, some, len)) in
    is ∙ ap₂ (λ (us : List ℕ) (n : ℕ). get_or us n 0) units last ∙ ap (number_of_group net) same
