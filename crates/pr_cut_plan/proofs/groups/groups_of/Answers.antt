use Rattle.std.proofs.Common.{ℕ, ◌≡◌, ◌≤◌, ◌-◌, ◌++◌, length, map, ap, sym, ◌∙◌, arith}
use Rattle.std.specs.List.{flat_map, range_with_len}
use Rattle.pr_cut_units.specs.Groups.{group_of, groups_at}
use Rattle.pr_cut_plan.specs.Parts.{parts_groups, parts_end}
use Rattle.pr_cut_plan.proofs.GroupLemmas.{singles, singles_next, parts_whole, end_within}
use Rattle.pr_cut_plan.proofs.groups.groups_of.Goals as goal

pub loop-unit-preserved : goal.loop-unit-preserved
loop-unit-preserved c =
    let all = c.args.holds.now in
    let end = parts_end 0 all in
    let low : end ≤ c.loop-unit.unit = omega (arith, c.in_ok-from.ensures.next, c.loop-unit.auto.unit) in
    singles_next end c.loop-unit.unit (parts_groups c.args.units.now 0 all) c.loop-unit.groups.items c.push_single.new.groups.items low c.loop-unit.invariant c.in_ok-push_single.ensures

pub returns : goal.returns
returns c =
    let units = c.args.units.now in
    let all = c.args.holds.now in
    let end = parts_end 0 all in
    let within = end_within units 0 all c.requires.parts (omega arith) in
    let last : c.loop-unit.unit ≡ length units = omega (arith, within, c.in_ok-from.ensures.next, c.loop-unit.auto.unit-end, c.loop-unit-test.false) in
    let z : length units - 0 ≡ length units = omega arith in
    c.loop-unit.invariant
    ∙ ap (λ (n : ℕ). parts_groups units 0 all ++ singles end (n - end)) last
    ∙ sym (parts_whole units 0 all c.requires.parts (omega arith))
    ∙ ap (λ (n : ℕ). flat_map (groups_at (map (group_of units) all)) (range_with_len 0 n)) z
