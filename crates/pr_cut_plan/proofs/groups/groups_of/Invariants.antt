use Rattle.std.proofs.Common.{◌≡◌, ◌-◌, ◌++◌}
use Rattle.pr_cut_plan.specs.Parts.{parts_groups, parts_end}
use Rattle.pr_cut_plan.proofs.GroupLemmas.{singles}
use Rattle.pr_cut_plan.proofs.groups.groups_of.Given as goal

abbrev pub invariant-loop-unit : goal.invariant-loop-unit
invariant-loop-unit l = l.groups.items ≡ parts_groups l.units 0 l.holds ++ singles (parts_end 0 l.holds) (l.unit - parts_end 0 l.holds)
