use Rattle.std.proofs.Common.{◌≡◌, ◌-◌, ◌++◌, [], ◌∷◌, vec_len}
use Rattle.std.specs.List.{flat_map, range_with_len}
use Rattle.pr_cut_units.specs.Groups.{group_of, groups_at}
use Rattle.pr_cut_plan.specs.Parts.{AreMarked}
use Rattle.pr_cut_plan.proofs.GroupLemmas.{tied_upto}
use Rattle.pr_cut_plan.proofs.groups.push_untied.Given as goal

abbrev pub invariant-loop-unit : goal.invariant-loop-unit
invariant-loop-unit l = record {
  tied : l.tied.items ≡ tied_upto l.units l.holds l.unit;
  long : vec_len l.marks ≡ l.unit - l.from;
  marked : AreMarked l.from l.marks.items l.tied.items;
  groups : l.groups.items ≡ l.fn.groups.items ++ flat_map (groups_at (group_of l.units l.holds ∷ [])) (range_with_len l.from (l.unit - l.from));
}
