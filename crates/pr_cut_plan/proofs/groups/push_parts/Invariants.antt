use Rattle.std.proofs.Common.{◌≡◌, ◌++◌, drop}
use Rattle.pr_cut_plan.specs.Parts.{AreParts, parts_groups, parts_end}
use Rattle.pr_cut_plan.proofs.groups.push_parts.Given as goal

abbrev pub invariant-loop-part : goal.invariant-loop-part
invariant-loop-part l = record {
  parts : AreParts l.units l.from (drop l.part-index l.holds);
  groups : l.groups.items ++ parts_groups l.units l.from (drop l.part-index l.holds) ≡ l.fn.groups.items ++ parts_groups l.units 0 l.holds;
  end : parts_end l.from (drop l.part-index l.holds) ≡ parts_end 0 l.holds;
}
