use Rattle.std.proofs.Common.{◌≡◌, true, take}
use Rattle.std.specs.List.{list_all}
use Rattle.pr_scope_facts.specs.Numbers.{is_number}
use Rattle.pr_expand.proofs.flats.all_fit.Given as goal

abbrev pub invariant-loop-operand : goal.invariant-loop-operand
invariant-loop-operand l = list_all is_number (take l.operand-index l.operands) ≡ true
