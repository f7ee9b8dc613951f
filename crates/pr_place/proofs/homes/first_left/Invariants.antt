use Rattle.std.proofs.Common.{◌≡◌, ◌-◌, None, get_or, length, not}
use Rattle.std.specs.List.{find, range_with_len}
use Rattle.std.specs.Option.{is_some}
use Rattle.pr_place.specs.Courses.{first_open}
use Rattle.pr_place.proofs.homes.first_left.Given as goal

abbrev pub invariant-loop-group : goal.invariant-loop-group
invariant-loop-group l = find (λ g. not (is_some (get_or l.stages g None))) (range_with_len l.group (length l.stages - l.group)) ≡ first_open l.stages
