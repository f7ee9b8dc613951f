use Rattle.std.proofs.Common.{◌≡◌, ◌++◌, drop}
use Rattle.pr_lens_cost.specs.Objects.{run_objects}
use Rattle.pr_lens_cost.proofs.objects.put_rows.Given as goal

abbrev pub invariant-loop-number : goal.invariant-loop-number
invariant-loop-number l = l.text.items ++ run_objects l.number (drop l.number l.rows) ≡ l.fn.text.items ++ run_objects 0 l.rows
