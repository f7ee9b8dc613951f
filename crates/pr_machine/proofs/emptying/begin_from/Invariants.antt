use Rattle.pr_conf.specs.Configuration.{shape_of}
use Rattle.pr_machine.specs.Places.{rows_of}
use Rattle.pr_machine.proofs.Begun.{IsBegun}
use Rattle.pr_machine.proofs.emptying.begin_from.Given as goal

abbrev pub invariant-loop-stage : goal.invariant-loop-stage
invariant-loop-stage g l = IsBegun g.row.N l.stage (rows_of l.store) (shape_of l.fn.conf) (shape_of l.conf)
