use Rattle.std.proofs.Common.{◌≡◌, drop}
use Rattle.pr_expand_spec.specs.Programs.{no_streams, with_arguments}
use Rattle.pr_expand.specs.Code.{shapes_in, streams_in}
use Rattle.pr_expand.proofs.expressions.with_arguments.Given as goal

abbrev pub invariant-loop-i : goal.invariant-loop-i
invariant-loop-i l =
    with_arguments (drop l.i l.params) (drop l.i l.fn.all.given.items) (record { streams = streams_in l.env; equations = shapes_in l.ledger })
    ≡ with_arguments l.params l.fn.all.given.items (record { streams = no_streams; equations = shapes_in l.fn.all.ledger })
