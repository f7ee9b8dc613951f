use Rattle.pr_scope_names.specs.Names.{held, streams_in}
use Rattle.pr_scope.specs.Expressions.{is_instance}
use Rattle.pr_scope.proofs.expressions.use_name.Goals as goal

pub returns-in-Some-clause-value : goal.returns-in-Some-clause-value
returns-in-Some-clause-value c =
    rw (← c.in-Some.ensures)
    (c.use_static.ensures.value (is_instance c.args.scene.now.own c.args.name.now c.args.index) (held (streams_in c.args.streams.now c.args.name.now) c.args.index))

pub returns-in-None-clause-value : goal.returns-in-None-clause-value
returns-in-None-clause-value c =
    rw (← c.in-None.ensures, ← c.is_own-own.ensures, ← c.has-assigned.ensures) (c.use_stream.ensures.value c.args.index)
