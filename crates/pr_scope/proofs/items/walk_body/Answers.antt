use Rattle.std.proofs.Common.{Err}
use Rattle.pr_scope_names.specs.declared.counts.Count.{Count}
use Rattle.pr_scope_names.specs.declared.rules.Stop.TheVariants.{Offends}
use Rattle.pr_scope_names.specs.Names.{known_in, streams_in}
use Rattle.pr_scope.specs.Statements.{Progress}
use Rattle.pr_scope.proofs.Walks.{body_met, stopped}
use Rattle.pr_scope.proofs.items.walk_body.Goals as goal

pub returns-in_err-count-2-clause-walk : goal.returns-in_err-count-2-clause-walk
returns-in_err-count-2-clause-walk c =
    let s : Progress = record { streams = streams_in c.walk_stmts.new.streams; count = c.in_ok-count.count } in
    stopped c.from_residual-in_err-count-2.result (λ (n : Count). n) _ (Offends c.in_err-count-2.field-0.0) c.from_residual-in_err-count-2.ensures.1
    (body_met c.args.body.now c.args.value.now (known_in c.walk_stmts.new.statics) (known_in c.args.statics.now) (streams_in c.args.locals) s (Err c.in_err-count-2.field-0.0) c.in_ok-count.ensures.walk c.in_ok-count.ensures.same c.in_err-count-2.ensures.value)
