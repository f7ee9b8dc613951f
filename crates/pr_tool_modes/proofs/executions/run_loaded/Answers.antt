use Rattle.pr_tool_modes.specs.Jobs.{source_of}
use Rattle.pr_tool_modes.proofs.RunVerdicts.{fresh_source}
use Rattle.pr_tool_modes.proofs.executions.run_loaded.Goals as goal

pub returns-clause-ended : goal.returns-clause-ended
returns-clause-ended g c = c.run_from.ensures.ended (source_of c.args.job.now.source) (fresh_source c.args.job.now.source)
