use Rattle.std.proofs.Common.{ap}
use Rattle.pr_expand.specs.Code.{streams_by}
use Rattle.pr_expand.proofs.environment.Environment.new.Goals as goal

pub returns : goal.returns
returns c = ap streams_by c.new.ensures
