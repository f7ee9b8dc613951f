use Rattle.std.proofs.Common.{ap}
use Rattle.pr_scope_names.specs.Names.{are_there}
use Rattle.pr_scope_names.proofs.Maps.{read_of}
use Rattle.pr_scope_names.proofs.streams.Streams.new.Goals as goal

pub returns : goal.returns
returns c = ap (read_of are_there) c.new.ensures
