use Rattle.std.proofs.Common.{◌+◌, arith}
use Rattle.pr_lens_names.proofs.BracketLemmas.{parts_past}
use Rattle.pr_lens_names.proofs.brackets.parts_behind.Goals as goal

pub returns-then-count-token : goal.returns-then-count-token
returns-then-count-token c = parts_past c.args.source.now.tokens.now (c.args.token + c.args.by) (omega arith)
