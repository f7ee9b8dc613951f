use Rattle.std.proofs.Common.{arith}
use Rattle.pr_parse.proofs.Main.{built_is, refused_not}
use Rattle.pr_parse.proofs.Endings.{leaves, all_refused}
use Rattle.pr_parse.proofs.parser.parse_all.Goals as goal

pub fault_at-requires-clause-within : goal.fault_at-requires-clause-within
fault_at-requires-clause-within c = leaves c.args.text.now c.args.tokens.now _ c.in-Err.fault (omega arith) c.in-Err.ensures.err

pub returns-in-Ok : goal.returns-in-Ok
returns-in-Ok c = record { program = built_is _ _ c.in-Ok.ensures.ok; unrefused = refused_not _ _ c.requires.shallow c.in-Ok.ensures.ok }

pub returns-in-Err : goal.returns-in-Err
returns-in-Err c = all_refused c.args.text.now c.args.tokens.now c.in-Err.fault c.fault_at.result c.requires.shallow c.in-Err.ensures.err c.fault_at.ensures
