use Rattle.std.proofs.Common.{refl, arith}
use Rattle.pr_parse.proofs.Endings.{leaves, deep_built, front_refused}
use Rattle.pr_parse.proofs.parser.parse_front.Goals as goal

pub fault_before-requires-clause-within : goal.fault_before-requires-clause-within
fault_before-requires-clause-within c = leaves c.args.text.now _ _ c.in-Err.fault (omega (arith, c.split_at.ensures.front_len)) c.in-Err.ensures.err

pub returns-in-Ok : goal.returns-in-Ok
returns-in-Ok c = (refl, deep_built c.args.text.now c.args.tokens.now _ c.args.place c.requires.deep c.requires.within c.split_at.ensures.front _ c.in-Ok.ensures.ok)

pub returns-in-Err : goal.returns-in-Err
returns-in-Err c = front_refused c.args.text.now c.args.tokens.now _ c.args.place c.requires.deep c.requires.within c.split_at.ensures.front c.in-Err.fault c.fault_before.result c.in-Err.ensures.err (leaves c.args.text.now _ _ c.in-Err.fault (omega (arith, c.split_at.ensures.front_len)) c.in-Err.ensures.err) c.fault_before.ensures
