use Rattle.std.proofs.Common.{arith}
use Rattle.pr_parse_lex.proofs.Scans.{number_after-step}
use Rattle.pr_parse_lex.proofs.numbers.number_of.Goals as goal

pub returns-in_default : goal.returns-in_default
returns-in_default c = omega (arith, number_after-step c.args.base c.loop-digit.number c.loop-digit.digit-index _ c.args.digits.now c.requires c.loop-digit-test.true c.loop-digit.invariant, c.in_default.ensures)

pub returns-in_default-checked_add : goal.returns-in_default-checked_add
returns-in_default-checked_add c = omega (arith, number_after-step c.args.base c.loop-digit.number c.loop-digit.digit-index _ c.args.digits.now c.requires c.loop-digit-test.true c.loop-digit.invariant, c.in-Some.ensures, c.digit_value.ensures, c.in_default-checked_add.ensures)
