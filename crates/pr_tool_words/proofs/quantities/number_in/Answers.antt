use Rattle.std.proofs.Common.{arith, rules, sym}
use Rattle.pr_tool_words.proofs.QuantityLemmas.{number_in-some, number_in-unread, number_in-other}
use Rattle.pr_tool_words.proofs.quantities.number_in.Goals as goal

pub returns-in-Err-clause-value : goal.returns-in-Err-clause-value
returns-in-Err-clause-value c = sym (number_in-unread _ _ c.args.text.now (omega arith) c.parse.result c.parse.ensures.value.0 c.in-Err.field-0 c.in-Err.is)

pub returns-then-number-greatest-clause-value : goal.returns-then-number-greatest-clause-value
returns-then-number-greatest-clause-value c = sym (number_in-some c.args.least c.args.greatest c.in-Ok.number c.args.text.now (search rules) (omega arith) (search (rules, arith)) (search (rules, arith)))

pub returns-else-eq-clause-value : goal.returns-else-eq-clause-value
returns-else-eq-clause-value c = sym (number_in-other c.args.least c.args.greatest c.args.text.now (omega arith) c.parse.result c.parse.ensures.value.0 c.in-Ok.number c.in-Ok.is (λ spelled above below. search (rules, arith, spelled, above, below)))
