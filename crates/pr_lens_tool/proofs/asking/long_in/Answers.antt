use Rattle.std.proofs.Common.{arith, rules, sym}
use Rattle.pr_tool_words.proofs.QuantityLemmas.{number_in-some}
use Rattle.pr_lens_tool.proofs.NumberLemmas.{long_unread, long_other}
use Rattle.pr_lens_tool.proofs.asking.long_in.Goals as goal

pub returns-in-Err : goal.returns-in-Err
returns-in-Err c = sym (long_unread c.args.text.now c.parse.result c.parse.ensures.value.0 c.in-Err.field-0 c.in-Err.is)

pub returns-then-eq : goal.returns-then-eq
returns-then-eq c = sym (number_in-some 0 18446744073709551615 c.in-Ok.number c.args.text.now (search rules) (omega arith) (omega arith) (omega arith))

pub returns-else-eq : goal.returns-else-eq
returns-else-eq c = sym (long_other c.args.text.now c.parse.result c.parse.ensures.value.0 c.in-Ok.number c.in-Ok.is (λ spelled. search (rules, spelled)))
