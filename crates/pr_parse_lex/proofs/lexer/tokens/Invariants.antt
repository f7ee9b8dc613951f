use Rattle.std.proofs.Common.{◌≡◌, ◌≤◌, ◌-◌, ◌++◌, drop, length}
use Rattle.pr_lang.specs.Tokens.{tokens_of, tokens_from}
use Rattle.pr_parse_lex.proofs.lexer.tokens.Given as goal

abbrev pub invariant-loop-at : goal.invariant-loop-at
invariant-loop-at l = record { within : l.at ≤ length l.text; rest : l.found.items ++ tokens_from l.at 0 (drop l.at l.text) ≡ tokens_of l.text }

abbrev pub decreases-loop-at : goal.decreases-loop-at
decreases-loop-at l = length l.text - l.at
