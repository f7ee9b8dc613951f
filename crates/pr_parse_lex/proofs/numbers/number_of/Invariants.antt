use Rattle.std.proofs.Common.{◌≡◌, drop}
use Rattle.pr_lang.specs.Tokens.{number_after}
use Rattle.pr_parse_lex.proofs.numbers.number_of.Given as goal

abbrev pub invariant-loop-digit : goal.invariant-loop-digit
invariant-loop-digit l = number_after l.base l.number (drop l.digit-index l.digits) ≡ number_after l.base 0 l.digits
