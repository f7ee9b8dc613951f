use Rattle.std.proofs.Common.{◌≡◌, drop, find, nat_eq}
use Rattle.std.specs.List.{starts_with}
use Rattle.pr_lang.specs.Spelling.{symbol_text}
use Rattle.pr_lang.specs.Tokens.{symbol_of}
use Rattle.pr_parse_lex.proofs.pieces.symbol_of.Given as goal

abbrev pub invariant-loop-symbol : goal.invariant-loop-symbol
invariant-loop-symbol l = find (λ s. starts_with nat_eq l.text (symbol_text s)) (drop l.symbol-index l.symbol-items) ≡ symbol_of l.text
