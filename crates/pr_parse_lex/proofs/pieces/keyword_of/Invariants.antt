use Rattle.std.proofs.Common.{◌≡◌, drop, find, nat_eq}
use Rattle.std.specs.Cmp.Lexicographic.{pointwise}
use Rattle.pr_lang.specs.Spelling.{keyword_text}
use Rattle.pr_lang.specs.Tokens.{keyword_of}
use Rattle.pr_parse_lex.proofs.pieces.keyword_of.Given as goal

abbrev pub invariant-loop-keyword : goal.invariant-loop-keyword
invariant-loop-keyword l = find (λ k. pointwise nat_eq l.bytes (keyword_text k)) (drop l.keyword-index l.keyword-items) ≡ keyword_of l.bytes
