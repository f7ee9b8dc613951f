use Rattle.std.proofs.Common.{nat_eq, sym, ap, ◌∙◌}
use Rattle.std.specs.List.{starts_with}
use Rattle.pr_lang.specs.Spelling.{symbol_text}
use Rattle.pr_parse_lex.proofs.Scans.{find-here, find-step}
use Rattle.pr_parse_lex.proofs.pieces.symbol_of.Goals as goal

pub returns-then-starts_with : goal.returns-then-starts_with
returns-then-starts_with c = find-here (λ s. starts_with nat_eq c.args.text.now (symbol_text s)) _ c.loop-symbol.symbol-index _ _ c.loop-symbol-test.true c.loop-symbol.invariant (ap (λ t. starts_with nat_eq c.args.text.now t) (sym (c.as_bytes.ensures.value ∙ c.as_str.ensures)) ∙ sym c.starts_with.ensures.value ∙ c.if-starts_with.true)

pub loop-symbol-preserved : goal.loop-symbol-preserved
loop-symbol-preserved c = find-step (λ s. starts_with nat_eq c.args.text.now (symbol_text s)) _ c.loop-symbol.symbol-index _ _ c.loop-symbol-test.true c.loop-symbol.invariant (ap (λ t. starts_with nat_eq c.args.text.now t) (sym (c.as_bytes.ensures.value ∙ c.as_str.ensures)) ∙ sym c.starts_with.ensures.value ∙ c.if-starts_with.false)
