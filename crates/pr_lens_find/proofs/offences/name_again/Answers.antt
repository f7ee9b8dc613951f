use Rattle.std.proofs.Common.{◌∙◌, sym, inl, arith}
use Rattle.std.proofs.lemmas.Option.{slice_get-get_or}
use Rattle.pr_lens_find.proofs.OffenceLemmas.{first_again}
use Rattle.pr_lens_find.proofs.offences.name_again.Goals as goal

pub returns-then-is_again : goal.returns-then-is_again
returns-then-is_again c = record {
  place = c.loop-token.token-index;
  there = slice_get-get_or c.args.names.now c.loop-token.token-index 0 c.loop-token-test.true;
  first = λ k less. c.loop-token.invariant k less;
  is = inl (record { again = sym c.is_again.ensures.value ∙ c.if-is_again.true; before = c.is_again.ensures.before c.if-is_again.true });
}

pub returns : goal.returns
returns c = first_again c.args.source.now.text.now c.args.source.now.tokens.now c.args.source.now.spans.now c.args.names.now c.numbered.result c.numbered.ensures (λ k less. c.loop-token.invariant k (omega (arith, less)))
