use Rattle.std.proofs.lemmas.Option.{slice_get-get_or}
use Rattle.pr_lens_find.proofs.offences.wrong_width.Goals as goal

pub returns-then-is_wrong_width-clause-first : goal.returns-then-is_wrong_width-clause-first
returns-then-is_wrong_width-clause-first c = record {
  place = c.loop-token.token-index;
  there = slice_get-get_or c.args.widths.now c.loop-token.token-index 0 c.loop-token-test.true;
  wrong = c.is_wrong_width.ensures.wrong c.if-is_wrong_width.true;
  first = λ k less. c.loop-token.invariant k less;
}
