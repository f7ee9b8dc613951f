use Rattle.std.proofs.Common.{rules}
use Rattle.std.proofs.lemmas.Result.{IfOk-from_err}
use Rattle.pr_samples.proofs.ReadingLemmas.{IsReading-start}
use Rattle.pr_samples.proofs.feed.Feed.make_bounded.Goals as goal

pub invariant_of-result : goal.invariant_of-result
invariant_of-result c = record {
  lawful = search rules;
  one_each = search rules;
  front_each = search rules;
  size = search rules;
  numbers_room = search rules;
  front_room = search rules;
  buffer_room = search rules;
  window = search rules;
  within = search rules;
  lines = search rules;
  far = search rules;
  low = search rules;
  few = search rules;
  unended = search rules;
  cut = search rules;
}

pub returns-clause-name : goal.returns-clause-name
returns-clause-name c = c.in_ok-name.ensures.ok

pub returns-clause-widths : goal.returns-clause-widths
returns-clause-widths c = c.in_ok-kept.ensures.items

pub returns-clause-stands : goal.returns-clause-stands
returns-clause-stands c = λ file. rw c.in_ok-kept.ensures.items (IsReading-start c.args.widths.now c.args.limit c.args.most file)

pub returns-in_err-name : goal.returns-in_err-name
returns-in_err-name c = let h = c.from_residual.ensures.0 in record { name = IfOk-from_err _ _ h; widths = IfOk-from_err _ _ h; limit = IfOk-from_err _ _ h; most = IfOk-from_err _ _ h; start = IfOk-from_err _ _ h; stands = IfOk-from_err _ _ h }

pub returns-in_err-kept : goal.returns-in_err-kept
returns-in_err-kept c = let h = c.from_residual-in_err-kept.ensures.0 in record { name = IfOk-from_err _ _ h; widths = IfOk-from_err _ _ h; limit = IfOk-from_err _ _ h; most = IfOk-from_err _ _ h; start = IfOk-from_err _ _ h; stands = IfOk-from_err _ _ h }

pub returns-in_err-numbers : goal.returns-in_err-numbers
returns-in_err-numbers c = let h = c.from_residual-in_err-numbers.ensures.0 in record { name = IfOk-from_err _ _ h; widths = IfOk-from_err _ _ h; limit = IfOk-from_err _ _ h; most = IfOk-from_err _ _ h; start = IfOk-from_err _ _ h; stands = IfOk-from_err _ _ h }

pub returns-in_err-buffer : goal.returns-in_err-buffer
returns-in_err-buffer c = let h = c.from_residual-in_err-buffer.ensures.0 in record { name = IfOk-from_err _ _ h; widths = IfOk-from_err _ _ h; limit = IfOk-from_err _ _ h; most = IfOk-from_err _ _ h; start = IfOk-from_err _ _ h; stands = IfOk-from_err _ _ h }
