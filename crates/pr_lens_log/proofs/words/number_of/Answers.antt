use Rattle.std.proofs.Common.{ap, ◌∙◌}
use Rattle.std.specs.Result.{result_unwrap_or}
use Rattle.std.proofs.lemmas.Fmt.{parse-decimal}
use Rattle.pr_lens_log.proofs.words.number_of.Goals as goal

pub returns-clause-reads : goal.returns-clause-reads
returns-clause-reads c = λ n few is. c.unwrap_or.ensures ∙ ap (λ r. result_unwrap_or r 0) (parse-decimal 64 n c.args.text.now c.parse.result few few is c.parse.ensures.value.0)
