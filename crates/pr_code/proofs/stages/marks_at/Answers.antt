use Rattle.std.proofs.Common.{drop}
use Rattle.pr_code.specs.Reading.{words_of_bytes}
use Rattle.pr_code.proofs.StageLemmas.{plain_marks}
use Rattle.pr_code.proofs.stages.marks_at.Goals as goal

pub returns-then-not-packed : goal.returns-then-not-packed
returns-then-not-packed c = plain_marks c.args.packed c.args.columns c.args.place (drop c.args.place (words_of_bytes c.args.bytes.now)) c.requires.columns c.if-not-packed.true
