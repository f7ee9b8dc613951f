use Rattle.pr_samples.specs.Lines.{lines_of, all_lines}
use Rattle.pr_samples.specs.Fed.{fed_text, tail_of}
use Rattle.std.proofs.Common.{take}
use Rattle.pr_samples.proofs.SampleLaws.{fed_lines-rows, fed_lines-count}
use Rattle.pr_samples.proofs.laws.samples_law.Goals as goal

pub returns-clause-rows : goal.returns-clause-rows
unfolding fed_text
returns-clause-rows c = λ widths limit most file. fed_lines-rows widths (all_lines (tail_of limit file) (lines_of (take limit file))) most 0

pub returns-clause-count : goal.returns-clause-count
unfolding fed_text
returns-clause-count c = λ widths limit most file. fed_lines-count widths (all_lines (tail_of limit file) (lines_of (take limit file))) most 0
