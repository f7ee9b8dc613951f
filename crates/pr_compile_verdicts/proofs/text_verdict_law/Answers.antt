use Rattle.pr_compile_verdicts.proofs.Fronts.{some_read, some_widths_of}
use Rattle.pr_compile_verdicts.proofs.Texts.{one_outcome, some_text_units}
use Rattle.pr_compile_verdicts.proofs.text_verdict_law.Goals as goal

pub returns : goal.returns
returns c = record { read = some_read; front = some_widths_of; units = some_text_units; outcome = one_outcome }
