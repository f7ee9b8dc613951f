use Rattle.pr_base.specs.Rows.{row_line, row_numbers}
use Rattle.pr_edge.proofs.Appending.{Appends-append}
use Rattle.pr_run.proofs.Lines.{front_after, front_longer}
use Rattle.pr_samples.proofs.ResultLemmas.{on_ok, on_err}
use Rattle.pr_share_text.specs.Text.{mark}
use Rattle.pr_share.proofs.writing.put_line.Goals as goal

pub returns-in-Err-clause-front : goal.returns-in-Err-clause-front
returns-in-Err-clause-front g c = front_longer _ _ (mark c.args.number) (row_line (row_numbers c.args.widths.now c.args.bytes.now)) c.in-Err.ensures.front

pub returns-in-Ok-clause-all : goal.returns-in-Ok-clause-all
returns-in-Ok-clause-all g c = on_ok c.put_result.result _ _ (λ line. Appends-append _ _ _ _ _ c.in-Ok.ensures.all line) c.put_result.ensures.all

pub returns-in-Ok-clause-front : goal.returns-in-Ok-clause-front
returns-in-Ok-clause-front g c = on_err c.put_result.result _ _ (λ line. front_after _ _ _ _ _ c.in-Ok.ensures.all line) c.put_result.ensures.front
