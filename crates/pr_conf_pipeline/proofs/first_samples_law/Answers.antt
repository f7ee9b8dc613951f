use Rattle.pr_conf_pipeline.proofs.RowLaws.{length-rows, take-rows}
use Rattle.pr_conf_pipeline.proofs.ResumeLaws.{take-through}
use Rattle.pr_conf_pipeline.proofs.first_samples_law.Goals as goal

pub returns : goal.returns
returns c = record {
  count = λ M s xs. length-rows M s xs;
  first = λ M s j xs. take-rows M s j xs;
  results = λ M v j tap xs. take-through M v tap j xs;
}
