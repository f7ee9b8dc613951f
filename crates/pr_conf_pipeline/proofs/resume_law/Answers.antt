use Rattle.pr_conf_pipeline.proofs.ResumeLaws.{rows-append, state_after-append, through-append}
use Rattle.pr_conf_pipeline.proofs.resume_law.Goals as goal

pub returns : goal.returns
returns c = record {
  rows = λ M s xs ys. rows-append M s xs ys;
  states = λ M s j xs ys. state_after-append M s j xs ys;
  results = λ M v tap xs ys. through-append M v tap xs ys;
}
