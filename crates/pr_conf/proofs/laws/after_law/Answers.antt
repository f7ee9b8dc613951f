use Rattle.pr_conf.proofs.AfterLaws.{lawful_after, results_after, none_after, further_after, inputs_after, outputs_after, stages_after}
use Rattle.pr_conf.proofs.laws.after_law.Goals as goal

pub returns : goal.returns
returns c = record {
  lawful = λ N P k xs l. lawful_after N P k xs l;
  results = λ N P k xs ys. results_after N P k xs ys;
  none = λ N P k. none_after N P k;
  further = λ N P k xs ys. further_after N P k xs ys;
  inputs = λ N P k xs. inputs_after N P k xs;
  outputs = λ N P k xs. outputs_after N P k xs;
  stages = λ N P k xs. stages_after N P k xs;
}
