use Rattle.pr_run_script.proofs.TextLaws.{run_is_written}
use Rattle.pr_run_script.proofs.LogLaws.{found_is}
use Rattle.pr_run_script.proofs.text_law.Goals as goal

pub returns : goal.returns
returns c = record {
  results = λ N P c' p xs stall good hv hp. run_is_written N P c' p xs stall good hv hp;
  saved = λ v p t hp. found_is v p t hp;
}
