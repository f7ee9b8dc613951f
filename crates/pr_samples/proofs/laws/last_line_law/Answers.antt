use Rattle.pr_samples.proofs.Reading.{open_gave_whole}
use Rattle.pr_samples.proofs.laws.last_line_law.Goals as goal

pub returns : goal.returns
returns c = λ f file h more is_open. open_gave_whole f file h more is_open
