use Rattle.pr_samples.proofs.CutLaw.{begins_lawful-begins, begins_lawful-from}
use Rattle.pr_samples.proofs.laws.cut_law.Goals as goal

pub returns : goal.returns
returns c = λ widths bytes. (begins_lawful-begins widths bytes, λ line. begins_lawful-from widths bytes line.0 line.1)
