use Rattle.pr_lang_meaning.proofs.EvenPrograms.{length-out, take-out}
use Rattle.pr_lang_meaning.proofs.prefix_law.Goals as goal

pub returns : goal.returns
returns c = record { count = length-out; first = take-out }
