use Rattle.pr_lang_same_tree.proofs.Meanings.{same-has_widths, same-out}
use Rattle.pr_lang_same_tree.proofs.meaning_law.Goals as goal

pub returns : goal.returns
returns c = record { widths = same-has_widths; rows = same-out }
