use Rattle.pr_lang_meaning.proofs.EvenPrograms.{same-has_widths, same-forms_of}
use Rattle.pr_lang_meaning.proofs.widths_law.Goals as goal

pub returns : goal.returns
returns c = record { widths = same-has_widths; forms = same-forms_of }
