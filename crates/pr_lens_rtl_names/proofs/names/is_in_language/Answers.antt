use Rattle.pr_lens_rtl_names.specs.Names.{language_text}
use Rattle.pr_lens_rtl_names.proofs.names.is_in_language.Goals as goal

pub returns : goal.returns
unfolding language_text
returns c = c.occurs.ensures
