use Rattle.pr_lens_rtl_names.specs.Names.{handshake_text}
use Rattle.pr_lens_rtl_names.proofs.names.is_in_handshake.Goals as goal

pub returns : goal.returns
unfolding handshake_text
returns c = c.occurs.ensures
