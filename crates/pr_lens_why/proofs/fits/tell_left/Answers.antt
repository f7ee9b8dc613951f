use Rattle.std.proofs.Common.{codes, decimal, refl}
use Rattle.std.proofs.lemmas.Result.{on_ok_weaker}
use Rattle.pr_lens_text.proofs.PutLemmas.{four_put}
use Rattle.pr_lens_why.specs.Limits.{left_text}
use Rattle.pr_lens_why.proofs.fits.tell_left.Goals as goal

pub returns : goal.returns
unfolding left_text
returns c = on_ok_weaker c.put_counted-2.result (λ h. four_put c.args.message.now.items (codes ", ") (decimal c.args.each) (codes " in a column. The unit that is left takes ") (decimal c.args.needed) refl c.in_ok-put_counted.ensures refl h) c.put_counted-2.ensures
