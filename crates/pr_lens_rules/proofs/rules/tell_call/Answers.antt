use Rattle.std.proofs.Common.{codes}
use Rattle.std.proofs.lemmas.Result.{on_ok_weaker}
use Rattle.pr_lens_rules.specs.Rules.{counts_text}
use Rattle.pr_lens_text.proofs.PutLemmas.{two_put}
use Rattle.pr_lens_rules.proofs.rules.tell_call.Goals as goal

pub returns-in_ok-put-in-None : goal.returns-in_ok-put-in-None
returns-in_ok-put-in-None c =
    rw c.in-None.is (on_ok_weaker c.tell_counts.result (λ h. two_put c.args.message.now.items (codes "`signed` is there from the beginning.\n") (counts_text 1 c.args.given) c.in_ok-put-in-None.ensures h) c.tell_counts.ensures)
