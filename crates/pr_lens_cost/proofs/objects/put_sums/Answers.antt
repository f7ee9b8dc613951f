use Rattle.std.proofs.Common.{codes}
use Rattle.std.proofs.lemmas.Result.{on_ok_weaker}
use Rattle.pr_lens_text.proofs.PutLemmas.{two_put}
use Rattle.pr_lens_cost.specs.Objects.{member, sums_text}
use Rattle.pr_lens_cost.proofs.objects.put_sums.Goals as goal

pub returns : goal.returns
unfolding sums_text
returns c =
    on_ok_weaker c.put_member-2.result (λ h. two_put c.args.text.now.items (member (codes ",\"equations\":") c.args.equations) (member (codes ",\"units\":") c.args.units)
    c.in_ok-put_member.ensures h) c.put_member-2.ensures
