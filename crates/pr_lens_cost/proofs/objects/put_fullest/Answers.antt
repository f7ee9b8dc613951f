use Rattle.std.proofs.Common.{codes}
use Rattle.std.proofs.lemmas.Result.{on_ok_weaker}
use Rattle.pr_lens_text.proofs.PutLemmas.{three_put}
use Rattle.pr_lens_cost.specs.Objects.{fullest_member, member}
use Rattle.pr_lens_cost.proofs.objects.put_fullest.Goals as goal

pub returns : goal.returns
unfolding fullest_member
returns c =
    on_ok_weaker c.put.result (λ h. three_put c.args.text.now.items (member (codes ",\"fullest\":{\"stage\":") c.args.number) (member (codes ",\"columns\":") c.args.cells) (codes "}")
    c.in_ok-put_member.ensures c.in_ok-put_member-2.ensures h) c.put.ensures
