use Rattle.std.proofs.Common.{codes}
use Rattle.std.proofs.lemmas.Result.{on_ok_weaker}
use Rattle.pr_lens_text.proofs.PutLemmas.{five_put}
use Rattle.pr_lens_cost.specs.Objects.{member, truth, way_member}
use Rattle.pr_lens_cost.proofs.objects.put_way.Goals as goal

pub returns : goal.returns
unfolding way_member
returns c =
    let other = c.args.other.now in
    on_ok_weaker c.put-3.result (λ h. five_put c.args.text.now.items (codes ",\"other_way\":{\"narrowed\":") (truth other.narrowed) (member (codes ",\"units\":") other.units) (member (codes ",\"stages\":") other.stages) (codes "}")
    c.in_ok-put.ensures (rw c.truth.ensures at c.in_ok-put-2.ensures) c.in_ok-put_member.ensures c.in_ok-put_member-2.ensures h) c.put-3.ensures
