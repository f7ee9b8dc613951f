use Rattle.std.proofs.Common.{codes}
use Rattle.std.proofs.lemmas.Result.{on_ok_weaker}
use Rattle.pr_lens_text.proofs.PutLemmas.{six_put}
use Rattle.pr_lens_cost.specs.Objects.{comma, member, run_object}
use Rattle.pr_lens_cost.proofs.objects.put_row.Goals as goal

pub returns : goal.returns
unfolding run_object
returns c =
    let row = c.args.row.now in
    on_ok_weaker c.put-2.result (λ h. six_put c.args.text.now.items (comma c.args.number) (member (codes "{\"stripes\":") row.stripes) (member (codes ",\"rate\":{\"samples\":") row.rate.samples) (member (codes ",\"cycles\":") row.rate.cycles) (member (codes "},\"cycles\":") row.cycles) (codes "}")
    (rw c.comma.ensures at c.in_ok-put.ensures) c.in_ok-put_member.ensures c.in_ok-put_member-2.ensures c.in_ok-put_member-3.ensures c.in_ok-put_member-4.ensures h) c.put-2.ensures
