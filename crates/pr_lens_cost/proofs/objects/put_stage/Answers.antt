use Rattle.std.proofs.Common.{codes}
use Rattle.std.proofs.lemmas.Result.{on_ok_weaker}
use Rattle.pr_lens_text.proofs.PutLemmas.{five_put}
use Rattle.pr_lens_cost.specs.Objects.{comma, member, stage_object}
use Rattle.pr_lens_cost.proofs.objects.put_stage.Goals as goal

pub returns : goal.returns
unfolding stage_object
returns c =
    let stage = c.args.stage.now in
    on_ok_weaker c.put-2.result (λ h. five_put c.args.text.now.items (comma c.args.number) (member (codes "{\"columns\":") stage.cells) (member (codes ",\"registers\":") stage.writes) (member (codes ",\"states\":") stage.states) (codes "}")
    (rw c.comma.ensures at c.in_ok-put.ensures) c.in_ok-put_member.ensures c.in_ok-put_member-2.ensures c.in_ok-put_member-3.ensures h) c.put-2.ensures
