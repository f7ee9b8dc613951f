use Rattle.std.proofs.Common.{codes}
use Rattle.std.proofs.lemmas.Result.{on_ok_weaker}
use Rattle.pr_lens_text.proofs.PutLemmas.{five_put}
use Rattle.pr_base.specs.Fabrics.{columns}
use Rattle.pr_lens_cost.specs.Objects.{fabric_name, member, setting_text, truth}
use Rattle.pr_lens_cost.proofs.objects.put_setting.Goals as goal

pub returns : goal.returns
unfolding setting_text
returns c =
    let setting = c.args.setting.now in
    on_ok_weaker c.put_member.result (λ h. five_put c.args.text.now.items (codes "{\"fabric\":\"") (fabric_name setting.fabric) (codes "\",\"narrowed\":") (truth setting.narrowed) (member (codes ",\"columns\":") (columns setting.fabric))
    c.in_ok-put.ensures (rw c.fabric_name.ensures at c.in_ok-put-2.ensures) c.in_ok-put-3.ensures (rw c.truth.ensures at c.in_ok-put-4.ensures) (rw c.columns.ensures at h)) c.put_member.ensures
