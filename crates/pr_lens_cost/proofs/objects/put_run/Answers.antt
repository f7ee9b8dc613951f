use Rattle.std.proofs.Common.{codes}
use Rattle.std.proofs.lemmas.Result.{on_ok_weaker}
use Rattle.pr_lens_text.proofs.PutLemmas.{four_put}
use Rattle.pr_lens_cost.specs.Objects.{member, run_objects, run_text}
use Rattle.pr_lens_cost.proofs.objects.put_run.Goals as goal

pub returns : goal.returns
unfolding run_text
returns c =
    on_ok_weaker c.put-2.result (λ h. four_put c.args.text.now.items (member (codes ",\"samples\":") c.args.samples) (codes ",\"runs\":[") (run_objects 0 c.args.rows.now) (codes "]}\n")
    c.in_ok-put_member.ensures c.in_ok-put.ensures c.in_ok-put_rows.ensures h) c.put-2.ensures
