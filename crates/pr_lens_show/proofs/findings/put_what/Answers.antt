use Rattle.std.proofs.Common.{codes}
use Rattle.std.proofs.lemmas.Result.{on_ok_weaker}
use Rattle.pr_lens_show.specs.Findings.{severity_text, what_text, without_end}
use Rattle.pr_lens_show.specs.Json.{json_string}
use Rattle.pr_lens_text.proofs.PutLemmas.{seven_put}
use Rattle.pr_lens_show.proofs.findings.put_what.Goals as goal

pub returns : goal.returns
unfolding what_text
returns c =
    let f = c.args.finding.now in
    on_ok_weaker c.put-5.result (λ h. seven_put c.args.told.now.items (codes ",\"severity\":\"") (severity_text f.severity) (codes "\",\"code\":\"") f.code.now (codes "\",\"message\":") (json_string (without_end f.message.now)) (codes "}\n")
    c.in_ok-put.ensures (rw c.severity_text.ensures at c.in_ok-put-2.ensures) c.in_ok-put-3.ensures c.in_ok-extend_from_slice.ensures.items c.in_ok-put-4.ensures (rw c.without_end.ensures at c.in_ok-put_string.ensures) h) c.put-5.ensures
