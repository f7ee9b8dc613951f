use Rattle.std.proofs.Common.{◌+◌, codes, decimal, min}
use Rattle.std.proofs.lemmas.Result.{on_ok_weaker}
use Rattle.pr_lens_show.specs.Findings.{where_text}
use Rattle.pr_lens_show.specs.Json.{json_string}
use Rattle.pr_lens_show.proofs.Texts.{eight_put}
use Rattle.pr_lens_show.proofs.findings.put_where.Goals as goal

pub returns : goal.returns
unfolding where_text
returns c =
    let place = c.args.place in
    on_ok_weaker c.put_counted-3.result (λ h. eight_put c.args.told.now.items (codes "{\"file\":") (json_string c.args.name.now) (codes ",\"line\":") (decimal place.line) (codes ",\"column\":") (decimal place.column) (codes ",\"end_column\":") (decimal (min (place.column + c.args.bytes) 18446744073709551615))
    c.in_ok-put.ensures (rw c.as_bytes.ensures.value at c.in_ok-put_string.ensures) c.in_ok-put_counted.ensures c.in_ok-put_counted-2.ensures (rw c.saturating_add.ensures at h)) c.put_counted-3.ensures
