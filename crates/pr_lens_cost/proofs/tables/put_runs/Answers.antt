use Rattle.std.proofs.Common.{codes}
use Rattle.std.specs.List.{flat_map}
use Rattle.std.proofs.lemmas.Result.{on_ok_weaker}
use Rattle.pr_lens_cost.specs.Texts.{line_text, row_text, runs_text}
use Rattle.pr_lens_text.proofs.PutLemmas.{three_put}
use Rattle.pr_lens_cost.proofs.tables.put_runs.Goals as goal

pub returns : goal.returns
unfolding runs_text
returns c = on_ok_weaker c.put_rows.result (λ h. three_put c.args.text.now.items (line_text (codes "\nsamples of a run ") c.args.samples) (codes "   stripes   samples per cycle      cycles of a run\n") (flat_map row_text c.args.rows.now) c.in_ok-put_line.ensures c.in_ok-put.ensures h) c.put_rows.ensures
