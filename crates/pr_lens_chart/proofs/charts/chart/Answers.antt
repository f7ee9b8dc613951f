use Rattle.std.proofs.Common.{◌∙◌}
use Rattle.std.proofs.lemmas.Result.{IfOk-weaker}
use Rattle.pr_lens_chart.proofs.PictureLaws.{kept_chart}
use Rattle.pr_lens_chart.proofs.charts.chart.Goals as goal

pub returns : goal.returns
returns c = λ window tale h. IfOk-weaker c.picture.result _ _ (λ text is. is ∙ kept_chart window tale c.args.log h) c.picture.ensures
