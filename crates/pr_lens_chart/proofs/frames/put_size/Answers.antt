use Rattle.std.proofs.Common.{codes, decimal}
use Rattle.std.proofs.lemmas.Result.{IfOk-from_err, on_ok_weaker}
use Rattle.pr_lens_chart.specs.Pictures.{svg_text}
use Rattle.pr_lens_chart.proofs.PictureLaws.{three_put}
use Rattle.pr_lens_chart.proofs.frames.put_size.Goals as goal

pub returns : goal.returns
unfolding svg_text
returns c = on_ok_weaker c.put.result (λ h. three_put c.args.text.now.items (codes "<svg xmlns=\"http://www.w3.org/2000/svg\" width=\"") (decimal c.args.width) (codes "\" height=\"") (decimal c.args.height) (codes "\">\n<style>\n") c.in_ok-put_counted.ensures c.in_ok-put_counted-2.ensures h) c.put.ensures

pub returns-in_err-put_counted : goal.returns-in_err-put_counted
returns-in_err-put_counted c = IfOk-from_err _ _ c.from_residual.ensures.0

pub returns-in_err-put_counted-2 : goal.returns-in_err-put_counted-2
returns-in_err-put_counted-2 c = IfOk-from_err _ _ c.from_residual-in_err-put_counted-2.ensures.0
