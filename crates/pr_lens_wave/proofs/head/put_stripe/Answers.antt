use Rattle.std.proofs.Common.{codes, decimal}
use Rattle.std.proofs.lemmas.Result.{IfOk-from_err, on_ok_weaker}
use Rattle.pr_lens_wave.specs.declared.head.Signal.TheVariants.{Stage, Configured}
use Rattle.pr_lens_wave.specs.Waves.{signal_text, stripe_text}
use Rattle.pr_lens_wave.proofs.WaveLaws.{six_put}
use Rattle.pr_lens_wave.proofs.head.put_stripe.Goals as goal

pub returns : goal.returns
unfolding stripe_text
returns c = on_ok_weaker c.put-2.result (λ h. six_put c.args.text.now.items (codes "$scope module stripe_") (decimal c.args.stripe) (codes " $end\n") (signal_text (Stage c.args.stripe)) (signal_text (Configured c.args.stripe)) (codes "$upscope $end\n") c.in_ok-put_counted.ensures c.in_ok-put.ensures c.in_ok-put_signal.ensures c.in_ok-put_signal-2.ensures h) c.put-2.ensures

pub returns-in_err-put_counted : goal.returns-in_err-put_counted
returns-in_err-put_counted c = IfOk-from_err _ _ c.from_residual.ensures.0

pub returns-in_err-put : goal.returns-in_err-put
returns-in_err-put c = IfOk-from_err _ _ c.from_residual-in_err-put.ensures.0

pub returns-in_err-put_signal : goal.returns-in_err-put_signal
returns-in_err-put_signal c = IfOk-from_err _ _ c.from_residual-in_err-put_signal.ensures.0

pub returns-in_err-put_signal-2 : goal.returns-in_err-put_signal-2
returns-in_err-put_signal-2 c = IfOk-from_err _ _ c.from_residual-in_err-put_signal-2.ensures.0
