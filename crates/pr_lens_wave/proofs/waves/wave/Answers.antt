use Rattle.std.proofs.Common.{◌∙◌, ◌++◌, ℕ, List, ap}
use Rattle.std.proofs.lemmas.Result.{IfOk-from_err}
use Rattle.pr_lens_wave.specs.Scenes.{kept_text}
use Rattle.pr_lens_wave.specs.Waves.{head_text}
use Rattle.pr_lens_wave.proofs.WaveLaws.{kept_wave}
use Rattle.pr_lens_wave.proofs.waves.wave.Goals as goal

pub returns-in_err-put_head : goal.returns-in_err-put_head
returns-in_err-put_head c = λ window tale h. IfOk-from_err _ _ c.from_residual.ensures.0

pub returns-in_err-put_cycles : goal.returns-in_err-put_cycles
returns-in_err-put_cycles c = λ window tale h. IfOk-from_err _ _ c.from_residual-in_err-put_cycles.ensures.0

pub returns : goal.returns
returns c = λ window tale h.
    let head = c.in_ok-put_head.ensures ∙ ap (λ (t : List ℕ). t ++ head_text c.args.log.totals.stripes) c.new-text.ensures.items in
    c.in_ok-put_cycles.ensures ∙ (ap (kept_text c.args.log) head ∙ kept_wave window tale c.args.log h)
