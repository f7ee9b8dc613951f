use Rattle.std.proofs.Common.{ap₂, ◌∙◌}
use Rattle.std.proofs.lemmas.Result.{IfOk-weaker}
use Rattle.clap.specs.Words.{with_rule}
use Rattle.pr_lens_tool.specs.Orders.{app}
use Rattle.pr_lens_tool.proofs.asking.command.Goals as goal

pub returns : goal.returns
unfolding app
returns c =
    let task = c.in_ok-task.ensures.shape c.place.ensures.local ∙ ap₂ with_rule c.new.ensures.app c.place.ensures.rule in
    let file = c.in_ok-file.ensures.shape c.place-2.ensures.local ∙ ap₂ with_rule task c.place-2.ensures.rule in
    let second = c.in_ok-second.ensures.shape c.place-3.ensures.local ∙ ap₂ with_rule file c.place-3.ensures.rule in
    let fabric = c.in_ok-fabric.ensures.shape c.option_or.ensures.local ∙ ap₂ with_rule second c.option_or.ensures.rule in
    let narrow = c.in_ok-narrow.ensures.shape c.flag.ensures.local ∙ ap₂ with_rule fabric c.flag.ensures.rule in
    let samples = c.in_ok-samples.ensures.shape c.option_or-2.ensures.local ∙ ap₂ with_rule narrow c.option_or-2.ensures.rule in
    let json = c.in_ok-json.ensures.shape c.flag-2.ensures.local ∙ ap₂ with_rule samples c.flag-2.ensures.rule in
    let csv = c.in_ok-csv.ensures.shape c.flag-3.ensures.local ∙ ap₂ with_rule json c.flag-3.ensures.rule in
    let warnings = c.in_ok-warnings.ensures.shape c.flag-4.ensures.local ∙ ap₂ with_rule csv c.flag-4.ensures.rule in
    let name = c.in_ok-name.ensures.shape c.option_or-3.ensures.local ∙ ap₂ with_rule warnings c.option_or-3.ensures.rule in
    let signed = c.in_ok-signed.ensures.shape c.option.ensures.local ∙ ap₂ with_rule name c.option.ensures.rule in
    let seed = c.in_ok-seed.ensures.shape c.option_or-4.ensures.local ∙ ap₂ with_rule signed c.option_or-4.ensures.rule in
    let from = c.in_ok-from.ensures.shape c.option_or-5.ensures.local ∙ ap₂ with_rule seed c.option_or-5.ensures.rule in
    IfOk-weaker c.arg-14.result _ _ (λ r h. h.shape c.option_or-6.ensures.local ∙ ap₂ with_rule from c.option_or-6.ensures.rule) c.arg-14.ensures
