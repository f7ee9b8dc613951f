use Rattle.std.proofs.Common.{ap₂, ◌∙◌}
use Rattle.std.proofs.lemmas.Result.{IfOk-weaker}
use Rattle.clap.specs.Words.{with_rule}
use Rattle.pr_tool_words.specs.Shape.{app}
use Rattle.pr_tool_words.proofs.parsing.command.Goals as goal

pub returns : goal.returns
unfolding app
returns c =
    let mode = c.in_ok-mode.ensures.shape c.place.ensures.local ∙ ap₂ with_rule c.new.ensures.app c.place.ensures.rule in
    let first = c.in_ok-first.ensures.shape c.place-2.ensures.local ∙ ap₂ with_rule mode c.place-2.ensures.rule in
    let second = c.in_ok-second.ensures.shape c.place-3.ensures.local ∙ ap₂ with_rule first c.place-3.ensures.rule in
    let stripes = c.in_ok-stripes.ensures.shape c.option_or.ensures.local ∙ ap₂ with_rule second c.option_or.ensures.rule in
    let stall = c.in_ok-stall.ensures.shape c.option.ensures.local ∙ ap₂ with_rule stripes c.option.ensures.rule in
    let fabric = c.in_ok-fabric.ensures.shape c.option_or-2.ensures.local ∙ ap₂ with_rule stall c.option_or-2.ensures.rule in
    IfOk-weaker c.arg-7.result _ _ (λ r h. h.shape c.flag.ensures.local ∙ ap₂ with_rule fabric c.flag.ensures.rule) c.arg-7.ensures
