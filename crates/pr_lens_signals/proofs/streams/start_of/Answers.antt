use Rattle.std.proofs.Common.{All, sym, subst, ◌∙◌}
use Rattle.pr_tool_modes.proofs.InputWidths.{IsInputWidth, lawful_inputs}
use Rattle.pr_lens_signals.proofs.streams.start_of.Goals as goal

pub make-requires : goal.make-requires
make-requires c =
    let scoped = c.args.showing.now.probed.scoped in
    subst (All IsInputWidth) (sym (c.deref.ensures.value ∙ scoped.declared)) (lawful_inputs scoped.program scoped.lawful)
