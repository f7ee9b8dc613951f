use Rattle.std.proofs.Common.{All, sym, subst, ◌∙◌}
use Rattle.pr_tool_modes.proofs.InputWidths.{IsInputWidth, lawful_inputs}
use Rattle.pr_lens_bench.proofs.benches.feed_of.Goals as goal

pub make-requires : goal.make-requires
make-requires c =
    let scoped = c.args.trial.now.front.scoped in
    subst (All IsInputWidth) (sym (c.deref.ensures.value ∙ scoped.declared)) (lawful_inputs scoped.program scoped.lawful)
