use Rattle.std.proofs.Common.{option_map, sym, ap, ◌∙◌}
use Rattle.pr_tool_share.specs.EntryLines.{entry_said}
use Rattle.pr_tool_share.proofs.QuotaFacts.{quota_wrong}
use Rattle.pr_tool_share.proofs.entries.program_of.Goals as goal

pub returns-in_err-text_of : goal.returns-in_err-text_of
returns-in_err-text_of c =
    ap (option_map entry_said) c.from_residual-in_err-text_of.ensures
    ∙ sym (quota_wrong c.args.line.now c.in_ok-program.program.now c.in_ok-program.samples.now c.in_ok-program.quota.now c.in_ok-program.ensures c.in_err-text_of.ensures)
