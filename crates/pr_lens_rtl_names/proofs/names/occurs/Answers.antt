use Rattle.std.proofs.Common.{◌∙◌, sym}
use Rattle.pr_lens_rtl_names.proofs.NameLemmas.{occurs_more}
use Rattle.pr_lens_rtl_names.proofs.names.occurs.Goals as goal

pub loop-at-preserved : goal.loop-at-preserved
loop-at-preserved c = occurs_more c.args.text.now c.args.piece.now _ c.loop-at.at 0 c.loop-at-test.true (sym c.begins.ensures ∙ c.if-begins.false) c.loop-at.invariant
