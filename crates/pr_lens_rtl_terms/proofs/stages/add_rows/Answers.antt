use Rattle.pr_lens_rtl_terms.specs.Terms.{assigns_of}
use Rattle.pr_lens_rtl_terms.proofs.StageLemmas.{rows_more}
use Rattle.pr_lens_rtl_terms.proofs.stages.add_rows.Goals as goal

pub loop-before-preserved : goal.loop-before-preserved
loop-before-preserved c = rw c.in_ok-add_bank.ensures (rows_more c.args.columns c.args.stage c.loop-before.before c.args.pes.now (assigns_of c.args.lines.now.items) _ c.loop-before.invariant)
