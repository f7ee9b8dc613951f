use Rattle.pr_lens_warn.proofs.FindingLemmas.{told_more}
use Rattle.pr_lens_warn.proofs.findings.put_all.Goals as goal

pub loop-warning-preserved : goal.loop-warning-preserved
loop-warning-preserved c =
    let source = c.args.source.now in
    told_more c.args.json c.args.name.now source.text.now source.tokens.now c.args.warnings.now c.loop-warning.warning-index _ c.args.told.now.items c.loop-warning.told.items c.put_warning.new.told.items
    c.loop-warning-test.true c.loop-warning.invariant c.in_ok-put_warning.ensures
